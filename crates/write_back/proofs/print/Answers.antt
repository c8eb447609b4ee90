-- `write_back::print`: what is written is a part of what came back.
use Rattle.std.proofs.Common.{rules}
use Rattle.round_trips.specs.Laws.{returned_room, returned_cut}
use Rattle.write_back.proofs.print.Goals as goal

pub slice_bounds-back-end : goal.slice_bounds-back-end
slice_bounds-back-end g c = search (rules, returned_room)

pub slice_bounds-write_all-end : goal.slice_bounds-write_all-end
slice_bounds-write_all-end g c = search (rules, returned_cut)
