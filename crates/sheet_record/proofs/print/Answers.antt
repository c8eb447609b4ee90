-- `sheet_record::print`: what is written is a part of the sheet.
use Rattle.std.proofs.Common.{rules}
use Rattle.sheets.specs.Laws.{filled-room, filled-cut}
use Rattle.sheet_record.proofs.print.Goals as goal

pub slice_bounds-sheet-end : goal.slice_bounds-sheet-end
slice_bounds-sheet-end g c = search (rules, filled-room)

pub slice_bounds-write_all-end : goal.slice_bounds-write_all-end
slice_bounds-write_all-end g c = search (rules, filled-cut)
