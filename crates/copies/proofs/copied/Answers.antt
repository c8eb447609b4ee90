-- `copies::copied`: what is left of the slice is still to be stored; past the end it is counted alone.
use Rattle.stores.specs.Laws.Steps.{copied_past, copied_on, copied_end, room-end, room-size}
use borrow.Author.Rules.{rules}
use Rattle.copies.proofs.copied.Goals as goal

pub returns-then-dst-o : goal.returns-then-dst-o
returns-then-dst-o c = search (rules, copied_past)

pub copy-requires : goal.copy-requires
copy-requires c = record { small = search (rules, room-end); fits = search (rules, room-size) }

pub loop-b-preserved : goal.loop-b-preserved
loop-b-preserved c = search (rules, copied_on)

pub returns : goal.returns
returns c = search (rules, copied_end)
