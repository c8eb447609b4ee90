-- `slots::slot_of`: a name is numbered by its place among the names.
use Rattle.slots.specs.Laws.{slot_name}
use borrow.Author.Rules.{rules}
use Rattle.slots.proofs.slot_of.Goals as goal

pub returns : goal.returns
returns c = (search (rules, slot_name), search rules)
