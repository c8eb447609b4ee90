-- `faults::name_of`: past the last name, the first.
use borrow.Author.Rules.{rules}
use Rattle.faults.specs.Laws.{name_past}
use Rattle.faults.proofs.name_of.Goals as goal

pub returns : goal.returns
returns c = search (rules, name_past)
