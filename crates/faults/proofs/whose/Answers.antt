-- `faults::whose`: no name, or the one whose number is one less.
use borrow.Author.Rules.{rules}
use Rattle.faults.specs.Laws.{whose_record, whose_field}
use Rattle.faults.proofs.whose.Goals as goal

pub returns-then-n-eq0 : goal.returns-then-n-eq0
returns-then-n-eq0 c = search (rules, whose_record)

pub returns : goal.returns
returns c = search (rules, whose_field)
