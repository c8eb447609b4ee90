-- `judges::steps::signed_in_period`: by its row.
use Rattle.judges.specs.Laws.{period_told}
use borrow.Author.Rules.{rules}
use Rattle.judges.proofs.steps.signed_in_period.Goals as goal

pub returns : goal.returns
returns c = search (rules, period_told)
