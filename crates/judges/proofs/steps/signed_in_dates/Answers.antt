-- `judges::steps::signed_in_dates`: by its row.
use Rattle.judges.specs.Laws.{dates_told}
use borrow.Author.Rules.{rules}
use Rattle.judges.proofs.steps.signed_in_dates.Goals as goal

pub returns : goal.returns
returns c = search (rules, dates_told)
