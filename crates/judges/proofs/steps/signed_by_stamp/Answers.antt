-- `judges::steps::signed_by_stamp`: by its row.
use Rattle.judges.specs.Laws.{after-told, after-told_none}
use borrow.Author.Rules.{rules}
use Rattle.judges.proofs.steps.signed_by_stamp.Goals as goal

pub returns-in_default : goal.returns-in_default
returns-in_default c = search (rules, after-told_none)

pub returns : goal.returns
returns c = search (rules, after-told)
