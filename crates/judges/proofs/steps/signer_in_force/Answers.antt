-- `judges::steps::signer_in_force`: by its row.
use Rattle.judges.specs.Laws.{force_told_none, force_told_stamp}
use borrow.Author.Rules.{rules}
use Rattle.judges.proofs.steps.signer_in_force.Goals as goal

pub returns-in_default : goal.returns-in_default
returns-in_default c = search (rules, force_told_none)

pub returns : goal.returns
returns c = search (rules, force_told_stamp)
