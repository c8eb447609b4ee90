-- `judges::steps::signer_is_listed`: by its row.
use Rattle.judges.specs.Laws.{listed-told}
use borrow.Author.Rules.{rules}
use Rattle.judges.proofs.steps.signer_is_listed.Goals as goal

pub returns : goal.returns
returns c = search (rules, listed-told)
