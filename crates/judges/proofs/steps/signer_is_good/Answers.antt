-- `judges::steps::signer_is_good`: by its row.
use Rattle.judges.specs.Laws.{signer_told}
use borrow.Author.Rules.{rules}
use Rattle.judges.proofs.steps.signer_is_good.Goals as goal

pub returns : goal.returns
returns c = search (rules, signer_told)
