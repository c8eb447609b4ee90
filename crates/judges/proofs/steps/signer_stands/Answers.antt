-- `judges::steps::signer_stands`: by its row.
use Rattle.judges.specs.Laws.{revoked-told}
use borrow.Author.Rules.{rules}
use Rattle.judges.proofs.steps.signer_stands.Goals as goal

pub returns : goal.returns
returns c = search (rules, revoked-told)
