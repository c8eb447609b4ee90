-- `judges::steps::signature_is_good`: by its row.
use Rattle.judges.specs.Laws.{signature-told}
use borrow.Author.Rules.{rules}
use Rattle.judges.proofs.steps.signature_is_good.Goals as goal

pub returns : goal.returns
returns c = search (rules, signature-told)
