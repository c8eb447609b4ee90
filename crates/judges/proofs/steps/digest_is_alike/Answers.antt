-- `judges::steps::digest_is_alike`: by its row.
use Rattle.judges.specs.Laws.{digest-told}
use borrow.Author.Rules.{rules}
use Rattle.judges.proofs.steps.digest_is_alike.Goals as goal

pub returns : goal.returns
returns c = search (rules, digest-told)
