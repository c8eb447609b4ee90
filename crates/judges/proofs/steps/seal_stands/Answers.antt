-- `judges::steps::seal_stands`: by its row.
use Rattle.judges.specs.Laws.{withdrawn-told}
use borrow.Author.Rules.{rules}
use Rattle.judges.proofs.steps.seal_stands.Goals as goal

pub returns : goal.returns
returns c = search (rules, withdrawn-told)
