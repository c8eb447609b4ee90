-- `judges::steps::seal_is_good`: by its row.
use Rattle.judges.specs.Laws.{seal-told, seal_told_alone}
use borrow.Author.Rules.{rules}
use Rattle.judges.proofs.steps.seal_is_good.Goals as goal

pub returns : goal.returns
returns c = search (rules, seal-told, seal_told_alone)
