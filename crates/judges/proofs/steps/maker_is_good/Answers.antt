-- `judges::steps::maker_is_good`: by its row.
use Rattle.judges.specs.Laws.{maker_told, maker_told_alone}
use borrow.Author.Rules.{rules}
use Rattle.judges.proofs.steps.maker_is_good.Goals as goal

pub returns : goal.returns
returns c = search (rules, maker_told, maker_told_alone)
