-- `judges::steps::stamp_is_good`: by its row.
use Rattle.judges.specs.Laws.{stamp_told, stamp_told_none}
use borrow.Author.Rules.{rules}
use Rattle.judges.proofs.steps.stamp_is_good.Goals as goal

pub returns-then-not-g : goal.returns-then-not-g
returns-then-not-g c = search (rules, stamp_told_none)

pub returns-else-not-g : goal.returns-else-not-g
returns-else-not-g c = search (rules, stamp_told)
