-- `judges::steps::maker_in_force`: by its row.
use Rattle.judges.specs.Laws.{force_told}
use borrow.Author.Rules.{rules}
use Rattle.judges.proofs.steps.maker_in_force.Goals as goal

pub returns : goal.returns
returns c = search (rules, force_told)
