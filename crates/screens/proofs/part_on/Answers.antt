-- `screens::part_on`: the part that stands under the line's name.
use Rattle.screens.specs.Laws.{part_on}
use borrow.Author.Rules.{rules}
use Rattle.screens.proofs.part_on.Goals as goal

pub returns : goal.returns
returns c = search (rules, part_on)
