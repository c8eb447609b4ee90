-- `fields::part`: the part that the answer names.
use Rattle.fields.specs.Laws.{part_handed}
use borrow.Author.Rules.{rules}
use Rattle.fields.proofs.part.Goals as goal

pub returns : goal.returns
returns c = search (rules, part_handed)
