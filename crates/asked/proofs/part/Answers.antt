-- `asked::part`: a number past the last one, then the field of the number.
use Rattle.asked.specs.Laws.{field_none, field_by}
use borrow.Author.Rules.{rules}
use Rattle.asked.proofs.part.Goals as goal

pub returns-then-field-ge-NAMES_COUNT : goal.returns-then-field-ge-NAMES_COUNT
returns-then-field-ge-NAMES_COUNT c = search (rules, field_none)

pub returns : goal.returns
returns c = search (rules, field_by)
