-- `section_values::value`: bytes as they stand, an integer from the first byte that is needed on.
use Rattle.section_values.specs.Laws.{value-bytes, value-cut, fits_value, value-number}
use borrow.Author.Rules.{rules}
use Rattle.section_values.proofs.value.Goals as goal

pub returns-then-not-is_number : goal.returns-then-not-is_number
returns-then-not-is_number c = search (rules, value-bytes)

pub returns-then-w-ne-INTEGER_BYTES : goal.returns-then-w-ne-INTEGER_BYTES
returns-then-w-ne-INTEGER_BYTES c = search (rules, value-cut)

pub overflow_add-result : goal.overflow_add-result
overflow_add-result c = search (rules, fits_value)

pub returns : goal.returns
returns c = search (rules, value-number)
