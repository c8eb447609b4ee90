-- `integers::integer`: 6 where the content has no number, then 7 by the number.
use Rattle.integers.specs.Laws.{integer-bad, integer_good, integer-other}
use borrow.Author.Rules.{rules}
use Rattle.integers.proofs.integer.Goals as goal

pub returns-in_default : goal.returns-in_default
returns-in_default c = search (rules, integer-bad)

pub returns-then-is_allowed : goal.returns-then-is_allowed
returns-then-is_allowed c = search (rules, integer_good)

pub returns-else-is_allowed : goal.returns-else-is_allowed
returns-else-is_allowed c = search (rules, integer-other)
