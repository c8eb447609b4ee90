-- `integers::version`: 6 where the content has no number, then 7 by the content.
use Rattle.integers.specs.Laws.{version-bad, version_good, version-other}
use borrow.Author.Rules.{rules}
use Rattle.integers.proofs.version.Goals as goal

pub returns-in_default : goal.returns-in_default
returns-in_default c = search (rules, version-bad)

pub returns-then-is_same : goal.returns-then-is_same
returns-then-is_same c = search (rules, version_good)

pub returns-else-is_same : goal.returns-else-is_same
returns-else-is_same c = search (rules, version-other)
