-- `fronts::size`: by the form that has room.
use Rattle.fronts.specs.Laws.{size_short, size_one, size_two, size_none}
use borrow.Author.Rules.{rules}
use Rattle.fronts.proofs.size.Goals as goal

pub returns-then-n-lt128 : goal.returns-then-n-lt128
returns-then-n-lt128 c = search (rules, size_short)

pub returns-then-n-lt256 : goal.returns-then-n-lt256
returns-then-n-lt256 c = search (rules, size_one)

pub returns-then-n-lt65536 : goal.returns-then-n-lt65536
returns-then-n-lt65536 c = search (rules, size_two)

pub returns-else-n-lt65536 : goal.returns-else-n-lt65536
returns-else-n-lt65536 c = search (rules, size_none)
