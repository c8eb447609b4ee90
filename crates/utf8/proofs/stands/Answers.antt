-- `utf8::stands`: past the end stands nothing, and a byte lies in its range by both ends.
use Rattle.utf8.specs.Laws.{stands_end, stands_low, stands_high}
use borrow.Author.Rules.{rules}
use Rattle.utf8.proofs.stands.Goals as goal

pub returns-then-w-i : goal.returns-then-w-i
returns-then-w-i c = search (rules, stands_end)

pub returns-then-low-w : goal.returns-then-low-w
returns-then-low-w c = search (rules, stands_high)

pub returns-else-low-w : goal.returns-else-low-w
returns-else-low-w c = search (rules, stands_low)
