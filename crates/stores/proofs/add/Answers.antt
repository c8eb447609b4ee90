-- `stores::add`: where it is, or so much further up to the cap.
use borrow.Author.Rules.{rules}
use Rattle.stores.specs.Laws.Steps.{add_stuck, add_on}
use Rattle.stores.proofs.add.Goals as goal

pub returns-then-o-ge-CAP : goal.returns-then-o-ge-CAP
returns-then-o-ge-CAP c = search (rules, add_stuck)

pub returns-else-o-ge-CAP : goal.returns-else-o-ge-CAP
returns-else-o-ge-CAP c = search (rules, add_on)
