-- `items::head`: what was opened is cut off the window, what was not is refused.
use Rattle.items.specs.Laws.{not_opened, opened-within, head_opened}
use Rattle.heads.specs.Head.{head}
use Rattle.heads.specs.Scan.{head_at}
use Rattle.windows.specs.Laws.Window.{clamp_in}
use borrow.Author.Rules.{rules}
use Rattle.items.proofs.head.Goals as goal

pub open-requires : goal.open-requires
open-requires c = search (rules, clamp_in)

pub room-requires : goal.room-requires
room-requires c = search (rules, opened-within)

pub returns-in_err-open : goal.returns-in_err-open
unfolding head_at head
returns-in_err-open c = search (rules, not_opened)

pub returns : goal.returns
returns c = search (rules, head_opened)
