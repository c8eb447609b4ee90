-- `items::outermost`: as `head`, with 17 between.
use Rattle.items.specs.Laws.{not_opened, opened-within, opened_fits, outermost_large, outermost-opened}
use Rattle.heads.specs.Head.{outermost}
use Rattle.heads.specs.Scan.{outermost_at}
use Rattle.windows.specs.Laws.Window.{clamp_in}
use borrow.Author.Rules.{rules}
use Rattle.items.proofs.outermost.Goals as goal

pub open-requires : goal.open-requires
open-requires c = search (rules, clamp_in)

pub overflow_add-opened : goal.overflow_add-opened
overflow_add-opened c = search (rules, opened_fits)

pub returns-then-most-opened : goal.returns-then-most-opened
returns-then-most-opened c = search (rules, outermost_large)

pub room-requires : goal.room-requires
room-requires c = search (rules, opened-within)

pub returns-in_err-opened : goal.returns-in_err-opened
unfolding outermost_at outermost
returns-in_err-opened c = search (rules, not_opened)

pub returns : goal.returns
returns c = search (rules, outermost-opened)
