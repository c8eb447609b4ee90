-- Item, list, member and row call one another; what stands in an item is smaller than the item.
use borrow.Author.Rules.{rules}
use borrow.Author.Tests.{not-true, not-false}
use Rattle.rows.specs.Size.{smaller, row_fewer, size-first, chain}
use Rattle.entries.specs.Laws.{handed}
use Rattle.walks.specs.Laws.{item-steps, list_steps, member-steps, row-steps, many_on, row_first, row_next}
use Rattle.walks.proofs.+item_list_member_row.Goals as goal

pub item-returns-in-Leaf : goal.item-returns-in-Leaf
item-returns-in-Leaf t c = search (rules, item-steps)

pub item-returns-in_err-inside-in-Node : goal.item-returns-in_err-inside-in-Node
item-returns-in_err-inside-in-Node t c = search (rules, item-steps, c.in_err-inside-in-Node.was, handed c.from_residual.result c.in_err-inside-in-Node.field-0.0 c.from_residual.ensures)

pub item-row-read-requires : goal.item-row-read-requires
item-row-read-requires t c = search (rules, smaller)

pub item-returns-in_ok-inside-in-Node : goal.item-returns-in_ok-inside-in-Node
item-returns-in_ok-inside-in-Node t c = search (rules, item-steps, c.in_ok-inside-in-Node.was)

pub item-returns-in_err-inside-in-List : goal.item-returns-in_err-inside-in-List
item-returns-in_err-inside-in-List t c = search (rules, item-steps, c.in_err-inside-in-List.was, handed c.from_residual-in_err-inside-in-List.result c.in_err-inside-in-List.field-0.0 c.from_residual-in_err-inside-in-List.ensures)

pub item-list-read-requires : goal.item-list-read-requires
item-list-read-requires t c = search (rules, smaller)

pub item-returns-in_err-count-in-List : goal.item-returns-in_err-count-in-List
item-returns-in_err-count-in-List t c = search (rules, item-steps, c.in_ok-inside-in-List.was, c.in_err-count-in-List.was, handed c.from_residual-in_err-count-in-List.result c.in_err-count-in-List.field-0.0 c.from_residual-in_err-count-in-List.ensures)

pub item-returns-in_ok-count-in-List : goal.item-returns-in_ok-count-in-List
item-returns-in_ok-count-in-List t c = search (rules, item-steps, c.in_ok-inside-in-List.was, c.in_ok-count-in-List.was)

pub item-returns-in_err-inside-in-Wrap : goal.item-returns-in_err-inside-in-Wrap
item-returns-in_err-inside-in-Wrap t c = search (rules, item-steps, c.in_err-inside-in-Wrap.was, handed c.from_residual-in_err-inside-in-Wrap.result c.in_err-inside-in-Wrap.field-0.0 c.from_residual-in_err-inside-in-Wrap.ensures)

pub item-item-requires : goal.item-item-requires
item-item-requires t c = search (rules, smaller)

pub item-returns-in_err-next-in-Wrap : goal.item-returns-in_err-next-in-Wrap
item-returns-in_err-next-in-Wrap t c = search (rules, item-steps, c.in_ok-inside-in-Wrap.was, c.in_err-next-in-Wrap.was, handed c.from_residual-in_err-next-in-Wrap.result c.in_err-next-in-Wrap.field-0.0 c.from_residual-in_err-next-in-Wrap.ensures)

pub item-returns-in_ok-next-in-Wrap : goal.item-returns-in_ok-next-in-Wrap
item-returns-in_ok-next-in-Wrap t c = search (rules, item-steps, c.in_ok-inside-in-Wrap.was, c.in_ok-next-in-Wrap.was)

pub list-returns-then-end-p : goal.list-returns-then-end-p
list-returns-then-end-p t c = search (rules, list_steps, chain)

pub list-returns-in_err-p : goal.list-returns-in_err-p
list-returns-in_err-p t c = search (rules, list_steps, chain, c.in_err-p.was, handed c.from_residual.result c.in_err-p.field-0.0 c.from_residual.ensures)

pub list-loop-k-preserved : goal.list-loop-k-preserved
list-loop-k-preserved t c = (search rules, search (rules, chain, many_on, c.in_ok-p.was))

pub list-returns-then-p-end : goal.list-returns-then-p-end
list-returns-then-p-end t c = search (rules, list_steps, chain)

pub list-returns : goal.list-returns
list-returns t c = search (rules, list_steps, chain)

pub member-returns-in-Blank : goal.member-returns-in-Blank
member-returns-in-Blank t c = search (rules, member-steps)

pub member-returns-in-Known : goal.member-returns-in-Known
member-returns-in-Known t c = search (rules, member-steps)

pub member-returns-in-Leaf : goal.member-returns-in-Leaf
member-returns-in-Leaf t c = search (rules, member-steps)

pub member-item-requires : goal.member-item-requires
member-item-requires t c = search (rules, smaller)

pub member-returns-in-Part : goal.member-returns-in-Part
member-returns-in-Part t c = search (rules, member-steps)

pub member-returns-then-not-begins : goal.member-returns-then-not-begins
member-returns-then-not-begins t c = search (rules, member-steps, not-true)

pub member-item-requires-in-Maybe : goal.member-item-requires-in-Maybe
member-item-requires-in-Maybe t c = search (rules, smaller)

pub member-returns-else-not-begins : goal.member-returns-else-not-begins
member-returns-else-not-begins t c = search (rules, member-steps, not-false)

pub member-returns-then-not-begins-2 : goal.member-returns-then-not-begins-2
member-returns-then-not-begins-2 t c = search (rules, member-steps, not-true)

pub member-returns-else-not-begins-2 : goal.member-returns-else-not-begins-2
member-returns-else-not-begins-2 t c = search (rules, member-steps, not-false)

pub member-returns-in_err-value-in-Choice : goal.member-returns-in_err-value-in-Choice
member-returns-in_err-value-in-Choice t c = search (rules, member-steps, c.in_err-value-in-Choice.was, handed c.from_residual.result c.in_err-value-in-Choice.field-0.0 c.from_residual.ensures)

pub member-item-requires-then-is_content : goal.member-item-requires-then-is_content
member-item-requires-then-is_content t c = search (rules, smaller)

pub member-returns-then-is_content : goal.member-returns-then-is_content
member-returns-then-is_content t c = search (rules, member-steps, c.in_ok-value-in-Choice.was)

pub member-item-requires-in-Choice : goal.member-item-requires-in-Choice
member-item-requires-in-Choice t c = search (rules, smaller)

pub member-returns-else-is_content : goal.member-returns-else-is_content
member-returns-else-is_content t c = search (rules, member-steps, c.in_ok-value-in-Choice.was)

pub row-loop-m-init : goal.row-loop-m-init
row-loop-m-init t c = (search rules, search rules, search (rules, size-first), search (rules, row_first))

pub row-member-requires : goal.row-member-requires
row-member-requires t c = search (rules, smaller)

pub row-returns-in-Err : goal.row-returns-in-Err
row-returns-in-Err t c = search (rules, row-steps)

pub row-loop-m-preserved : goal.row-loop-m-preserved
row-loop-m-preserved t c = (search rules, search rules, search (rules, row_fewer), search (rules, chain, row_next))

pub row-returns : goal.row-returns
row-returns t c = search (rules, row-steps)
