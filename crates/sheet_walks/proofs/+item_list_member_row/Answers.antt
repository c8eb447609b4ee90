-- Item, list, member and row call one another; what stands in an item is smaller than the item.
use Rattle.std.proofs.Common.{arith}
use borrow.Author.Rules.{rules}
use Rattle.counts.specs.Laws.{fits_count}
use Rattle.rows.specs.Size.{smaller, row_fewer, size-first, chain}
use Rattle.sheet_walks.specs.Laws.{item-steps, list_steps, member-steps, row-steps, fits_list, many_on, row_first, row_next, list_items, list_refused, maybe_one}
use Rattle.sheet_walks.proofs.+item_list_member_row.Goals as goal

pub item-row-requires : goal.item-row-requires
item-row-requires t c = search (rules, smaller)

pub item-returns-in_err-n-in-List : goal.item-returns-in_err-n-in-List
item-returns-in_err-n-in-List t c = search (rules, list_refused _ _ _ _ _ c.build_of.ensures _ _ _ _ _ c.in-List.is _ c.list_count.ensures _ c.in_err-n-in-List.was)

pub item-overflow_add-at : goal.item-overflow_add-at
item-overflow_add-at t c = fits_list _ _ _ _ _ _ c.list_count.ensures _ c.in_ok-n-in-List.was (omega arith)

pub item-list-requires : goal.item-list-requires
item-list-requires t c = search (rules, smaller)

pub item-item-requires : goal.item-item-requires
item-item-requires t c = search (rules, smaller)

pub item-returns-in-Leaf : goal.item-returns-in-Leaf
item-returns-in-Leaf t c = search (rules, item-steps)

pub item-returns-in-Node : goal.item-returns-in-Node
item-returns-in-Node t c = search (rules, item-steps)

pub item-returns-in_ok-n-in-List : goal.item-returns-in_ok-n-in-List
item-returns-in_ok-n-in-List t c = search (rules, list_items, c.in_ok-n-in-List.was)

pub item-returns-in-Wrap : goal.item-returns-in-Wrap
item-returns-in-Wrap t c = search (rules, item-steps)

pub member-item-requires : goal.member-item-requires
member-item-requires t c = search (rules, smaller)

pub member-returns-in_err-n-in-Maybe : goal.member-returns-in_err-n-in-Maybe
member-returns-in_err-n-in-Maybe t c = search (rules, member-steps)

pub member-overflow_add-a : goal.member-overflow_add-a
member-overflow_add-a t c = search (rules, fits_count)

pub member-item-requires-in-1 : goal.member-item-requires-in-1
member-item-requires-in-1 t c = search (rules, smaller)

pub member-returns-in_err-value-in-Choice : goal.member-returns-in_err-value-in-Choice
member-returns-in_err-value-in-Choice t c = search (rules, member-steps)

pub member-item-requires-then-is_content : goal.member-item-requires-then-is_content
member-item-requires-then-is_content t c = search (rules, smaller)

pub member-returns-then-is_content : goal.member-returns-then-is_content
member-returns-then-is_content t c = search (rules, member-steps)

pub member-item-requires-in-Choice : goal.member-item-requires-in-Choice
member-item-requires-in-Choice t c = search (rules, smaller)

pub member-returns-in-Blank : goal.member-returns-in-Blank
member-returns-in-Blank t c = search (rules, member-steps)

pub member-returns-in-Known : goal.member-returns-in-Known
member-returns-in-Known t c = search (rules, member-steps)

pub member-returns-in-Leaf : goal.member-returns-in-Leaf
member-returns-in-Leaf t c = search (rules, member-steps)

pub member-returns-in-Part : goal.member-returns-in-Part
member-returns-in-Part t c = search (rules, member-steps)

pub member-returns-in-0 : goal.member-returns-in-0
member-returns-in-0 t c = search (rules, member-steps)

pub member-returns-in-1 : goal.member-returns-in-1
member-returns-in-1 t c = search (rules, maybe_one, c.in_ok-n-in-Maybe.was)

pub member-returns-in_default : goal.member-returns-in_default
member-returns-in_default t c = search (rules, member-steps)

pub member-returns-in-Flag : goal.member-returns-in-Flag
member-returns-in-Flag t c = search (rules, member-steps)

pub member-returns-else-is_content : goal.member-returns-else-is_content
member-returns-else-is_content t c = search (rules, member-steps)

pub row-member-requires : goal.row-member-requires
row-member-requires t c = search (rules, smaller)

pub row-returns-in_err-p : goal.row-returns-in_err-p
row-returns-in_err-p t c = search (rules, row-steps)

pub row-returns : goal.row-returns
row-returns t c = search (rules, row-steps)

pub row-loop-m-init : goal.row-loop-m-init
row-loop-m-init t c = (search rules, search (rules, size-first), search (rules, row_first))

pub row-loop-m-preserved : goal.row-loop-m-preserved
row-loop-m-preserved t c = (search rules, search (rules, row_fewer), search (rules, chain, row_next))

pub list-loop-preserved : goal.list-loop-preserved
list-loop-preserved t c = search (rules, chain, many_on, c.in_ok-p.was)

pub list-item-requires : goal.list-item-requires
list-item-requires t c = search (rules, smaller)

pub list-returns-in_err-p : goal.list-returns-in_err-p
list-returns-in_err-p t c = search (rules, list_steps)

pub list-returns : goal.list-returns
list-returns t c = search (rules, list_steps)
