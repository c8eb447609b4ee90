-- The functions of the cycle call one another; what stands in an item is smaller than the item, and what was noted of it is known when it is stored.
use mathlib.Core.List.{[]}
use borrow.Author.Rules.{rules}
use borrow.Author.Tests.{not-true, not-false}
use Rattle.rows.specs.Size.{size-first, row_fewer, chain, over}
use Rattle.moves.specs.Laws.{smaller, item-steps, held_steps, content-steps, member-steps, list_steps, list_on, row_first, row_next, row_over}
use Rattle.moves.specs.Laws.Table.{ready_size, ready_not}
use Rattle.moves.specs.Laws.Notes.{as_puts, as_ready, first-notes, second-notes, same-notes, member-notes, table_ready, table_note, inside_ready, inside-passed, note_is, inside-noted, inside_known, inside_again, member_ready, rest_ready, rest_puts, first_ready, rest_over, rest_first, one_ready, more_ready, list_puts, list_stopped, list_full}
use Rattle.moves.proofs.+content_held_list_measured_member_noted_row_stored.Goals as goal

pub content-row-requires : goal.content-row-requires
content-row-requires t c = (search (rules, smaller), search (rules, same-notes))

pub content-list-requires : goal.content-list-requires
content-list-requires t c = (search (rules, smaller), search (rules, same-notes))

pub content-noted-requires : goal.content-noted-requires
content-noted-requires t c = (search (rules, smaller), search (rules, same-notes))

pub content-returns-in-Leaf : goal.content-returns-in-Leaf
content-returns-in-Leaf t c = record { dst_after = search (rules, content-steps); sizes_after = search (rules, same-notes) }

pub content-returns-in-Node : goal.content-returns-in-Node
content-returns-in-Node t c = record { dst_after = search (rules, content-steps); sizes_after = search (rules, same-notes) }

pub content-returns-in-List : goal.content-returns-in-List
content-returns-in-List t c = record { dst_after = search (rules, content-steps); sizes_after = search (rules, same-notes) }

pub content-returns-in-Wrap : goal.content-returns-in-Wrap
content-returns-in-Wrap t c = record { dst_after = search (rules, content-steps); sizes_after = search (rules, same-notes) }

pub held-content-b-requires : goal.held-content-b-requires
held-content-b-requires t c = (search (rules, smaller), search (rules, same-notes))

pub held-returns-then-is_bare : goal.held-returns-then-is_bare
held-returns-then-is_bare t c = record { dst_after = search (rules, held_steps); sizes_after = search (rules, same-notes) }

pub held-stored-requires : goal.held-stored-requires
held-stored-requires t c = (search (rules, smaller), (search (rules, table_note), search (rules, table_ready)))

pub held-returns-then-is_noted : goal.held-returns-then-is_noted
held-returns-then-is_noted t c = record { dst_after = search (rules, held_steps); sizes_after = search (rules, same-notes) }

pub held-measured-requires : goal.held-measured-requires
held-measured-requires t c = (search (rules, smaller), search (rules, ready_size))

pub held-returns : goal.held-returns
held-returns t c = record { dst_after = search (rules, held_steps); sizes_after = search (rules, same-notes) }

pub list-loop-k-init : goal.list-loop-k-init
list-loop-k-init t c = (search rules, search rules, search rules, search rules, search rules)

pub list-returns-then-not-more : goal.list-returns-then-not-more
list-returns-then-not-more t c = record { dst_after = search (rules, not-true, over, list_steps); sizes_after = search (rules, not-true, over, list_stopped) }

pub list-noted-here-requires : goal.list-noted-here-requires
list-noted-here-requires t c = (search (rules, smaller), one_ready _ _ _ _ _ _ _ _ _ _ _ _ c.loop-k.invariant.4 c.loop-k-test.true _ c.more.ensures c.if-not-more.false)

pub list-loop-k-preserved : goal.list-loop-k-preserved
list-loop-k-preserved t c = (search rules, search rules, search (rules, not-false, chain, list_on), search (rules, not-false, chain, list_puts), more_ready _ _ _ _ _ _ _ _ _ _ _ _ c.loop-k.invariant.4 c.loop-k-test.true _ c.more.ensures c.if-not-more.false _ _ _ _ _ _ _ c.noted-here.ensures.dst_after c.noted-here.ensures.sizes_after)

pub list-returns : goal.list-returns
list-returns t c = record { dst_after = search (rules, over, list_steps); sizes_after = search (rules, over, list_full) }

pub measured-content-b-requires : goal.measured-content-b-requires
measured-content-b-requires t c = (search (rules, smaller), search (rules, ready_not))

pub measured-returns-then-dst-pos : goal.measured-returns-then-dst-pos
measured-returns-then-dst-pos t c = record { dst_after = search (rules, held_steps); sizes_after = search (rules, inside-noted, inside_again) }

pub measured-stored-requires : goal.measured-stored-requires
measured-stored-requires t c = (search (rules, smaller), let b = c.content-b.ensures.dst_after in let n = c.content-b.ensures.sizes_after in let a = c.add.ensures in let v = c.note_of-n.ensures in let u = c.note.ensures in let l = c.requires in let i = c.args in (search (rules, note_is), inside_known i.source.side i.to i.x i.source.bytes.now i.h.count i.h.start i.h.end _ _ _ [] _ b _ v i.sizes.now _ _ _ _ _ u n a l))

pub measured-returns : goal.measured-returns
measured-returns t c = record { dst_after = search (rules, held_steps); sizes_after = let b = c.content-b.ensures.dst_after in let n = c.content-b.ensures.sizes_after in let a = c.add.ensures in let v = c.note_of-n.ensures in let u = c.note.ensures in let l = c.requires in let w = c.stored.ensures.sizes_after in search (rules, inside_again) }

pub member-noted-requires : goal.member-noted-requires
member-noted-requires t c = (search (rules, smaller), search (rules, member-notes))

pub member-noted-requires-then-there : goal.member-noted-requires-then-there
member-noted-requires-then-there t c = (search (rules, smaller), search (rules, member-notes))

pub member-returns-then-there : goal.member-returns-then-there
member-returns-then-there t c = record { dst_after = search (rules, member-steps); sizes_after = search (rules, member-notes) }

pub member-noted-requires-then-is_content : goal.member-noted-requires-then-is_content
member-noted-requires-then-is_content t c = (search (rules, smaller), rw (c.past-after.ensures.0, c.past-after.ensures.2) (as_ready _ _ _ _ _ c.requires (first-notes _ _ _ _ _ _ _ _ _ _ _ _ c.in-Choice.is _ _ _ _ _ c.leaf-v.ensures _ c.is_content.ensures c.if-is_content.true)))

pub member-returns-then-is_content : goal.member-returns-then-is_content
member-returns-then-is_content t c = record { dst_after = search (rules, member-steps); sizes_after = as_puts _ _ _ _ _ (rw (c.past-after.ensures.0, c.past-after.ensures.2) at c.noted-then-is_content.ensures.sizes_after) (first-notes _ _ _ _ _ _ _ _ _ _ _ _ c.in-Choice.is _ _ _ _ _ c.leaf-v.ensures _ c.is_content.ensures c.if-is_content.true) }

pub member-noted-requires-in-Choice : goal.member-noted-requires-in-Choice
member-noted-requires-in-Choice t c = (search (rules, smaller), rw (c.past-after.ensures.0, c.past-after.ensures.2) (as_ready _ _ _ _ _ c.requires (second-notes _ _ _ _ _ _ _ _ _ _ _ _ c.in-Choice.is _ _ _ _ _ c.leaf-v.ensures _ c.is_content.ensures c.if-is_content.false)))

pub member-returns-in-Blank : goal.member-returns-in-Blank
member-returns-in-Blank t c = record { dst_after = search (rules, member-steps); sizes_after = search (rules, member-notes) }

pub member-returns-in-Known : goal.member-returns-in-Known
member-returns-in-Known t c = record { dst_after = search (rules, member-steps); sizes_after = search (rules, member-notes) }

pub member-returns-in-Leaf : goal.member-returns-in-Leaf
member-returns-in-Leaf t c = record { dst_after = search (rules, member-steps); sizes_after = search (rules, member-notes) }

pub member-returns-in-Part : goal.member-returns-in-Part
member-returns-in-Part t c = record { dst_after = search (rules, member-steps); sizes_after = search (rules, member-notes) }

pub member-returns-else-there : goal.member-returns-else-there
member-returns-else-there t c = record { dst_after = search (rules, member-steps); sizes_after = search (rules, member-notes) }

pub member-returns-in-Flag : goal.member-returns-in-Flag
member-returns-in-Flag t c = record { dst_after = search (rules, member-steps); sizes_after = search (rules, member-notes) }

pub member-returns-else-is_content : goal.member-returns-else-is_content
member-returns-else-is_content t c = record { dst_after = search (rules, member-steps); sizes_after = as_puts _ _ _ _ _ (rw (c.past-after.ensures.0, c.past-after.ensures.2) at c.noted-in-Choice.ensures.sizes_after) (second-notes _ _ _ _ _ _ _ _ _ _ _ _ c.in-Choice.is _ _ _ _ _ c.leaf-v.ensures _ c.is_content.ensures c.if-is_content.false) }

pub noted-held-requires : goal.noted-held-requires
noted-held-requires t c = (search (rules, smaller), search (rules, same-notes))

pub noted-held-requires-in-List : goal.noted-held-requires-in-List
noted-held-requires-in-List t c = (search (rules, smaller), search (rules, same-notes))

pub noted-held-requires-in-Wrap : goal.noted-held-requires-in-Wrap
noted-held-requires-in-Wrap t c = (search (rules, smaller), search (rules, same-notes))

pub noted-returns-in-Leaf : goal.noted-returns-in-Leaf
noted-returns-in-Leaf t c = record { dst_after = search (rules, item-steps); sizes_after = rw c.past.ensures.2 (search (rules, same-notes)) }

pub noted-returns-in-Node : goal.noted-returns-in-Node
noted-returns-in-Node t c = record { dst_after = search (rules, item-steps); sizes_after = search (rules, same-notes) }

pub noted-returns-in-List : goal.noted-returns-in-List
noted-returns-in-List t c = record { dst_after = search (rules, item-steps); sizes_after = search (rules, same-notes) }

pub noted-returns-in-Wrap : goal.noted-returns-in-Wrap
noted-returns-in-Wrap t c = record { dst_after = search (rules, item-steps); sizes_after = search (rules, same-notes) }

pub row-loop-m-init : goal.row-loop-m-init
row-loop-m-init t c = (search rules, search rules, search rules, search (rules, size-first), search (rules, row_first), search (rules, rest_first), search (rules, first_ready))

pub row-member-here-requires : goal.row-member-here-requires
row-member-here-requires t c = (search (rules, smaller), search (rules, member_ready))

pub row-loop-m-preserved : goal.row-loop-m-preserved
row-loop-m-preserved t c = (search rules, search rules, search rules, search (rules, row_fewer), search (rules, chain, row_next), search (rules, chain, rest_puts), search (rules, rest_ready))

pub row-returns : goal.row-returns
row-returns t c = record { dst_after = search (rules, row_over); sizes_after = search (rules, rest_over) }

pub stored-content-b-requires : goal.stored-content-b-requires
stored-content-b-requires t c = (search (rules, smaller), search (rules, inside_ready))

pub stored-returns : goal.stored-returns
stored-returns t c = record { dst_after = search (rules, held_steps); sizes_after = search (rules, inside-passed) }
