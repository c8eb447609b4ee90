-- Item, list, member and row call one another; what stands in an item is smaller than the item.
use mathlib.Core.Path.{◌≡◌}
use lib.ListN.{length}
use Rattle.structures.specs.Structure.{row_of, layout_of}
use Rattle.rows.specs.Row.{row_width, members_of}
use Rattle.rows.specs.Size.{size, sizes, size_of, from}
use Rattle.walks.specs.Walk.{row_walk, list_walk}
use Prim.Native.Nat.{suc, ◌≤◌}
use Rattle.walks.proofs.+item_list_member_row.Given as goal

abbrev pub decreases-item : goal.decreases-item
decreases-item l = size (layout_of l.x)

abbrev pub decreases-list : goal.decreases-list
decreases-list l = suc (size (layout_of l.x))

abbrev pub decreases-member : goal.decreases-member
decreases-member l = size_of l.m

abbrev pub decreases-row : goal.decreases-row
decreases-row l = suc (sizes (row_of l.x))

abbrev pub invariant-list-loop-k : goal.invariant-list-loop-k
invariant-list-loop-k l = (length l.places ≡ length l.initial.places) × (list_walk (layout_of l.x) l.name l.most 0 l.s l.at l.end l.initial.places ≡ list_walk (layout_of l.x) l.name l.most l.k l.s l.p l.end l.places)

abbrev pub invariant-row-loop-m : goal.invariant-row-loop-m
invariant-row-loop-m l = (length l.m-items ≡ row_width) × (length l.places ≡ length l.initial.places) × (sizes (from l.m-index l.m-items) ≤ sizes (members_of l.m-items)) × (row_walk (members_of l.m-items) l.index l.s l.at l.end l.initial.places ≡ row_walk (from l.m-index l.m-items) l.index l.s l.p l.end l.places)
