-- Item, list, member and row call one another; what stands in an item is smaller than the item.
use mathlib.Core.Path.{◌≡◌}
use lib.ListN.{length}
use Rattle.layouts.specs.SheetScan.{sheet_scans}
use Rattle.structures.specs.Structure.{row_of, layout_of}
use Rattle.rows.specs.Row.{row_width, members_of}
use Rattle.rows.specs.Size.{size, sizes, size_of, from}
use Rattle.sheet_walks.specs.Walk.{list_walk}
use Prim.Native.Nat.{suc, ◌-◌, ◌≤◌}
use Rattle.sheet_walks.proofs.+item_list_member_row.Given as goal

abbrev pub decreases-item : goal.decreases-item
decreases-item l = size (layout_of l.x)

abbrev pub decreases-list : goal.decreases-list
decreases-list l = suc (size (layout_of l.x))

abbrev pub decreases-member : goal.decreases-member
decreases-member l = size_of l.m

abbrev pub decreases-row : goal.decreases-row
decreases-row l = suc (sizes (row_of l.x))

abbrev pub invariant-row-loop-m : goal.invariant-row-loop-m
invariant-row-loop-m l = (length l.m-items ≡ row_width) × (sizes (from l.m-index l.m-items) ≤ sizes (members_of l.m-items)) × (sheet_scans (members_of l.m-items) l.s l.at l.end ≡ sheet_scans (from l.m-index l.m-items) l.s l.p l.end)

abbrev pub invariant-list-loop : goal.invariant-list-loop
invariant-list-loop l = list_walk (layout_of l.x) l.n l.s l.at l.end ≡ list_walk (layout_of l.x) (l.n - l.counter) l.s l.p l.end
