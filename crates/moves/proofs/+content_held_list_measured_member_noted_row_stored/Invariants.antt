-- The functions of the cycle call one another; what stands in an item is smaller than the item, and what was noted of it is known when it is stored.
use mathlib.Core.Path.{◌≡◌}
use lib.ListN.{length}
use Rattle.structures.specs.Structure.{layout_of}
use Rattle.rows.specs.Row.{row_width, members_of}
use Rattle.rows.specs.Size.{sizes as sizes-of, from as rest}
use Rattle.sides.specs.Move.{moves}
use Rattle.stores.specs.Store.{puts}
use Rattle.pieces.specs.Piece.{wrote}
use Rattle.moves.specs.Walk.{list_move, wrote_body}
use Rattle.moves.specs.Notes.{notes_all, list_notes, Ready}
use Rattle.moves.specs.Laws.{item_size, held_size, measured_size, stored_size, content_size, row_size, list_size, member_size}
use Prim.Native.Nat.{◌≤◌}
use Rattle.moves.proofs.+content_held_list_measured_member_noted_row_stored.Given as goal

abbrev pub decreases-content : goal.decreases-content
decreases-content l = content_size l.x

abbrev pub decreases-held : goal.decreases-held
decreases-held l = held_size l.x

abbrev pub decreases-list : goal.decreases-list
decreases-list l = list_size l.x

abbrev pub decreases-measured : goal.decreases-measured
decreases-measured l = measured_size l.x

abbrev pub decreases-member : goal.decreases-member
decreases-member l = member_size l.m

abbrev pub decreases-noted : goal.decreases-noted
decreases-noted l = item_size l.x

abbrev pub decreases-row : goal.decreases-row
decreases-row l = row_size l.x

abbrev pub decreases-stored : goal.decreases-stored
decreases-stored l = stored_size l.x

abbrev pub invariant-list-loop-k : goal.invariant-list-loop-k
invariant-list-loop-k l = (length l.dst ≡ length l.initial.dst) × (length l.sizes ≡ length l.initial.sizes) × (wrote_body (list_move l.source.side l.to (layout_of l.x) l.most 0 l.count l.source.bytes.now l.initial.here.at l.end) l.initial.dst l.initial.here.pos ≡ wrote_body (list_move l.source.side l.to (layout_of l.x) l.most l.k l.count l.source.bytes.now l.here.at l.end) l.dst l.here.pos) × (puts (list_notes l.source.side l.to (layout_of l.x) l.most 0 l.count l.source.bytes.now l.initial.here.at l.end) l.initial.sizes l.initial.here.slot ≡ puts (list_notes l.source.side l.to (layout_of l.x) l.most l.k l.count l.source.bytes.now l.here.at l.end) l.sizes l.here.slot) × Ready l.known (list_notes l.source.side l.to (layout_of l.x) l.most l.k l.count l.source.bytes.now l.here.at l.end) l.sizes l.here.slot

abbrev pub invariant-row-loop-m : goal.invariant-row-loop-m
invariant-row-loop-m l = (length l.m-items ≡ row_width) × (length l.dst ≡ length l.initial.dst) × (length l.sizes ≡ length l.initial.sizes) × (sizes-of (rest l.m-index l.m-items) ≤ sizes-of (members_of l.m-items)) × (wrote (moves l.source.side l.to (members_of l.m-items) l.source.bytes.now l.initial.here.at l.end) l.initial.dst l.initial.here.pos ≡ wrote (moves l.source.side l.to (rest l.m-index l.m-items) l.source.bytes.now l.here.at l.end) l.dst l.here.pos) × (puts (notes_all l.source.side l.to (members_of l.m-items) l.source.bytes.now l.initial.here.at l.end) l.initial.sizes l.initial.here.slot ≡ puts (notes_all l.source.side l.to (rest l.m-index l.m-items) l.source.bytes.now l.here.at l.end) l.sizes l.here.slot) × Ready l.known (notes_all l.source.side l.to (rest l.m-index l.m-items) l.source.bytes.now l.here.at l.end) l.sizes l.here.slot
