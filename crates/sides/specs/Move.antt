-- An item at a position of a source, a record or a sheet: where what follows it starts, and its bytes in the destination's form. Assumes nothing.
-- Nobody has to believe this page: `Laws.Move` proves what it is of a source that is accepted. Of any other it says something, and nobody asks.
use Rattle.std.specs.Prelude.{ℕ, suc, zero, ◌+◌, Bool, true, false, not, List, [], ◌∷◌, ◌++◌, length, ltb, eqb, Ok, Err}
use Rattle.std.proofs.Math.Seq.{slice}
use Rattle.terms.specs.Answer.{pick, same, Answer}
use Rattle.heads.specs.Head.{forms, octets}
use Rattle.heads.specs.Scan.{head_at, begins_at, span}
use Rattle.heads.specs.declared.Span.{Span as ItemSpan}
use Rattle.contents.specs.Leaves.{Leaf, section_of, boolean, Known, only}
use Rattle.layouts.specs.Layout.{Item, leaf, node, list, wrap, Members, end, ◌▸◌, Member, known, one, maybe, flag, choose, tag_of, Value, Values, Part, encode_leaf, critical, encode, encodes, encode_part}
use Rattle.layouts.specs.Sheet.{count_bytes, count, section, critical_byte, sheet, sheets, sheet_part}
use Rattle.layouts.specs.Scan.{then_seen}
use Rattle.layouts.specs.SheetScan.{count_at, section_at, value_at as inSection}
use Rattle.sides.specs.declared.Side.{Side}
use Rattle.sides.specs.declared.Side.TheVariants.{Record, Sheet}

-- ---- a value's bytes in each form

abbrev pub bytes_of : Side → (i : Item) → Value i → List ℕ
bytes_of Record i v = encode i v
bytes_of Sheet i v = sheet i v

abbrev pub bytes_of_all : Side → (r : Members) → Values r → List ℕ
bytes_of_all Record r v = encodes r v
bytes_of_all Sheet r v = sheets r v

abbrev pub bytes_of_part : Side → (m : Member) → Part m → List ℕ
bytes_of_part Record m v = encode_part m v
bytes_of_part Sheet m v = sheet_part m v

-- ---- the steps in a source

-- where something starts and where it stops
abbrev pub Span : Type 0
Span = ℕ × ℕ

-- the content that was found at a position; of a refused one nothing
abbrev pub span_of : ℕ → Answer ItemSpan → Span
span_of p (Ok i) = (i.start, i.end)
span_of p (Err e) = (p, p)

-- the value of a primitive item, which ends where the item does: in a content behind what stands before it
unfoldable pub span_at : Side → Leaf → List ℕ → ℕ → ℕ → Span
span_at Record l s p e = span_of p (then_seen (head_at l.tag s p e) λ a z. Ok (span (a + length l.front) z))
span_at Sheet l s p e = span_of p (then_seen (section_at s p e) λ a z. inSection l.holds s p a z)

-- its bytes
unfoldable pub value_at : Side → Leaf → List ℕ → ℕ → ℕ → List ℕ
value_at from l s p e = slice (span_at from l s p e).0 (span_at from l s p e).1 s

-- a count that was found at a position, and where what it counts starts; of a refused one nothing
abbrev pub count_of : ℕ → Answer ℕ → ℕ × ℕ
count_of p (Ok n) = (n, p + count_bytes)
count_of p (Err e) = (0, p)

-- what stands in an item: the count of a list in a sheet, where it starts, and where its window ends
abbrev pub Opened : Type 0
Opened = ℕ × ℕ × ℕ

unfoldable pub open_at : Side → ℕ → Bool → List ℕ → ℕ → ℕ → Opened
open_at Record t listed s p e = (0, (span_of p (head_at t s p e)).0, (span_of p (head_at t s p e)).1)
open_at Sheet t true s p e = ((count_of p (count_at s p e)).0, (count_of p (count_at s p e)).1, e)
open_at Sheet t false s p e = (0, p, e)

-- where what follows an item starts: in a record at its end, in a sheet where its last part ends
abbrev pub after : Side → ℕ → ℕ → ℕ
after Record z q = z
after Sheet z q = q

-- whether another item of a list stands here, after `k` of `n`
abbrev pub more : Side → ℕ → ℕ → ℕ → ℕ → Bool
more Record k n p z = ltb p z
more Sheet k n p z = ltb k n

-- whether an optional item is there, and where it starts
unfoldable pub present_at : Side → ℕ → List ℕ → ℕ → ℕ → Bool × ℕ
present_at Record t s p e = (begins_at t s p e, p)
present_at Sheet t s p e = (not (eqb (count_of p (count_at s p e)).0 0), (count_of p (count_at s p e)).1)

-- a flag, and where what follows it starts
unfoldable pub flag_at : Side → List ℕ → ℕ → ℕ → Bool × ℕ
flag_at Record s p e = (begins_at boolean.tag s p e, pick (begins_at boolean.tag s p e) (span_at Record boolean s p e).1 p)
flag_at Sheet s p e = (same (value_at Sheet boolean s p e) (1 ∷ []), (span_at Sheet boolean s p e).1)

-- where what follows a known member starts: a sheet has none
unfoldable pub known_at : Side → Known → List ℕ → ℕ → ℕ → ℕ
known_at Record k s p e = (span_at Record (only k) s p e).1
known_at Sheet k s p e = p

-- ---- the steps in a destination

-- a primitive item
unfoldable pub leaf_out : Side → Leaf → List ℕ → List ℕ
leaf_out Record l v = encode_leaf l v
leaf_out Sheet l v = section (section_of l.holds v)

-- what stands before `k` items of `n` bytes together
unfoldable pub front : Side → ℕ → Bool → ℕ → ℕ → List ℕ
front Record t listed k n = t ∷ octets forms n
front Sheet t true k n = count k
front Sheet t false k n = []

-- what stands before an optional item, or in its stead
unfoldable pub mark : Side → Bool → List ℕ
mark Record there = []
mark Sheet true = count 1
mark Sheet false = count 0

-- a flag, which a record leaves out where it is false
unfoldable pub flag_out : Side → Bool → List ℕ
flag_out Record v = critical v
flag_out Sheet v = section (critical_byte v)

-- a known member, which a sheet leaves out
unfoldable pub known_out : Side → Known → List ℕ
known_out Record k = encode_leaf (only k) k.content
known_out Sheet k = []

-- ---- moving

-- where what follows starts, and the bytes
abbrev pub Moved : Type 0
Moved = ℕ × List ℕ

-- the same of what stands in an item, with the number of a list's items between them
abbrev pub Body : Type 0
Body = ℕ × ℕ × List ℕ

-- a part, and the next one where it ends
abbrev pub join : Moved → (ℕ → Moved) → Moved
join m k = ((k m.0).0, m.1 ++ (k m.0).1)

-- an item of a list, and the next ones where it ends
abbrev pub join_body : Moved → (ℕ → Body) → Body
join_body m k = ((k m.0).0, (k m.0).1, m.1 ++ (k m.0).2)

-- what stands in an item that is no list
abbrev pub single : Moved → Body
single m = (m.0, 0, m.1)

-- the items of a list, at most `m`, after `k` of `n`
unfoldable pub move_many : Side → (ℕ → Moved) → ℕ → ℕ → ℕ → ℕ → ℕ → Body
move_many from f zero k n p z = (p, k, [])
move_many from f (suc m) k n p z = pick (more from k n p z) (join_body (f p) λ q. move_many from f m (suc k) n q z) (p, k, [])

-- an optional item, if it is there
abbrev pub move_option : Side → Bool × ℕ → (ℕ → Moved) → Moved
move_option to h f = pick h.0 ((f h.1).0, mark to h.0 ++ (f h.1).1) (h.1, mark to h.0)

module _ (from to : Side) where
  -- an item by what stands in it, up to the end of its window
  abbrev pub closing : ℕ → Bool → ℕ → Body → Moved
  closing t listed z b = (after from z b.0, front to t listed b.1 (length b.2) ++ b.2)

  -- an item that holds others
  abbrev pub holding : ℕ → Bool → (ℕ → ℕ → ℕ → Body) → List ℕ → ℕ → ℕ → Moved
  holding t listed f s p e =
      closing t listed (open_at from t listed s p e).2 (f (open_at from t listed s p e).0 (open_at from t listed s p e).1 (open_at from t listed s p e).2)

  unfoldable pub move_leaf : Leaf → List ℕ → ℕ → ℕ → Moved
  move_leaf l s p e = ((span_at from l s p e).1, leaf_out to l (value_at from l s p e))

  unfoldable pub move_known : Known → List ℕ → ℕ → ℕ → Moved
  move_known k s p e = (known_at from k s p e, known_out to k)

  unfoldable pub move_flag : List ℕ → ℕ → ℕ → Moved
  move_flag s p e = ((flag_at from s p e).1, flag_out to (flag_at from s p e).0)

  unfoldable mutual
    pub move : Item → List ℕ → ℕ → ℕ → Moved
    move (leaf l) s p e = move_leaf l s p e
    move (node t r) s p e = holding t false (λ c a z. single (moves r s a z)) s p e
    move (list t o n f i) s p e = holding t true (λ c a z. move_many from (λ q. move i s q z) n 0 c a z) s p e
    move (wrap t i) s p e = holding t false (λ c a z. single (move i s a z)) s p e

    pub moves : Members → List ℕ → ℕ → ℕ → Moved
    moves end s p e = (p, [])
    moves (m ▸ r) s p e = join (move_part m s p e) λ q. moves r s q e

    pub move_part : Member → List ℕ → ℕ → ℕ → Moved
    move_part (known k) s p e = move_known k s p e
    move_part (one f i) s p e = move i s p e
    move_part (maybe f i) s p e = move_option to (present_at from (tag_of i) s p e) λ q. move i s q e
    move_part (flag f) s p e = move_flag s p e
    move_part (choose f l t g i j) s p e = join (move_leaf l s p e) λ q. pick (t (value_at from l s p e)) (move i s q e) (move j s q e)
