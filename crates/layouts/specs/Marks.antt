-- Reading by positions, what it notes in the table of places, and behind it. Assumes nothing.
-- Nobody has to believe this page: `Laws.Passed` proves that a reading notes the fields that it passes, `Laws.About` that a refused item notes
-- whose fault it is, and code is proved against its steps.
use Rattle.std.specs.Prelude.{ℕ, suc, zero, ◌+◌, ◌-◌, Bool, ◌&&◌, ◌||◌, List, [], ◌∷◌, length, get_or, set, eqb, ltb, Ok, Err}
use Rattle.std.proofs.Math.Seq.{slice}
use Rattle.terms.specs.declared.Field.{Field}
use Rattle.terms.specs.Names.{code}
use Rattle.terms.specs.declared.Reason.TheVariants.{TooManyItems}
use Rattle.terms.specs.Answer.{pick, Answer, refused}
use Rattle.heads.specs.Scan.{head_at, outermost_at, begins_at, close_at}
use Rattle.heads.specs.declared.Span.{Span}
use Rattle.contents.specs.Leaves.{Leaf, boolean}
use Rattle.layouts.specs.Layout.{Item, leaf, node, list, wrap, Members, end, ◌▸◌, Member, known, one, maybe, flag, choose, tag_of}
use Rattle.layouts.specs.Whole.{sequence}
use Rattle.layouts.specs.Scan.{then_step, leaf_at, scan, scans, scan_part}
use Rattle.layouts.specs.Fields.{Entry}
use Rattle.layouts.specs.Places.{table_size, slot, wanted}

-- four numbers of the table, from `n` on, that are there and not taken
unfoldable pub free : List ℕ → ℕ → Bool
free d n = ltb (n + 3) (length d) && eqb (get_or d n 0) 0

abbrev pub filled : List ℕ → ℕ → ℕ → ℕ → ℕ → List ℕ
filled d n a l i = set (set (set (set d n 1) (n + 1) a) (n + 2) l) (n + 3) i

-- a field that starts at `a` and ends before `z` is noted under its name, once, if its index is the one that is wanted
unfoldable pub noted : Field → ℕ → ℕ → ℕ → ℕ → List ℕ → List ℕ
noted f k a z n d = pick (eqb k (wanted d) && free d (slot f)) (filled d (slot f) a (z - a) n) d

unfoldable pub notes : List Entry → List ℕ → List ℕ
notes [] d = d
notes (x ∷ xs) d = notes xs (noted x.name x.index x.place (x.place + length x.bytes) x.items d)

-- the name of a field that is refused, by its number and one more, behind the table: where a number stands there that is not taken
unfoldable pub unblamed : List ℕ → Bool
unblamed d = ltb table_size (length d) && eqb (get_or d table_size 0) 0

unfoldable pub blamed : Field → List ℕ → List ℕ
blamed f d = pick (unblamed d) (set d table_size (code f + 1)) d

-- the table after what was seen, read or counted; where it was refused, the table that is given
abbrev pub after_seen : Answer Span → List ℕ → (ℕ → ℕ → List ℕ) → List ℕ
after_seen (Ok i) d k = k i.start i.end
after_seen (Err e) d k = d

abbrev pub after_step : Answer ℕ → List ℕ → (ℕ → List ℕ) → List ℕ
after_step (Ok q) d k = k q
after_step (Err e) d k = d

-- a refusal is noted as the name's
abbrev pub blaming : {A : Type 0} → Answer A → Field → List ℕ → List ℕ
blaming (Ok x) f d = d
blaming (Err e) f d = blamed f d

-- the number of items to the end, `j` of them before here and at most `n` more
unfoldable pub tally : (ℕ → Answer ℕ) → ℕ → ℕ → ℕ → ℕ → Answer ℕ
tally f zero j p e = pick (ltb p e) (refused TooManyItems p) (Ok j)
tally f (suc n) j p e = pick (ltb p e) (then_step (f p) λ q. tally f n (suc j) q e) (Ok j)

-- the table after them; `m` notes an item of an index at a position
unfoldable pub many_marks : (ℕ → Answer ℕ) → (ℕ → ℕ → List ℕ → List ℕ) → ℕ → ℕ → ℕ → ℕ → List ℕ → List ℕ
many_marks f m zero j p e d = d
many_marks f m (suc n) j p e d = pick (ltb p e) (after_step (f p) (m j p d) λ q. many_marks f m n (suc j) q e (m j p d)) d

unfoldable pub leaf_marks : Leaf → Field → ℕ → List ℕ → ℕ → ℕ → List ℕ → List ℕ
leaf_marks l f k s p e d = after_seen (leaf_at l s p e) (blamed f d) λ a z. noted f k a z 0 d

unfoldable mutual
  pub marks : Item → Field → ℕ → List ℕ → ℕ → ℕ → List ℕ → List ℕ
  marks (leaf l) f k s p e d = leaf_marks l f k s p e d
  marks (node t r) f k s p e d = after_seen (head_at t s p e) (blamed f d) λ a z. blaming (scans r s a z) f (marks_all r k s a z (noted f k p z 0 d))
  marks (list t o n g i) f k s p e d =
      after_seen (head_at t s p e) (blamed f d) λ a z.
      pick (o || ltb a z)
      (after_step (tally (λ q. scan i s q z) n 0 a z) (blamed f (many_marks (λ q. scan i s q z) (λ j q x. marks i g j s q z x) n 0 a z d)) λ c.
      noted f k p z c (many_marks (λ q. scan i s q z) (λ j q x. marks i g j s q z x) n 0 a z d))
      (blamed f d)
  marks (wrap t i) f k s p e d = after_seen (head_at t s p e) (blamed f d) λ a z. after_step (scan i s a z) (marks i f k s a z d) λ q. blaming (close_at q z) f (marks i f k s a z d)

  pub marks_all : Members → ℕ → List ℕ → ℕ → ℕ → List ℕ → List ℕ
  marks_all end k s p e d = d
  marks_all (m ▸ r) k s p e d = after_step (scan_part m s p e) (marks_part m k s p e d) λ q. marks_all r k s q e (marks_part m k s p e d)

  pub marks_part : Member → ℕ → List ℕ → ℕ → ℕ → List ℕ → List ℕ
  marks_part (known w) k s p e d = d
  marks_part (one f i) k s p e d = marks i f k s p e d
  marks_part (maybe f i) k s p e d = pick (begins_at (tag_of i) s p e) (marks i f k s p e d) d
  marks_part (flag f) k s p e d = pick (begins_at boolean.tag s p e) (leaf_marks boolean f k s p e d) d
  marks_part (choose f l t g i j) k s p e d =
      after_seen (leaf_at l s p e) (leaf_marks l f k s p e d) λ a z.
      pick (t (slice a z s)) (marks i g k s z e (leaf_marks l f k s p e d)) (marks j g k s z e (leaf_marks l f k s p e d))

-- a record at a position
unfoldable pub record_marks : ℕ → Members → List ℕ → ℕ → ℕ → List ℕ → List ℕ
record_marks most r s p e d = after_seen (outermost_at most sequence s p e) d λ a z. marks_all r 0 s a z d
