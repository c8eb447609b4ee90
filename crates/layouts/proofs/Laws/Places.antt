-- The table of places that `notes` makes is the one that `Placed` asks for, and there is no other. Assumes nothing.
use Rattle.std.specs.Prelude.{◌≡◌, ◌≢◌, Bool, not, ◌&&◌, take, drop, replicate, T, eqb, ltb}
use Rattle.std.proofs.Math.Path.{refl, sym, ap}
use Rattle.std.proofs.Common.{◌∙◌, length-append, length-take-le, get_or-set_same, get_or-append-add, ext_get_or, eqb→eq, ltb→lt, nltb→le, lt→ltb}
use Prim.Native.Nat.{ℕ, suc, zero, ◌+◌, ◌*◌, ◌-◌, ◌/◌, ◌%◌, ◌≤◌, ◌<◌}
use native.Mathlib.Omega.{arith}
use Rattle.std.proofs.Math.Bool.{true, false}
use Rattle.std.proofs.Math.Option.{none, some}
use mathlib.Core.List.{List, [], ◌∷◌, ◌++◌}
use Rattle.std.proofs.Math.ListN.{length, get_or, set, length-set, get_or-append}
use Rattle.std.proofs.lemmas.List.{length-replicate, get_or-replicate}
use Rattle.std.proofs.lemmas.List.Edits.{sets, sets-eq}
use Rattle.std.proofs.Math.Seq.{get_or-set_other}
use Rattle.std.proofs.Math.Dec.{T_not}
use borrow.Author.Tests.{eq-eqb}
use Rattle.terms.specs.declared.Field.{Field}
use Rattle.terms.specs.Names.{code, name_of}
use Rattle.terms.specs.Laws.Names.{code_below, code_name}
use Rattle.terms.specs.Answer.{pick}
use Rattle.terms.specs.Laws.Answer.{test, and_l, and_r, both, pick_yes, pick_no}
use Rattle.layouts.specs.Fields.{Entry, is_field, first}
use Rattle.layouts.specs.Places.{table_size, wanted_at, wanted, slot, under, numbers_of, Placed}
use Rattle.layouts.specs.Marks.{free, filled, noted, notes}

-- ---- a run of stores

-- what was stored stands there
sets_here : (vs l : List ℕ) (o j : ℕ) → o + length vs ≤ length l → j < length vs → get_or (sets l o vs) (o + j) 0 ≡ get_or vs j 0
sets_here vs l o j h k =
    let e : length (take o l) ≡ o = length-take-le o l (omega arith) in
    let n = length-append (take o l) vs in
    ap (λ (y : List ℕ). get_or y (o + j) 0) (sets-eq vs l o h) ∙ get_or-append (take o l ++ vs) (drop (o + length vs) l) 0 (o + j) (omega arith) ∙ rw e at (get_or-append-add (take o l) vs j 0)

-- elsewhere nothing changes
sets_other : (vs l : List ℕ) (o i : ℕ) → ((j : ℕ) → j < length vs → i ≢ o + j) → get_or (sets l o vs) i 0 ≡ get_or l i 0
sets_other [] l o i h = refl
sets_other (a ∷ vs) l o i h =
    sets_other vs (set l o a) (suc o) i (λ j k q. h (suc j) (omega arith) (omega arith)) ∙ get_or-set_other l o i a 0 (λ q. h 0 (omega arith) (omega arith))

-- ---- the four numbers under a name

-- each of them is a number of the table
under_at : (f : Field) (d : List ℕ) (j : ℕ) → j < 4 → get_or (under f d) j 0 ≡ get_or d (slot f + j) 0
unfolding under
under_at f d zero h = ap (λ (k : ℕ). get_or d k 0) (omega arith)
under_at f d (suc zero) h = refl
under_at f d (suc (suc zero)) h = refl
under_at f d (suc (suc (suc zero))) h = refl
under_at f d (suc (suc (suc (suc j)))) h = absurd (omega arith)

-- they are the four that stand there one by one
under_is : (f : Field) (d vs : List ℕ) → 4 ≡ length vs → ((j : ℕ) → j < 4 → get_or d (slot f + j) 0 ≡ get_or vs j 0) → under f d ≡ vs
unfolding under
under_is f d vs l h = ext_get_or 0 (under f d) vs l λ j k. under_at f d j k ∙ h j k

-- the first of them
first_is : (f : Field) (d vs : List ℕ) → under f d ≡ vs → get_or d (slot f) 0 ≡ get_or vs 0 0
unfolding under
first_is f d vs e = ap (λ (y : List ℕ). get_or y 0 0) e

-- ---- noting

module _ (f : Field) (k a z i : ℕ) (d : List ℕ) where
  -- the table keeps its size
  pub noted-size : length (noted f k a z i d) ≡ length d
  unfolding noted pick
  noted-size = go (eqb k (wanted d) && free d (slot f))
    where
      go : (b : Bool) → length (pick b (filled d (slot f) a (z - a) i) d) ≡ length d
      go true = simp length-set
      go false = refl

  -- and what stands behind the names
  pub noted-behind : (n : ℕ) → wanted_at ≤ n → get_or (noted f k a z i d) n 0 ≡ get_or d n 0
  unfolding noted slot pick
  noted-behind n h = go (eqb k (wanted d) && free d (slot f))
    where
      go : (b : Bool) → get_or (pick b (filled d (slot f) a (z - a) i) d) n 0 ≡ get_or d n 0
      go true =
          let c = code_below f in
          let x : List ℕ = set d (slot f) 1 in
          let y : List ℕ = set x (slot f + 1) a in
          let w : List ℕ = set y (slot f + 2) (z - a) in
          get_or-set_other w (slot f + 3) n i 0 (λ q. omega arith) ∙ get_or-set_other y (slot f + 2) n (z - a) 0 (λ q. omega arith)
          ∙ get_or-set_other x (slot f + 1) n a 0 (λ q. omega arith) ∙ get_or-set_other d (slot f) n 1 0 (λ q. omega arith)
      go false = refl

-- ---- one field

abbrev noting : Entry → List ℕ → List ℕ
noting x d = noted x.name x.index x.place (x.place + length x.bytes) x.items d

-- the test that decides whether it is noted
abbrev is_noted : Entry → List ℕ → Bool
is_noted x d = eqb x.index (wanted d) && free d (slot x.name)

-- what that test says
noted_is : (x : Entry) (d : List ℕ) → T (is_noted x d) → (x.index ≡ wanted d) × (slot x.name + 3 < length d) × (get_or d (slot x.name) 0 ≡ 0)
unfolding free
noted_is x d t =
    let t' = and_r (eqb x.index (wanted d)) _ t in
    (eqb→eq x.index (wanted d) (and_l (eqb x.index (wanted d)) _ t), ltb→lt (slot x.name + 3) (length d) (and_l (ltb (slot x.name + 3) (length d)) _ t'), eqb→eq (get_or d (slot x.name) 0) 0 (and_r (ltb (slot x.name + 3) (length d)) _ t'))

noted_so : (x : Entry) (d : List ℕ) → x.index ≡ wanted d → slot x.name + 3 < length d → get_or d (slot x.name) 0 ≡ 0 → T (is_noted x d)
unfolding free
noted_so x d i b z = both (eqb x.index (wanted d)) _ (rw (eq-eqb x.index (wanted d) i) tt) (both (ltb (slot x.name + 3) (length d)) _ (lt→ltb _ _ b) (rw z tt))

-- a field that is noted is stored in four numbers
noted-free : (x : Entry) (d : List ℕ) → T (is_noted x d) → noting x d ≡ sets d (slot x.name) (numbers_of (some x))
unfolding noted
noted-free x d t =
    let p : slot x.name + 1 ≡ suc (slot x.name) = omega arith in
    let q : slot x.name + 2 ≡ suc (suc (slot x.name)) = omega arith in
    let r : slot x.name + 3 ≡ suc (suc (suc (slot x.name))) = omega arith in
    let m : x.place + length x.bytes - x.place ≡ length x.bytes = omega arith in
    pick_yes _ _ _ t ∙ rw (p, q, r, m)

-- a field that is not noted changes nothing
noted-held : (x : Entry) (d : List ℕ) → T (not (is_noted x d)) → noting x d ≡ d
unfolding noted
noted-held x d t = pick_no _ _ _ t

-- either way the table keeps its size
length-noted : (x : Entry) (d : List ℕ) → length (noting x d) ≡ length d
length-noted x d = noted-size x.name x.index x.place (x.place + length x.bytes) x.items d

-- and the index that is wanted
wanted-noted : (x : Entry) (d : List ℕ) → wanted (noting x d) ≡ wanted d
unfolding wanted
wanted-noted x d = noted-behind x.name x.index x.place (x.place + length x.bytes) x.items d wanted_at (omega arith)

module _ (f : Field) where
  -- a field of another name, and one that is not noted, leave what stands under a name
  noted_past : (x : Entry) (d : List ℕ) → (code f ≡ code x.name → T (is_noted x d) → ⊥) → under f (noting x d) ≡ under f d
  unfolding under slot
  noted_past x d h =
      test (is_noted x d)
      (λ t. rw (noted-free x d t)
      (under_is f (sets d (slot x.name) (numbers_of (some x))) (under f d) refl λ j b.
      sets_other (numbers_of (some x)) d (slot x.name) (slot f + j) (λ i c e. h (omega arith) t) ∙ sym (under_at f d j b)))
      (λ t. rw (noted-held x d t))

  -- names of one number have one place
  slot_alike : (g : Field) → code f ≡ code g → slot g ≡ slot f
  unfolding slot
  slot_alike g e = ap (λ (k : ℕ). 4 * k) (sym e)

  -- a field that is noted stands under its name
  noted-there : (x : Entry) (d : List ℕ) → code f ≡ code x.name → T (is_noted x d) → under f (noting x d) ≡ numbers_of (some x)
  noted-there x d e t =
      let s = slot_alike x.name e in
      let b = noted_is x d t in
      rw (noted-free x d t, s) (under_is f (sets d (slot f) (numbers_of (some x))) (numbers_of (some x)) refl λ j c. sets_here (numbers_of (some x)) d (slot f) j (omega arith) c)

  -- a field that is asked for has the name's number and the index
  field_is : (k : ℕ) (x : Entry) → T (is_field f k x) → (code f ≡ code x.name) × (x.index ≡ k)
  unfolding is_field
  field_is k x t =
      (eqb→eq (code f) (code x.name) (and_l (eqb (code f) (code x.name)) _ t), sym (eqb→eq k x.index (and_r (eqb (code f) (code x.name)) _ t)))

  -- and one that has them is asked for
  is_field_lem : (k : ℕ) (x : Entry) → code f ≡ code x.name → x.index ≡ k → T (is_field f k x)
  unfolding is_field
  is_field_lem k x e i = rw (eq-eqb (code f) (code x.name) e, eq-eqb k x.index (sym i)) tt

  -- ---- a list of fields

  -- what stands under a name stays
  kept : (xs : List Entry) (d : List ℕ) → get_or d (slot f) 0 ≡ 1 → under f (notes xs d) ≡ under f d
  unfolding notes under
  kept [] d h = refl
  kept (x ∷ xs) d h =
      let u = noted_past x d λ e t. let z : get_or d (slot f) 0 ≡ 0 = rw (← slot_alike x.name e) (noted_is x d t).2 in omega arith in
      kept xs (noting x d) (first_is f (noting x d) (under f d) u ∙ h) ∙ u

  -- under a name that is empty the first field of that name and index comes to stand
  found : (k : ℕ) (xs : List Entry) (d : List ℕ) → wanted d ≡ k → length d ≡ table_size → under f d ≡ numbers_of none → under f (notes xs d) ≡ numbers_of (first (is_field f k) xs)
  unfolding notes first
  found k [] d i l h = h
  found k (x ∷ xs) d i l h =
      test (is_field f k x)
      (λ t. let q = field_is k x t in
      let s = slot_alike x.name q.0 in
      let c = code_below f in
      let b : slot x.name + 3 < length d = rw s (unfold slot in omega arith) in
      let w = noted_so x d (q.1 ∙ sym i) b (rw s (first_is f d (numbers_of none) h)) in
      let u = noted-there x d q.0 w in
      rw (pick_yes _ _ _ t) (kept xs (noting x d) (first_is f (noting x d) (numbers_of (some x)) u) ∙ u))
      (λ t. let u = noted_past x d λ e w. T_not (is_field f k x) t (is_field_lem k x e ((noted_is x d w).0 ∙ i)) in
      rw (pick_no _ _ _ t) (found k xs (noting x d) (wanted-noted x d ∙ i) (length-noted x d ∙ l) (u ∙ h)))

-- a table in which nothing is noted yet
abbrev pub blank : ℕ → List ℕ
blank k = set (replicate table_size 0) wanted_at k

wanted-notes : (xs : List Entry) (d : List ℕ) → wanted (notes xs d) ≡ wanted d
unfolding notes
wanted-notes [] d = refl
wanted-notes (x ∷ xs) d = wanted-notes xs (noting x d) ∙ wanted-noted x d

wanted-blank : (k : ℕ) → wanted (blank k) ≡ k
unfolding wanted
wanted-blank k = get_or-set_same (replicate table_size 0) wanted_at k 0 (omega (arith, length-replicate {A = ℕ} table_size 0))

-- the table that is made is the one that is asked for
pub placed : (k : ℕ) (xs : List Entry) → Placed k xs (notes xs (blank k))
unfolding slot
placed k xs = (
  wanted-notes xs (blank k) ∙ wanted-blank k,
  λ f.
      let c = code_below f in
      found f k xs (blank k) (wanted-blank k) (length-set (replicate table_size 0) wanted_at k ∙ length-replicate {A = ℕ} table_size 0)
      (under_is f (blank k) (numbers_of none) refl λ j b.
      get_or-set_other (replicate table_size 0) wanted_at (slot f + j) k 0 (λ q. omega arith) ∙ get_or-replicate table_size (slot f + j) 0 0 (omega arith) ∙ sym (get_or-replicate 4 j 0 0 b)),
)

-- and there is no other
pub placed_once : (k : ℕ) (xs : List Entry) (d d' : List ℕ) → length d ≡ table_size → length d' ≡ table_size → Placed k xs d → Placed k xs d' → d ≡ d'
unfolding slot wanted
placed_once k xs d d' l l' (w, h) (w', h') =
    ext_get_or 0 d d' (l ∙ sym l') λ i b.
    test (ltb i wanted_at)
    (λ t. let t' = ltb→lt i wanted_at t in
    let f : Field = name_of (i / 4) in
    let n = code_name (i / 4) (omega arith) in
    let e : slot f + i % 4 ≡ i = omega arith in
    let c : i % 4 < 4 = omega arith in
    rw (← e) (sym (under_at f d (i % 4) c) ∙ ap (λ (y : List ℕ). get_or y (i % 4) 0) (h f ∙ sym (h' f)) ∙ under_at f d' (i % 4) c))
    (λ t. let e : wanted_at ≡ i = omega (arith, nltb→le i wanted_at t) in rw (← e) (w ∙ sym w'))
