-- A record that is read notes the fields that it passes, also where it is refused: `marks` agrees with `passed`, for every layout. Assumes nothing.
use Rattle.std.specs.Prelude.{◌≡◌, Bool, true, false, ◌&&◌, length, get_or, set, take, eqb, ltb, Ok, Err}
use Rattle.std.proofs.Math.Path.{refl}
use Rattle.std.proofs.Common.{sym, ◌∙◌, length-set, get_or-take, length-take-le, lt-ltb}
use Prim.Native.Nat.{ℕ, suc, zero, ◌+◌, ◌-◌, ◌≤◌, ◌<◌}
use native.Mathlib.Omega.{arith}
use mathlib.Core.List.{List, [], ◌∷◌, ◌++◌}
use Rattle.std.proofs.Math.Seq.{take-length, slice, take-set-lt}
use Rattle.std.proofs.lemmas.List.{take-set-le}
use Rattle.terms.specs.declared.Field.{Field}
use Rattle.terms.specs.Names.{code}
use Rattle.terms.specs.declared.Reason.TheVariants.{TooManyItems}
use Rattle.terms.specs.Answer.{Res, good, fault, Got, pick, bind, need, enough, Answer, refused}
use Rattle.terms.specs.Laws.Answer.{test, is_true, is_false}
use Rattle.terms.specs.Laws.Names.{code_below}
use Rattle.heads.specs.Head.{forms, Cut, head, outermost, tlv}
use Rattle.heads.specs.Scan.{seen, head_at, outermost_at, close_at}
use Rattle.heads.proofs.Laws.Head.{head_back, length-tlv, outermost_back}
use Rattle.contents.specs.Leaves.{Leaf, boolean}
use Rattle.layouts.specs.Layout.{Item, leaf, node, list, wrap, Members, end, ◌▸◌, Member, known, one, maybe, flag, choose, tag_of}
use Rattle.layouts.specs.Reading.{next, read_leaf, begins, many, read_option, read_flag, read_either, read, read_part}
use Rattle.layouts.specs.Whole.{sequence}
use Rattle.layouts.specs.Scan.{then_step, scan, scans}
use Rattle.layouts.specs.Fields.{Entry, list_entry}
use Rattle.layouts.specs.Places.{table_size, wanted_at, wanted, slot, under, Placed}
use Rattle.layouts.specs.Marks.{free, filled, noted, notes, unblamed, blamed, blaming, after_seen, after_step, tally, many_marks, leaf_marks, marks, marks_all, marks_part, record_marks}
use Rattle.layouts.specs.Passed.{of_read, passed_leaf, passed_many, passed, passed_all, passed_part, record_passed}
use Rattle.layouts.proofs.Laws.Scan.{by_window, Onward, step, head-parts, leaf_parts, leaf_agree, begins-agree, enough-agree, item_on, part_on, scan-read, part-read}
use Rattle.layouts.proofs.Laws.Places.{blank, placed}
use Rattle.layouts.proofs.Laws.About.{not-enough}

-- ---- a table, and one that may have more behind it

-- the second is the first without what stands behind the table
abbrev pub Front : List ℕ → List ℕ → Type 0
Front d d' = (table_size ≤ length d) × (take table_size d ≡ d')

front-noted : (f : Field) (k a z n : ℕ) (d d' : List ℕ) → Front d d' → Front (noted f k a z n d) (noted f k a z n d')
unfolding noted free wanted slot pick
front-noted f k a z n d d' (r, q) =
    let c = code_below f in
    let u : ltb (slot f + 3) (length d) ≡ true = lt-ltb (slot f + 3) (length d) (omega arith) in
    let l : length (take table_size d) ≡ table_size = length-take-le table_size d r in
    let v : ltb (slot f + 3) (length (take table_size d)) ≡ true = lt-ltb (slot f + 3) (length (take table_size d)) (omega arith) in
    let w = get_or-take table_size d wanted_at 0 (omega arith) in
    let x = get_or-take table_size d (slot f) 0 (omega arith) in
    rw (← q, u, v, w, x) (go (eqb k (get_or d wanted_at 0) && eqb (get_or d (slot f) 0) 0))
  where
    go : (b : Bool) → Front (pick b (filled d (slot f) a (z - a) n) d) (pick b (filled (take table_size d) (slot f) a (z - a) n) (take table_size d))
    go true =
        let c = code_below f in
        let p₀ : slot f < table_size = omega arith in
        let p₁ : slot f + 1 < table_size = omega arith in
        let p₂ : slot f + 2 < table_size = omega arith in
        let p₃ : slot f + 3 < table_size = omega arith in
        (simp length-set r, rw (take-set-lt, take-set-lt, take-set-lt, take-set-lt))
    go false = (r, refl)

front-blamed : (f : Field) (d d' : List ℕ) → Front d d' → Front (blamed f d) d'
unfolding blamed pick
front-blamed f d d' (r, q) = go (unblamed d)
  where
    go : (b : Bool) → Front (pick b (set d table_size (code f + 1)) d) d'
    go true = (rw (length-set d table_size (code f + 1)) r, take-set-le table_size d table_size (code f + 1) (omega arith) ∙ q)
    go false = (r, q)

front-blaming : (x : Answer ℕ) (f : Field) (d d' : List ℕ) → Front d d' → Front (blaming x f d) d'
front-blaming (Ok q) f d d' h = h
front-blaming (Err e) f d d' h = front-blamed f d d' h

front-after : (x : Answer ℕ) (d d' : List ℕ) (m : ℕ → List ℕ) → Front d d' → ((q : ℕ) → Front (m q) d') → Front (after_step x d m) d'
front-after (Ok q) d d' m h g = g q
front-after (Err e) d d' m h g = h

-- to note two lists in a row is to note the second after the first
notes-append : (xs ys : List Entry) (d : List ℕ) → notes (xs ++ ys) d ≡ notes ys (notes xs d)
unfolding notes
notes-append [] ys d = refl
notes-append (x ∷ xs) ys d = notes-append xs ys (noted x.name x.index x.place (x.place + length x.bytes) x.items d)

-- a field is noted up to its end
notes_to : (f : Field) (k b n : ℕ) (x : List ℕ) (xs : List Entry) (z : ℕ) (d : List ℕ) → z ≡ b + length x → notes (list_entry f k b x n ∷ xs) d ≡ notes xs (noted f k b z n d)
unfolding notes
notes_to f k b n x xs z d h = rw h

-- ---- every layout

front-seen : (h : Res Cut) (d d' e : List ℕ) (m : ℕ → ℕ → List ℕ) (xs : Cut → List Entry) → Front e d' → ((c : Cut) → h ≡ good c → Front (m c.start (next c)) (notes (xs c) d'))
    → Front (after_seen (seen h) e m) (notes (of_read h xs) d')
unfolding notes
front-seen (good c) d d' e m xs h g = g c refl
front-seen (fault n p) d d' e m xs h g = h

front-step : {A : Type 0} (r : Res (Got A)) (d d' : List ℕ) (m : ℕ → List ℕ) (xs : Got A → List Entry) → Front d d' → ((a : Got A) → r ≡ good a → Front (m a.after) (notes (xs a) d'))
    → Front (after_step (step r) d m) (notes (of_read r xs) d')
unfolding notes
front-step (good a) d d' m xs h g = g a refl
front-step (fault n p) d d' m xs h g = h

front-pick : (t : Bool) (d e d' : List ℕ) (xs ys : List Entry) → Front d (notes xs d') → Front e (notes ys d') → Front (pick t d e) (notes (pick t xs ys) d')
unfolding pick
front-pick true d e d' xs ys h g = h
front-pick false d e d' xs ys h g = g

-- items that are counted, `j` of them before here, are those that were read
abbrev Counts : {A : Type 0} → ℕ → Answer ℕ → Res (List A) → Type 0
Counts j (Ok c) (good xs) = c ≡ j + length xs
Counts j (Ok c) (fault n p) = ⊥
Counts j (Err e) (good xs) = ⊥
Counts j (Err e) (fault n p) = Unit {0}

-- one item more
counts_more : {A : Type 0} (j : ℕ) (t : Answer ℕ) (r : Res (List A)) (a : A) → Counts (suc j) t r → Counts j t (bind r λ xs. good (a ∷ xs))
unfolding bind
counts_more j (Ok c) (good xs) a h = omega arith
counts_more j (Ok c) (fault n p) a h = h
counts_more j (Err e) (good xs) a h = h
counts_more j (Err e) (fault n p) a h = h

-- a list's items, and then the list
front_list : {A : Type 0} (t : Answer ℕ) (r : Res (List A)) (f : Field) (d d' : List ℕ) (m : ℕ → List ℕ) (xs : List A → List Entry) → Counts 0 t r → Front d d'
    → ((vs : List A) → Front (m (length vs)) (notes (xs vs) d')) → Front (after_step t (blamed f d) m) (notes (of_read r xs) d')
unfolding notes
front_list (Ok c) (good vs) f d d' m xs h o g = let e : length vs ≡ c = omega arith in rw (← e) (g vs)
front_list (Ok c) (fault n p) f d d' m xs h o g = absurd h
front_list (Err e) (good vs) f d d' m xs h o g = absurd h
front_list (Err e) (fault n p) f d d' m xs h o g = front-blamed f d d' o

passed_none : {A : Type 0} (f : List ℕ → ℕ → Res (Got A)) (g : ℕ → List ℕ → ℕ → List Entry) (n k b : ℕ) → passed_many f g n k [] b ≡ []
unfolding passed_many
passed_none f g zero k b = refl
passed_none f g (suc n) k b = refl

module _ (s : List ℕ) where
  -- what stands behind a head: a window of the slice, where it starts and where the item ends
  head_place : (t p e : ℕ) → p ≤ e → e ≤ length s → (c : Cut) → head forms t (slice p e s) p ≡ good c
      → (c.content ≡ slice c.start (next c) s) × (c.start ≤ next c) × (next c ≤ length s) × (next c ≡ p + length (tlv t c.content))
  head_place t p e pe es c h =
      let b = head-parts s t p e pe es c h in
      let k = head_back t (slice p e s) p c h in
      let n = length-tlv t c.content in
      (b.0, omega arith, omega arith, omega arith)

  leaf_front : (l : Leaf) (f : Field) (k p e : ℕ) → p ≤ e → e ≤ length s → (d d' : List ℕ) → Front d d' → Front (leaf_marks l f k s p e d) (notes (passed_leaf l f k (slice p e s) p) d')
  unfolding leaf_marks passed_leaf notes
  leaf_front l f k p e pe es d d' o = rw (leaf_agree s l p e pe es) (front-seen (read_leaf l (slice p e s) p) d d' _ _ _ (front-blamed f d d' o) λ c h. front-noted f k c.start (next c) 0 d d' o)

  module _ {A : Type 0} (f : ℕ → Answer ℕ) (m : ℕ → ℕ → List ℕ → List ℕ) (g : List ℕ → ℕ → Res (Got A)) (F : ℕ → List ℕ → ℕ → List Entry) (e : ℕ) (es : e ≤ length s)
      (like : (p : ℕ) → p ≤ e → f p ≡ step (g (slice p e s) p))
      (on : (p : ℕ) → p ≤ e → (v : Got A) → g (slice p e s) p ≡ good v → Onward s p e v.rest v.after)
      (mark : (j p : ℕ) → p ≤ e → (d d' : List ℕ) → Front d d' → Front (m j p d) (notes (F j (slice p e s) p) d')) where
    many-front : (n j p : ℕ) → p ≤ e → (d d' : List ℕ) → Front d d'
        → Counts j (tally f n j p e) (many g n (slice p e s) p) × Front (many_marks f m n j p e d) (notes (passed_many g F n j (slice p e s) p) d')
    unfolding tally many_marks many passed_many notes pick bind
    many-front zero j p pe d d' o =
        by_window s p e (λ u w. Counts j (pick u (refused TooManyItems p) (Ok j)) (many g zero w p) × Front d (notes (passed_many g F zero j w p) d')) pe es (omega arith, o) (tt, o)
    many-front (suc n) j p pe d d' o =
        by_window s p e
        (λ u w. w ≡ slice p e s → Counts j (pick u (then_step (f p) λ q. tally f n (suc j) q e) (Ok j)) (many g (suc n) w p)
        × Front (pick u (after_step (f p) (m j p d) λ q. many_marks f m n (suc j) q e (m j p d)) d) (notes (passed_many g F (suc n) j w p) d'))
        pe es
        (λ w. (omega arith, o))
        (λ w. rw (w, like p pe, notes-append) (go (λ q i c c' u. many-front n (suc j) q i c c' u) (g (slice p e s) p) refl (mark j p pe d d' o)))
        refl
      where
        go : ((q : ℕ) → q ≤ e → (c c' : List ℕ) → Front c c' → Counts (suc j) (tally f n (suc j) q e) (many g n (slice q e s) q) × Front (many_marks f m n (suc j) q e c) (notes (passed_many g F n (suc j) (slice q e s) q) c'))
            → (r : Res (Got A)) → g (slice p e s) p ≡ r → Front (m j p d) (notes (F j (slice p e s) p) d')
            → Counts j (then_step (step r) λ q. tally f n (suc j) q e) (bind r λ a. bind (many g n a.rest a.after) λ xs. good (a.value ∷ xs))
            × Front (after_step (step r) (m j p d) λ q. many_marks f m n (suc j) q e (m j p d)) (notes (of_read r λ a. passed_many g F n (suc j) a.rest a.after) (notes (F j (slice p e s) p) d'))
        go more (good a) q h =
            let i = on p pe a q in
            let x = more a.after i.2 (m j p d) _ h in
            rw i.0 (counts_more j (tally f n (suc j) a.after e) _ a.value x.0, x.1)
        go more (fault c r) q h = (tt, h)

  mutual
    unfolding marks passed read head_at read_option read_flag read_either notes need pick

    -- an item notes what it passes
    item_front : (i : Item) (f : Field) (k p e : ℕ) → p ≤ e → e ≤ length s → (d d' : List ℕ) → Front d d' → Front (marks i f k s p e d) (notes (passed i f k (slice p e s) p) d')
    item_front (leaf l) f k p e pe es d d' o = leaf_front l f k p e pe es d d' o
    item_front (node t r) f k p e pe es d d' o =
        front-seen (head forms t (slice p e s) p) d d' _ _ _ (front-blamed f d d' o) λ c h.
        let b = head_place t p e pe es c h in
        front-blaming (scans r s c.start (next c)) f _ _
        (rw (notes_to f k p 0 (tlv t c.content) _ (next c) d' b.3) (rw (← b.0) at (all_front r k c.start (next c) b.1 b.2 (noted f k p (next c) 0 d) (noted f k p (next c) 0 d') (front-noted f k p (next c) 0 d d' o))))
    item_front (list t k' n g i) f k p e pe es d d' o =
        front-seen (head forms t (slice p e s) p) d d' _ _ _ (front-blamed f d d' o) λ c h.
        let b = head_place t p e pe es c h in
        let m = many-front (λ q. scan i s q (next c)) (λ j q y. marks i g j s q (next c) y) (λ y q. read i y q) (λ j y q. passed i g j y q) (next c) b.2
        (λ q a. scan-read s i q (next c) a b.2)
        (λ q a. item_on s i q (next c) a b.2)
        (λ j q a y y' v. item_front i g j q (next c) a b.2 y y' v)
        n 0 c.start b.1 d d' o in
        let y : Answer ℕ = tally (λ q. scan i s q (next c)) n 0 c.start (next c) in
        let z : List ℕ = many_marks (λ q. scan i s q (next c)) (λ j q y. marks i g j s q (next c) y) n 0 c.start (next c) d in
        rw (enough-agree s k' c.start (next c) b.1 b.2, ← b.0, notes-append)
        (test (enough k' c.content)
        (λ u. let x = rw (← b.0) at m in
        rw (is_true (enough k' c.content) u)
        (front_list y _ f z _ (λ j. noted f k p (next c) j z) (λ vs. list_entry f k p (tlv t c.content) (length vs) ∷ []) x.0 x.1 λ vs. rw (notes_to f k p (length vs) (tlv t c.content) [] (next c) _ b.3) (front-noted f k p (next c) (length vs) z _ x.1)))
        (λ u. let v = not-enough k' c.content u in
        rw (is_false (enough k' c.content) u, v, passed_none (λ y q. read i y q) (λ j y q. passed i g j y q) n 0 c.start) (front-blamed f d d' o)))
    item_front (wrap t i) f k p e pe es d d' o =
        front-seen (head forms t (slice p e s) p) d d' _ _ _ (front-blamed f d d' o) λ c h.
        let b = head_place t p e pe es c h in
        let m = rw (← b.0) at (item_front i f k c.start (next c) b.1 b.2 d d' o) in
        front-after (scan i s c.start (next c)) _ _ _ m λ q. front-blaming (close_at q (next c)) f _ _ m

    all_front : (r : Members) (k p e : ℕ) → p ≤ e → e ≤ length s → (d d' : List ℕ) → Front d d' → Front (marks_all r k s p e d) (notes (passed_all r k (slice p e s) p) d')
    all_front end k p e pe es d d' o = o
    all_front (m ▸ r) k p e pe es d d' o =
        rw (part-read s m p e pe es, notes-append)
        (front-step (read_part m (slice p e s) p) _ _ _ _ (part-front m k p e pe es d d' o) λ a q.
        let w = part_on s m p e pe es a q in
        rw w.0 (all_front r k a.after e w.2 es _ _ (part-front m k p e pe es d d' o)))

    part-front : (m : Member) (k p e : ℕ) → p ≤ e → e ≤ length s → (d d' : List ℕ) → Front d d' → Front (marks_part m k s p e d) (notes (passed_part m k (slice p e s) p) d')
    part-front (known w) k p e pe es d d' o = o
    part-front (one f i) k p e pe es d d' o = item_front i f k p e pe es d d' o
    part-front (maybe f i) k p e pe es d d' o =
        rw (begins-agree s (tag_of i) p e pe es) (front-pick (begins (tag_of i) (slice p e s)) _ _ d' _ _ (item_front i f k p e pe es d d' o) o)
    part-front (flag f) k p e pe es d d' o =
        rw (begins-agree s boolean.tag p e pe es) (front-pick (begins boolean.tag (slice p e s)) _ _ d' _ _ (leaf_front boolean f k p e pe es d d' o) o)
    part-front (choose f l t g i j) k p e pe es d d' o =
        let y = leaf_front l f k p e pe es d d' o in
        rw (leaf_agree s l p e pe es, notes-append)
        (front-seen (read_leaf l (slice p e s) p) d _ _ _ _ y λ c h.
        let b = leaf_parts s l p e pe es c h in
        rw (← b.0, b.1) (front-pick (t c.content) _ _ _ _ _ (item_front i g k (next c) e b.3 es _ _ y) (item_front j g k (next c) e b.3 es _ _ y)))

-- ---- a whole record

module _ (most : ℕ) (r : Members) (s : List ℕ) where
  record_front : (d d' : List ℕ) → Front d d' → Front (record_marks most r s 0 (length s) d) (notes (record_passed most r s) d')
  unfolding record_marks outermost_at record_passed
  record_front d d' o =
      let w : slice 0 (length s) s ≡ s = take-length s in
      rw w
      (front-seen (outermost forms most sequence s 0) d d' _ _ _ o λ c h.
      let b = head_place s sequence 0 (length s) (omega arith) (omega arith) c (rw w (outermost_back most sequence s 0 c h).0) in
      rw (← b.0) at (all_front s r 0 c.start (next c) b.1 b.2 d d' o))

  -- the table has the fields that are passed
  pub passed_placed : (k : ℕ) (d : List ℕ) → Front d (blank k) → Placed k (record_passed most r s) (take table_size (record_marks most r s 0 (length s) d))
  passed_placed k d o = rw (record_front d (blank k) o).1 (placed k (record_passed most r s))

-- what the table's front has, the table has
pub placed_whole : (k : ℕ) (xs : List Entry) (d : List ℕ) → Placed k xs (take table_size d) → Placed k xs d
unfolding wanted under slot
placed_whole k xs d (w, h) = (
  sym (get_or-take table_size d wanted_at 0 (omega arith)) ∙ w,
  λ f.
      let c = code_below f in
      let at : (n : ℕ) → n < table_size → get_or (take table_size d) n 0 ≡ get_or d n 0 = λ n b. get_or-take table_size d n 0 b in
      rw (← at (slot f) (omega arith), ← at (slot f + 1) (omega arith), ← at (slot f + 2) (omega arith), ← at (slot f + 3) (omega arith)) (h f),
)
