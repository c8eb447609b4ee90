-- Reading a sheet by positions is reading the window: `sheet_scan` agrees with `fill`, for every layout. Assumes nothing.
use Rattle.std.specs.Prelude.{◌≡◌, Bool, ◌||◌, take, replicate, ℤ, leb, eqb, Ok, Err}
use Rattle.std.proofs.Math.Path.{refl, sym, ap}
use Rattle.std.proofs.Common.{◌∙◌, arith, drop_at}
use Prim.Native.Nat.{ℕ, suc, zero, ◌+◌, ◌-◌}
use Rattle.std.proofs.Math.Bool.{true, false}
use Rattle.std.proofs.Math.Option.{none, some}
use mathlib.Core.List.{List, [], ◌∷◌, ◌++◌, append_assoc}
use Rattle.std.proofs.Math.ListN.{length, drop, length-append, length-drop}
use Rattle.std.proofs.lemmas.List.{length-replicate}
use Rattle.std.proofs.Math.Seq.{slice, take-length, drop-drop}
use Rattle.std.proofs.Math.Dec.{eqb→eq}
use Rattle.terms.specs.declared.Reason.TheVariants.{NoItem, TooManyItems, BadSheet, BadInteger, NotAllowed}
use Rattle.terms.specs.Answer.{Res, good, fault, Got, got, pick, bind, need, have, same, finish, Answer, refused}
use Rattle.terms.specs.Laws.Answer.{same_refusal, test, is_true, is_false}
use Rattle.heads.specs.Head.{Cut}
use Rattle.heads.specs.Scan.{seen}
use Rattle.contents.specs.Content.{Check, fine, wrong, ask, judge, place_of}
use Rattle.contents.specs.Integer.{section_bytes, well_formed, value, sign_of, shrink, unstretch}
use Rattle.contents.specs.Rules.{integer_rule}
use Rattle.contents.specs.Leaves.{Holding, bytes, number, Leaf, rule_of, value_in}
use Rattle.contents.specs.Scan.{checked, checked_at}
use Rattle.contents.proofs.Laws.Integer.{shrink_back}
use Rattle.layouts.specs.Layout.{Item, leaf, node, list, wrap, Members, end, ◌▸◌, Member, known, one, maybe, flag, choose, Value, Part}
use Rattle.layouts.specs.Reading.{next, read_either}
use Rattle.layouts.specs.Sheet.{count_bytes, count, section, sheet, sheets, sheet_part, read_count, read_section, fill_leaf, times, critical_in, fill_flag, fill_option, fill_list, fill, fills, fill_part}
use Rattle.layouts.specs.Whole.{accept_sheet}
use Rattle.layouts.specs.Scan.{then_seen, then_step, judged_at}
use Rattle.layouts.specs.SheetScan.{counted, count_at, within_of, list_count_at, section_at, value_at, leaf_section_at, flag_section_at, times_scan, sheet_scan, sheet_scans, sheet_scan_part, whole_sheet_scan}
use Rattle.layouts.proofs.Laws.Sheet.{count_back, length-count, length-section, section_back, unfilled, unfilleds, unfilled_part}
use Rattle.layouts.proofs.Laws.Scan.{rest_slice, front-slice, onward, by_window, out, step, whole, seen-bind, out-bind, out-map, out-need, out-pick, choose_read}

-- ---- an integer's value in its section

-- what is needed of some bytes is the last of them
pub shrink_last : (x : List ℕ) → drop (length x - length (shrink x)) x ≡ shrink x
shrink_last x =
    let n : ℕ = length x - length (shrink x) in
    ap (drop n) (sym (shrink_back x)) ∙ drop_at (replicate n (sign_of x)) (shrink x) n (length-replicate n (sign_of x))

-- an integer's rule points at the tag, wherever its value stands
integer_place : (allowed : ℤ → Bool) (v : List ℕ) (p a b : ℕ) → checked (integer_rule allowed v) p a ≡ checked (integer_rule allowed v) p b
unfolding integer_rule ask place_of
integer_place allowed v p a b = go (well_formed v) (allowed (value v))
  where
    go : (x y : Bool) → checked (ask x BadInteger (ask y NotAllowed fine)) p a ≡ checked (ask x BadInteger (ask y NotAllowed fine)) p b
    go true true = refl
    go true false = refl
    go false y = refl

-- a value by its rule, then what follows
judged-bind : {A B : Type 0} (g : B → ℕ) (x : Check) (p a b z : ℕ) (k : ℕ → ℕ → Answer ℕ) (y : A) (K : A → Res B) → checked x p b ≡ checked x p a → k b z ≡ out g (K y)
    → then_seen (judged_at (checked x p b) b z) k ≡ out g (bind (judge x p a (good y)) K)
unfolding judged_at judge bind
judged-bind g fine p a b z k y K e h = h
judged-bind g (wrong n x) p a b z k y K e h = let q : place_of x p b ≡ place_of x p a = ap (λ r. r.place) (same_refusal e) in rw q

-- a list's count within its bounds, then what follows
within : (c : Answer ℕ) (k : Bool) (n p : ℕ) (f : ℕ → Answer ℕ) → then_step (within_of k n p c) f ≡ (then_step c λ c. pick (k || leb 1 c) (pick (leb c n) (f c) (refused TooManyItems p)) (refused NoItem p))
unfolding pick
within (Ok c) k n p f = go (k || leb 1 c) (leb c n)
  where
    go : (x y : Bool) → then_step (pick x (pick y (Ok c) (refused TooManyItems p)) (refused NoItem p)) f ≡ pick x (pick y (f c) (refused TooManyItems p)) (refused NoItem p)
    go true true = refl
    go true false = refl
    go false y = refl
within (Err e) k n p f = refl

module _ (s : List ℕ) where
  -- ---- counts and sections

  count-bind : {A : Type 0} (g : A → ℕ) (p e : ℕ) (k : ℕ → Answer ℕ) (K : ℕ × List ℕ → Res A) → ((n : ℕ) → k n ≡ out g (K (n, slice (p + count_bytes) e s)))
      → then_step (count_at s p e) k ≡ out g (bind (read_count (slice p e s) p) K)
  unfolding count_at bind
  count-bind g p e k K f = go (read_count (slice p e s) p) refl
    where
      go : (r : Res (ℕ × List ℕ)) → read_count (slice p e s) p ≡ r → then_step (counted r) k ≡ out g (bind r K)
      go (good n) h =
          let q : n.1 ≡ slice (p + count_bytes) e s = rest_slice p e s (count n.0) n.1 (count_back (slice p e s) p n h) ∙ ap (λ (m : ℕ). slice (p + m) e s) (length-count n.0) in
          f n.0 ∙ ap (λ (w : List ℕ). out g (K (n.0, w))) (sym q)
      go (fault n q) h = refl

  -- a section's bytes are a window of the slice
  pub section-parts : (p e : ℕ) (c : Cut) → read_section (slice p e s) p ≡ good c → (c.content ≡ slice c.start (next c) s) × (c.rest ≡ slice (next c) e s)
  unfolding section
  section-parts p e c h =
      let b = section_back (slice p e s) p c h in
      let n : length (section c.content) ≡ count_bytes + length c.content = length-section c.content in
      let m : length (count (length c.content)) ≡ count_bytes = length-count (length c.content) in
      let f : p + length (count (length c.content)) ≡ c.start = omega (arith, b.1) in
      let w : c.content ++ c.rest ≡ slice c.start e s =
      rest_slice p e s (count (length c.content)) (c.content ++ c.rest) (b.0 ∙ append_assoc (count (length c.content)) c.content c.rest) ∙ ap (λ (k : ℕ). slice k e s) f in
      let l : length (slice p e s) ≡ length (take e s) - p = length-drop p (take e s) in
      let l' : length (slice p e s) ≡ length (section c.content) + length c.rest = ap length b.0 ∙ length-append (section c.content) c.rest in
      (front-slice c.start e s c.content c.rest (sym w) (omega arith), rest_slice p e s (section c.content) c.rest b.0 ∙ ap (λ (k : ℕ). slice k e s) (sym b.1))

  -- a section's value, then its rule, then what follows, by where the value lies
  value-bind : {A : Type 0} (g : A → ℕ) (h : Holding) (p e : ℕ) (c : Cut) (k : ℕ → ℕ → Answer ℕ) (K : Got (List ℕ) → Res A) → c.content ≡ slice c.start (next c) s
      → ((v : List ℕ) (a z : ℕ) → v ≡ slice a z s → z ≡ next c → k a z ≡ out g (K (got v c.rest z)))
      → (then_seen (then_seen (value_at h s p c.start (next c)) λ b y. judged_at (checked_at (rule_of h) s p b y) b y) k)
      ≡ out g (bind (bind (have (value_in h c.content) BadSheet p) λ v. judge (rule_of h v) p c.start (good (got v c.rest (next c)))) K)
  unfolding checked_at have bind unstretch pick
  value-bind g (bytes rule) p e c k K i f =
      rw (← i) (judged-bind g (rule c.content) p c.start c.start (next c) k (got c.content c.rest (next c)) K refl (f c.content c.start (next c) i refl))
  value-bind g (number allowed) p e c k K i f =
      let v : List ℕ = shrink c.content in
      let d : ℕ = section_bytes - length v in
      test (eqb (length c.content) section_bytes)
      (λ h.
      let n : length c.content ≡ section_bytes = eqb→eq (length c.content) section_bytes h in
      let q : v ≡ slice (c.start + d) (next c) s =
      sym (shrink_last c.content) ∙ ap (λ (m : ℕ). drop (m - length v) c.content) n ∙ ap (drop d) i ∙ drop-drop d c.start (take (next c) s) in
      rw (← i, is_true (eqb (length c.content) section_bytes) h, ← q)
      (judged-bind g (integer_rule allowed v) p c.start (c.start + d) (next c) k (got v c.rest (next c)) K (integer_place allowed v p (c.start + d) c.start) (f v (c.start + d) (next c) q refl)))
      (λ h. rw (← i, is_false (eqb (length c.content) section_bytes) h))

  -- what follows a primitive item's section
  leaf_bind : {A : Type 0} (g : A → ℕ) (l : Leaf) (p e : ℕ) (k : ℕ → ℕ → Answer ℕ) (K : Got (List ℕ) → Res A)
      → ((v : List ℕ) (a z : ℕ) → v ≡ slice a z s → k a z ≡ out g (K (got v (slice z e s) z)))
      → then_seen (leaf_section_at l s p e) k ≡ out g (bind (fill_leaf l (slice p e s) p) K)
  unfolding leaf_section_at section_at fill_leaf bind
  leaf_bind g l p e k K f = go (read_section (slice p e s) p) refl
    where
      go : (r : Res Cut) → read_section (slice p e s) p ≡ r
          → (then_seen (then_seen (seen r) λ a z. then_seen (value_at l.holds s p a z) λ b y. judged_at (checked_at (rule_of l.holds) s p b y) b y) k)
          ≡ out g (bind (bind r λ c. bind (have (value_in l.holds c.content) BadSheet p) λ v. judge (rule_of l.holds v) p c.start (good (got v c.rest (next c)))) K)
      go (good c) h =
          let b = section-parts p e c h in
          value-bind g l.holds p e c k K b.0 λ v a z q y. f v a z q ∙ ap (λ (w : List ℕ). out g (K (got v w z))) (rw y (sym b.1))
      go (fault n q) h = refl

  leaf_filled : (l : Leaf) (p e : ℕ) → (then_seen (leaf_section_at l s p e) λ a z. Ok z) ≡ step (fill_leaf l (slice p e s) p)
  unfolding bind
  leaf_filled l p e = leaf_bind (λ x. x.after) l p e (λ a z. Ok z) good (λ v a z q. refl) ∙ whole-bind (fill_leaf l (slice p e s) p)
    where
      whole-bind : (r : Res (Got (List ℕ))) → step (bind r good) ≡ step r
      whole-bind (good a) = refl
      whole-bind (fault n q) = refl

  flag_filled : (p e : ℕ) → flag_section_at s p e ≡ step (fill_flag (slice p e s) p)
  unfolding flag_section_at section_at fill_flag critical_in have bind pick
  flag_filled p e =
      seen-bind {A = Got Bool} (λ x. x.after) _ _ _ λ c h.
      rw (← (section-parts p e c h).0) (go c (same c.content (0 ∷ [])) (same c.content (1 ∷ [])))
    where
      go : (c : Cut) (a b : Bool) → pick (a || b) (Ok (next c)) (refused BadSheet p) ≡ step {A = Bool} (bind (have (pick a (some false) (pick b (some true) none)) BadSheet p) λ v. good (got v c.rest (next c)))
      go c true b = refl
      go c false true = refl
      go c false false = refl

  -- ---- what a reading leaves is the window from there on

  item_rest : (i : Item) (p e : ℕ) (x : Got (Value i)) → fill i (slice p e s) p ≡ good x → x.rest ≡ slice x.after e s
  item_rest i p e x h = let w = unfilled i (slice p e s) p x h in rest_slice p e s (sheet i x.value) x.rest w.0 ∙ ap (λ (n : ℕ). slice n e s) (sym w.2)

  part_rest : (m : Member) (p e : ℕ) (x : Got (Part m)) → fill_part m (slice p e s) p ≡ good x → x.rest ≡ slice x.after e s
  part_rest m p e x h = let w = unfilled_part m (slice p e s) p x h in rest_slice p e s (sheet_part m x.value) x.rest w.0 ∙ ap (λ (n : ℕ). slice n e s) (sym w.2)

  times-agree : {A : Type 0} (f : ℕ → Answer ℕ) (g : List ℕ → ℕ → Res (Got A)) (e : ℕ) → ((p : ℕ) → f p ≡ step (g (slice p e s) p)) → ((p : ℕ) (x : Got A) → g (slice p e s) p ≡ good x → x.rest ≡ slice x.after e s)
      → (n p : ℕ) → times_scan f n p ≡ step (times g n (slice p e s) p)
  unfolding times_scan times
  times-agree f g e like on zero p = refl
  times-agree f g e like on (suc n) p =
      rw (like p)
      (out-bind (λ x. x.after) (λ x. x.after) _ _ _ λ a h.
      rw (times-agree f g e like on n a.after, ← on p a h) (out-map (λ x. x.after) (λ x. x.after) _ _ λ b. refl))

  -- ---- every layout

  mutual
    unfolding sheet_scan list_count_at fill fill_option fill_list read_either

    pub sheet-fill : (i : Item) (p e : ℕ) → sheet_scan i s p e ≡ step (fill i (slice p e s) p)
    sheet-fill (leaf l) p e = leaf_filled l p e
    sheet-fill (node t r) p e = sheets-fill r p e
    sheet-fill (list t k n f i) p e =
        within (count_at s p e) k n p (λ c. times_scan (λ q. sheet_scan i s q e) c (p + count_bytes))
        ∙ count-bind (λ x. x.after) p e _ _ λ c.
        out-need (λ x. x.after) (k || leb 1 c) NoItem p _ _
        (out-need (λ x. x.after) (leb c n) TooManyItems p _ _
        (times-agree (λ q. sheet_scan i s q e) (λ x q. fill i x q) e (λ q. sheet-fill i q e) (λ q. item_rest i q e) c (p + count_bytes)))
    sheet-fill (wrap t i) p e = sheet-fill i p e

    pub sheets-fill : (r : Members) (p e : ℕ) → sheet_scans r s p e ≡ step (fills r (slice p e s) p)
    sheets-fill end p e = refl
    sheets-fill (m ▸ r) p e =
        rw (sheet_part-fill m p e)
        (out-bind (λ x. x.after) (λ x. x.after) _ _ _ λ a h.
        rw (sheets-fill r a.after e, ← part_rest m p e a h) (out-map (λ x. x.after) (λ x. x.after) _ _ λ b. refl))

    pub sheet_part-fill : (m : Member) (p e : ℕ) → sheet_scan_part m s p e ≡ step (fill_part m (slice p e s) p)
    sheet_part-fill (known k) p e = refl
    sheet_part-fill (one f i) p e = sheet-fill i p e
    sheet_part-fill (maybe f i) p e =
        count-bind (λ x. x.after) p e _ _ λ c.
        out-pick (λ x. x.after) (eqb c 0) _ _ _ _ refl
        (out-need (λ x. x.after) (eqb c 1) BadSheet p _ _ (sheet-fill i (p + count_bytes) e ∙ out-map (λ x. x.after) (λ x. x.after) _ _ λ a. refl))
    sheet_part-fill (flag f) p e = flag_filled p e
    sheet_part-fill (choose f l t g i j) p e =
        leaf_bind (λ x. x.after) l p e _ _ λ v a z q.
        rw (← q, sheet-fill i z e, sheet-fill j z e) (choose_read (λ x q. fill i x q) (λ x q. fill j x q) (t v) v (slice z e s) z)

-- a whole slice
pub sheet-accept : (r : Members) (s : List ℕ) → whole_sheet_scan r s ≡ whole (length s) (accept_sheet r s)
unfolding whole_sheet_scan accept_sheet finish same need pick
sheet-accept r s =
    let w : slice 0 (length s) s ≡ s = take-length s in
    rw (sheets-fill s r 0 (length s), w)
    (out-bind (λ x. x.after) (λ x. length s) _ _ _ λ a h.
    let b = unfilleds r s 0 a h in
    let o = onward 0 (length s) s (sheets r a.value) a.rest a.after (omega arith) (omega arith) (w ∙ b.0) b.2 in
    rw o.0
    (by_window s a.after (length s) (λ u w. pick u (refused BadSheet a.after) (Ok (length s)) ≡ whole (length s) (need (same w []) BadSheet a.after (good a.value))) o.2 (omega arith) refl refl))
