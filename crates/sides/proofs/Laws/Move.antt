-- What is moved is the value: from a record and from a sheet that are accepted, to every form, for every layout. Assumes nothing.
use Rattle.std.specs.Prelude.{◌≡◌, Bool, not, List, [], ◌∷◌, ◌++◌, take, drop, eqb, Ok}
use Rattle.std.proofs.Math.Path.{refl, ap}
use Rattle.std.proofs.Common.{sym, ◌∙◌, inl, inr, drop-drop, eqb→eq, leb→le}
use Prim.Native.Nat.{ℕ, suc, zero, ◌+◌, ◌-◌, ◌≤◌, ◌<◌}
use native.Mathlib.Omega.{arith}
use Rattle.std.proofs.Math.Bool.{true, false}
use Rattle.std.proofs.Math.Option.{none, some}
use Rattle.std.proofs.Math.ListN.{length, length-append}
use Rattle.std.proofs.Math.Seq.{slice}
use borrow.Author.Tests.{lt-ltb, le-ltb}
use Rattle.terms.specs.declared.Field.{Field}
use Rattle.terms.specs.declared.Reason.TheVariants.{LeftOver}
use Rattle.terms.specs.Answer.{Res, good, Got, pick, same}
use Rattle.terms.specs.Laws.Answer.{never, clash, good_inj, test, is_true, pick_yes, pick_no, by_bind, by_need, by_have, same_eq}
use Rattle.heads.specs.Head.{forms, Cut, head, tlv}
use Rattle.heads.specs.Scan.{head_at, begins_at, span}
use Rattle.contents.specs.Integer.{section_bytes, shrink, unstretch}
use Rattle.contents.specs.Leaves.{Holding, bytes, number, Leaf, value_in, boolean, Known, only}
use Rattle.contents.proofs.Laws.Leaves.{by_judge}
use Rattle.layouts.specs.Layout.{Item, leaf, node, list, wrap, Members, end, ◌▸◌, Member, known, one, maybe, flag, choose, tag_of, Value, Values, Part, each, option, either, encode}
use Rattle.layouts.specs.Reading.{next, read_leaf, begins, many, read_option, read_flag, read_either, read, reads, read_part}
use Rattle.layouts.specs.Sheet.{count_bytes, count, section, critical_in, sheet_option, sheet_list, sheet, sheet_part, read_count, read_section, fill_leaf, times, fill_flag, fill_option, fill_list, fill, fills, fill_part}
use Rattle.layouts.specs.SheetScan.{count_at, section_at, value_at as inSection}
use Rattle.layouts.proofs.Laws.Reading.{behind_back, finish_back}
use Rattle.layouts.proofs.Laws.Scan.{Onward, onward, by_window, head-parts, leaf_parts, begins-agree, item_on, part_on}
use Rattle.layouts.proofs.Laws.Sheet.{count_back, length-count, section_back, unfilled, unfilled_part}
use Rattle.layouts.proofs.Laws.SheetScan.{shrink_last, section-parts}
use Rattle.sides.specs.declared.Side.{Side}
use Rattle.sides.specs.declared.Side.TheVariants.{Record, Sheet}
use Rattle.sides.specs.Move.{bytes_of, bytes_of_all, bytes_of_part, span_at, value_at, open_at, present_at, flag_at, known_at, leaf_out, front, mark, flag_out, known_out, Moved, Body, join_body, move_many, move_option, move_leaf, move_known, move_flag, move, moves, move_part}

-- ---- the destination: what the steps put together is the value's bytes

abbrev each_of : Side → (i : Item) → List (Value i) → List ℕ
each_of to i vs = each (λ v. bytes_of to i v) vs

leaf-out : (to : Side) (l : Leaf) (v : List ℕ) → leaf_out to l v ≡ bytes_of to (leaf l) v
unfolding leaf_out encode sheet
leaf-out Record l v = refl
leaf-out Sheet l v = refl

node_out : (to : Side) (t : ℕ) (r : Members) (v : Values r) → front to t false 0 (length (bytes_of_all to r v)) ++ bytes_of_all to r v ≡ bytes_of to (node t r) v
unfolding front encode sheet tlv
node_out Record t r v = refl
node_out Sheet t r v = refl

wrap_out : (to : Side) (t : ℕ) (i : Item) (v : Value i) → front to t false 0 (length (bytes_of to i v)) ++ bytes_of to i v ≡ bytes_of to (wrap t i) v
unfolding front encode sheet tlv
wrap_out Record t i v = refl
wrap_out Sheet t i v = refl

list_out : (to : Side) (t : ℕ) (o : Bool) (n : ℕ) (f : Field) (i : Item) (vs : List (Value i)) → front to t true (length vs) (length (each_of to i vs)) ++ each_of to i vs ≡ bytes_of to (list t o n f i) vs
unfolding front encode sheet sheet_list tlv
list_out Record t o n f i vs = refl
list_out Sheet t o n f i vs = refl

end_out : (to : Side) (v : Values end) → [] ≡ bytes_of_all to end v
unfolding encode sheet
end_out Record v = refl
end_out Sheet v = refl

then-out : (to : Side) (m : Member) (r : Members) (v : Part m) (w : Values r) → bytes_of_part to m v ++ bytes_of_all to r w ≡ bytes_of_all to (m ▸ r) (v, w)
unfolding encode sheet
then-out Record m r v w = refl
then-out Sheet m r v w = refl

known_out_lem : (to : Side) (k : Known) (v : Part (known k)) → known_out to k ≡ bytes_of_part to (known k) v
unfolding known_out encode sheet
known_out_lem Record k v = refl
known_out_lem Sheet k v = refl

one_out : (to : Side) (f : Field) (i : Item) (v : Value i) → bytes_of to i v ≡ bytes_of_part to (one f i) v
unfolding encode sheet
one_out Record f i v = refl
one_out Sheet f i v = refl

some_out : (to : Side) (f : Field) (i : Item) (v : Value i) → mark to true ++ bytes_of to i v ≡ bytes_of_part to (maybe f i) (some v)
unfolding mark encode sheet option sheet_option
some_out Record f i v = refl
some_out Sheet f i v = refl

none_out : (to : Side) (f : Field) (i : Item) → mark to false ≡ bytes_of_part to (maybe f i) none
unfolding mark encode sheet option sheet_option
none_out Record f i = refl
none_out Sheet f i = refl

flag-out : (to : Side) (f : Field) (v : Bool) → flag_out to v ≡ bytes_of_part to (flag f) v
unfolding flag_out encode sheet
flag-out Record f v = refl
flag-out Sheet f v = refl

module _ (f : Field) (l : Leaf) (t : List ℕ → Bool) (g : Field) (i j : Item) (c : List ℕ) where
  first_out : (to : Side) (v : Value i) → leaf_out to l c ++ bytes_of to i v ≡ bytes_of_part to (choose f l t g i j) (c, inl v)
  unfolding leaf_out encode sheet either
  first_out Record v = refl
  first_out Sheet v = refl

  second-out : (to : Side) (v : Value j) → leaf_out to l c ++ bytes_of to j v ≡ bytes_of_part to (choose f l t g i j) (c, inr v)
  unfolding leaf_out encode sheet either
  second-out Record v = refl
  second-out Sheet v = refl

-- ---- small things

pair : {a b : ℕ} {x y : List ℕ} → a ≡ b → x ≡ y → ◌≡◌ {A = Moved} (a, x) (b, y)
pair h k = rw (h, k) refl

triple : {a b j k : ℕ} {x y : List ℕ} → a ≡ b → j ≡ k → x ≡ y → ◌≡◌ {A = Body} (a, j, x) (b, k, y)
triple h k l = rw (h, k, l) refl

-- an optional part, present and absent
option-there : (to : Side) (h : Bool × ℕ) (f : ℕ → Moved) → h.0 ≡ true → move_option to h f ≡ ((f h.1).0, mark to true ++ (f h.1).1)
unfolding pick
option-there to h f e = rw e

option_gone : (to : Side) (h : Bool × ℕ) (f : ℕ → Moved) → h.0 ≡ false → move_option to h f ≡ (h.1, mark to false)
unfolding pick
option_gone to h f e = rw e

yes : {A : Type 0} (t : Bool) (x y : A) → t ≡ true → pick t x y ≡ x
unfolding pick
yes t x y h = rw h

no : {A : Type 0} (t : Bool) (x y : A) → t ≡ false → pick t x y ≡ y
unfolding pick
no t x y h = rw h

by_pick : {A : Type 0} {X : Type 0} (t : Bool) (r r' : Res A) (a : A) → pick t r r' ≡ good a → (t ≡ true → r ≡ good a → X) → (t ≡ false → r' ≡ good a → X) → X
unfolding pick
by_pick true r r' a h f g = f refl h
by_pick false r r' a h f g = g refl h

-- ---- from a record

module _ (s : List ℕ) (to : Side) where
  -- a head that was read
  head_opened : (t : ℕ) (l : Bool) (p e : ℕ) (c : Cut) → head forms t (slice p e s) p ≡ good c → open_at Record t l s p e ≡ (0, c.start, next c)
  unfolding open_at head_at
  head_opened t l p e c h = rw h

  -- a primitive item that was read
  leaf_span : (l : Leaf) (p e : ℕ) (c : Cut) → read_leaf l (slice p e s) p ≡ good c → span_at Record l s p e ≡ (c.start, next c)
  unfolding span_at head_at read_leaf
  leaf_span l p e x h =
      by_bind _ _ _ h λ c e₁ e₂. by_bind _ _ _ e₂ λ v e₃ e₄. by_judge _ _ _ _ _ e₄ λ ok e₅.
      let (q, r, b) = behind_back l.front p c v e₃ in
      let n : next v ≡ next c = omega (arith, ap length q ∙ length-append l.front v.content) in
      rw (← good_inj e₅, e₁, n, b) refl

  leaf_value : (l : Leaf) (p e : ℕ) → p ≤ e → e ≤ length s → (c : Cut) → read_leaf l (slice p e s) p ≡ good c → value_at Record l s p e ≡ c.content
  unfolding value_at
  leaf_value l p e pe es c h = rw (leaf_span l p e c h) (sym (leaf_parts s l p e pe es c h).0)

  leaf_moved : (l : Leaf) (p e : ℕ) → p ≤ e → e ≤ length s → (c : Cut) → read_leaf l (slice p e s) p ≡ good c → move_leaf Record to l s p e ≡ (next c, leaf_out to l c.content)
  unfolding move_leaf
  leaf_moved l p e pe es c h = rw (leaf_value l p e pe es c h, leaf_span l p e c h)

  present_is : (t p e : ℕ) → p ≤ e → e ≤ length s → (present_at Record t s p e).0 ≡ begins t (slice p e s)
  unfolding present_at
  present_is t p e pe es = begins-agree s t p e pe es

  present-at : (t p e : ℕ) → (present_at Record t s p e).1 ≡ p
  unfolding present_at
  present-at t p e = refl

  known_moved : (k : Known) (p e : ℕ) (x : Got (Part (known k))) → read_part (known k) (slice p e s) p ≡ good x → move_known Record to k s p e ≡ (x.after, bytes_of_part to (known k) x.value)
  unfolding move_known known_at read
  known_moved k p e x h =
      by_bind _ _ _ h λ c e₁ e₂.
      rw (← good_inj e₂) (pair (ap (λ (q : ℕ × ℕ). q.1) (leaf_span (only k) p e c e₁)) (known_out_lem to k tt))

  flag_moved : (f : Field) (p e : ℕ) → p ≤ e → e ≤ length s → (x : Got Bool) → read_flag (slice p e s) p ≡ good x → move_flag Record to s p e ≡ (x.after, bytes_of_part to (flag f) x.value)
  unfolding move_flag flag_at read_flag
  flag_moved f p e pe es x h =
      by_pick (begins boolean.tag (slice p e s)) _ _ x h
      (λ t q. by_bind _ _ _ q λ c e₁ e₂.
      let b : begins_at boolean.tag s p e ≡ true = begins-agree s boolean.tag p e pe es ∙ t in
      rw (← good_inj e₂, b, leaf_span boolean p e c e₁) (pair (yes true _ _ refl) (flag-out to f true)))
      (λ t q.
      let b : begins_at boolean.tag s p e ≡ false = begins-agree s boolean.tag p e pe es ∙ t in
      rw (← good_inj q, b) (pair (no false _ _ refl) (flag-out to f false)))

  -- a list's items
  module _ {A : Type 0} (f : ℕ → Moved) (g : List ℕ → ℕ → Res (Got A)) (u : A → List ℕ) (z : ℕ) (zs : z ≤ length s)
      (on : (p : ℕ) → p ≤ z → (x : Got A) → g (slice p z s) p ≡ good x → Onward s p z x.rest x.after)
      (like : (p : ℕ) → p ≤ z → (x : Got A) → g (slice p z s) p ≡ good x → f p ≡ (x.after, u x.value)) where
    many_moved : (n k c p : ℕ) → p ≤ z → (xs : List A) → many g n (slice p z s) p ≡ good xs → ((move_many Record f n k c p z).1 ≡ k + length xs) × ((move_many Record f n k c p z).2 ≡ each u xs)
    unfolding move_many many each pick
    many_moved zero k c p pz xs h =
        by_window s p z (λ b w. many g zero w p ≡ good xs → (k ≡ k + length xs) × ([] ≡ each u xs)) pz zs
        (λ q. let v : k ≡ k + 0 = omega arith in (rw (← good_inj q) v, rw (← good_inj q) refl)) (λ q. clash q) h
    many_moved (suc n) k c p pz xs h =
        by_window s p z
        (λ b w. w ≡ slice p z s → many g (suc n) w p ≡ good xs
        → ((pick b (join_body (f p) λ q. move_many Record f n (suc k) c q z) (p, k, [])).1 ≡ k + length xs) × ((pick b (join_body (f p) λ q. move_many Record f n (suc k) c q z) (p, k, [])).2 ≡ each u xs))
        pz zs
        (λ w q. let v : k ≡ k + 0 = omega arith in (rw (← good_inj q) v, rw (← good_inj q) refl))
        (λ w q. by_bind _ _ _ q λ a e₁ e₂. by_bind _ _ _ e₂ λ ys e₃ e₄.
        let e₅ : g (slice p z s) p ≡ good a = rw (← w) e₁ in
        let o = on p pz a e₅ in
        let r = many_moved n (suc k) c a.after o.2 ys (rw o.0 at e₃) in
        (rw (← good_inj e₄, like p pz a e₅) (r.0 ∙ omega arith), rw (← good_inj e₄, like p pz a e₅, r.1)))
        refl h

  mutual
    unfolding move read read_option read_flag read_either

    pub move_read : (i : Item) (p e : ℕ) → p ≤ e → e ≤ length s → (x : Got (Value i)) → read i (slice p e s) p ≡ good x → move Record to i s p e ≡ (x.after, bytes_of to i x.value)
    move_read (leaf l) p e pe es x h =
        by_bind _ _ _ h λ c e₁ e₂. rw (← good_inj e₂) (leaf_moved l p e pe es c e₁ ∙ pair refl (leaf-out to l c.content))
    move_read (node t r) p e pe es x h =
        by_bind _ _ _ h λ c e₁ e₂. by_bind _ _ _ e₂ λ v e₃ e₄.
        let b = head-parts s t p e pe es c e₁ in
        let q : c.start ≤ next c = omega arith in
        let q' : next c ≤ length s = omega arith in
        let m = moves_read r c.start (next c) q q' v (rw b.0 at e₃) in
        rw (← good_inj e₄, head_opened t false p e c e₁, m) (pair refl (node_out to t r v))
    move_read (list t o n g i) p e pe es x h =
        by_bind _ _ _ h λ c e₁ e₂. by_need _ _ _ _ _ e₂ λ y e₃. by_bind _ _ _ e₃ λ vs e₄ e₅.
        let b = head-parts s t p e pe es c e₁ in
        let q : c.start ≤ next c = omega arith in
        let q' : next c ≤ length s = omega arith in
        let m = many_moved (λ q. move Record to i s q (next c)) (λ x q. read i x q) (λ v. bytes_of to i v) (next c) q'
        (λ p k x g. item_on s i p (next c) k q' x g) (λ p k x g. move_read i p (next c) k q' x g) n 0 0 c.start q vs (rw b.0 at e₄) in
        let z : 0 + length vs ≡ length vs = omega arith in
        rw (← good_inj e₅, head_opened t true p e c e₁, m.0, m.1, z) (pair refl (list_out to t o n g i vs))
    move_read (wrap t i) p e pe es x h =
        by_bind _ _ _ h λ c e₁ e₂. by_bind _ _ _ e₂ λ a e₃ e₄. by_bind _ _ _ e₄ λ v e₅ e₆.
        let b = head-parts s t p e pe es c e₁ in
        let q : c.start ≤ next c = omega arith in
        let q' : next c ≤ length s = omega arith in
        let m = move_read i c.start (next c) q q' a (rw b.0 at e₃) in
        rw (← good_inj e₆, ← (finish_back LeftOver a v e₅).1, head_opened t false p e c e₁, m) (pair refl (wrap_out to t i a.value))

    pub moves_read : (r : Members) (p e : ℕ) → p ≤ e → e ≤ length s → (v : Values r) → reads r (slice p e s) p ≡ good v → (moves Record to r s p e).1 ≡ bytes_of_all to r v
    moves_read end p e pe es v h = end_out to v
    moves_read (m ▸ r) p e pe es v h =
        by_bind _ _ _ h λ a e₁ e₂. by_bind _ _ _ e₂ λ y e₃ e₄.
        let o = part_on s m p e pe es a e₁ in
        let w = move_part_read m p e pe es a e₁ in
        rw (← good_inj e₄, w, moves_read r a.after e o.2 es y (rw o.0 at e₃)) (then-out to m r a.value y)

    move_part_read : (m : Member) (p e : ℕ) → p ≤ e → e ≤ length s → (x : Got (Part m)) → read_part m (slice p e s) p ≡ good x → move_part Record to m s p e ≡ (x.after, bytes_of_part to m x.value)
    move_part_read (known k) p e pe es x h = known_moved k p e x h
    move_part_read (one f i) p e pe es x h = move_read i p e pe es x h ∙ pair refl (one_out to f i x.value)
    move_part_read (maybe f i) p e pe es x h =
        by_pick (begins (tag_of i) (slice p e s)) _ _ x h
        (λ t q. by_bind _ _ _ q λ a e₁ e₂.
        rw (← good_inj e₂) (option-there to (present_at Record (tag_of i) s p e) (λ q. move Record to i s q e) (present_is (tag_of i) p e pe es ∙ t)
        ∙ (rw (present-at (tag_of i) p e, move_read i p e pe es a e₁) (pair refl (some_out to f i a.value)))))
        (λ t q. rw (← good_inj q) (option_gone to (present_at Record (tag_of i) s p e) (λ q. move Record to i s q e) (present_is (tag_of i) p e pe es ∙ t)
        ∙ pair (present-at (tag_of i) p e) (none_out to f i)))
    move_part_read (flag f) p e pe es x h = flag_moved f p e pe es x h
    move_part_read (choose f l t g i j) p e pe es x h =
        by_bind _ _ _ h λ c e₁ e₂. by_bind _ _ _ e₂ λ a e₃ e₄.
        let b = leaf_parts s l p e pe es c e₁ in
        let d : t (value_at Record l s p e) ≡ t c.content = ap t (leaf_value l p e pe es c e₁) in
        by_pick (t c.content) _ _ a e₃
        (λ u q. by_bind _ _ _ q λ y e₅ e₆.
        rw (← good_inj e₄, ← good_inj e₆, leaf_moved l p e pe es c e₁, yes _ _ _ (d ∙ u), move_read i (next c) e b.3 es y (rw b.1 at e₅)) (pair refl (first_out f l t g i j c.content to y.value)))
        (λ u q. by_bind _ _ _ q λ y e₅ e₆.
        rw (← good_inj e₄, ← good_inj e₆, leaf_moved l p e pe es c e₁, no _ _ _ (d ∙ u), move_read j (next c) e b.3 es y (rw b.1 at e₅)) (pair refl (second-out f l t g i j c.content to y.value)))

-- ---- from a sheet

-- where the value in a section lies
value_found : (h : Holding) (s : List ℕ) (p a z : ℕ) (x v : List ℕ) → x ≡ slice a z s → value_in h x ≡ some v → (b : ℕ) × (inSection h s p a z ≡ Ok (span b z)) × (slice b z s ≡ v)
unfolding unstretch pick
value_found (bytes rule) s p a z x v i e = let u : x ≡ v = cc in (a, refl, sym i ∙ u)
value_found (number allowed) s p a z x v i e =
    let k : ℕ = section_bytes - length (shrink x) in
    test (eqb (length x) section_bytes)
    (λ h. let q : some (shrink x) ≡ some v = sym (pick_yes (eqb (length x) section_bytes) _ _ h) ∙ e in
    let u : shrink x ≡ v = cc in
    let n : length x ≡ section_bytes = eqb→eq (length x) section_bytes h in
    let f : inSection (number allowed) s p a z ≡ Ok (span (a + k) z) = rw (← i, is_true (eqb (length x) section_bytes) h) refl in
    (a + k, f, sym (drop-drop k a (take z s)) ∙ ap (drop k) (sym i) ∙ ap (λ (m : ℕ). drop (m - length (shrink x)) x) (sym n) ∙ shrink_last x ∙ u))
    (λ h. let q : none ≡ some v = sym (pick_no (eqb (length x) section_bytes) _ _ h) ∙ e in never (cc))

critical_is : (x : List ℕ) (v : Bool) → critical_in x ≡ some v → same x (1 ∷ []) ≡ v
unfolding critical_in pick same
critical_is x v h = go (same x (0 ∷ [])) (same x (1 ∷ [])) h (λ k. rw (same_eq x (0 ∷ []) (rw k tt)) refl)
  where
    go : (a b : Bool) → pick a (some false) (pick b (some true) none) ≡ some v → (a ≡ true → b ≡ false) → b ≡ v
    go true b q k = let z : false ≡ v = cc in k refl ∙ z
    go false true q k = cc
    go false false q k = never (cc)

module _ (s : List ℕ) (to : Side) where
  count-parts : (p e : ℕ) → p ≤ e → e ≤ length s → (n : ℕ × List ℕ) → read_count (slice p e s) p ≡ good n → (n.1 ≡ slice (p + count_bytes) e s) × (p + count_bytes ≤ e) × (count_at s p e ≡ Ok n.0)
  unfolding count_at
  count-parts p e pe es n h =
      let l = length-count n.0 in
      let o = onward p e s (count n.0) n.1 (p + count_bytes) pe es (count_back (slice p e s) p n h) (omega arith) in
      (o.0, o.2, rw h)

  section-found : (p e : ℕ) → p ≤ e → e ≤ length s → (c : Cut) → read_section (slice p e s) p ≡ good c → (c.content ≡ slice c.start (next c) s) × (c.rest ≡ slice (next c) e s) × (next c ≤ e)
  section-found p e pe es c h =
      let b = section_back (slice p e s) p c h in
      let o = onward p e s (section c.content) c.rest (next c) pe es b.0 b.1 in
      ((section-parts s p e c h).0, o.0, o.2)

  -- a primitive item that was filled in
  abbrev LeafTaken : Leaf → ℕ → ℕ → Got (List ℕ) → Type 0
  LeafTaken l p e x = (value_at Sheet l s p e ≡ x.value) × ((span_at Sheet l s p e).1 ≡ x.after) × (x.rest ≡ slice x.after e s) × (x.after ≤ e)

  leaf_taken : (l : Leaf) (p e : ℕ) → p ≤ e → e ≤ length s → (x : Got (List ℕ)) → fill_leaf l (slice p e s) p ≡ good x → LeafTaken l p e x
  unfolding fill_leaf value_at span_at section_at
  leaf_taken l p e pe es x h =
      by_bind _ _ _ h λ c e₁ e₂. by_bind _ _ _ e₂ λ v e₃ e₄. by_judge _ _ _ _ _ e₄ λ ok e₅. by_have _ _ _ _ e₃ λ u.
      let b = section-found p e pe es c e₁ in
      let (a, f, d) = value_found l.holds s p c.start (next c) c.content v b.0 u in
      rw (← good_inj e₅) (rw (e₁, f) d, rw (e₁, f) refl, b.1, b.2)

  leaf_filled : (l : Leaf) (p e : ℕ) (x : Got (List ℕ)) → LeafTaken l p e x → move_leaf Sheet to l s p e ≡ (x.after, leaf_out to l x.value)
  unfolding move_leaf
  leaf_filled l p e x b = pair b.1 (ap (leaf_out to l) b.0)

  flag_filled : (f : Field) (p e : ℕ) → p ≤ e → e ≤ length s → (x : Got Bool) → fill_flag (slice p e s) p ≡ good x → move_flag Sheet to s p e ≡ (x.after, bytes_of_part to (flag f) x.value)
  unfolding move_flag flag_at fill_flag value_at span_at section_at
  flag_filled f p e pe es x h =
      by_bind _ _ _ h λ c e₁ e₂. by_bind _ _ _ e₂ λ v e₃ e₄. by_have _ _ _ _ e₃ λ u.
      rw (← good_inj e₄, e₁, ← (section-found p e pe es c e₁).0, critical_is c.content v u) (pair refl (flag-out to f v))

  item_filled : (i : Item) (p e : ℕ) → p ≤ e → e ≤ length s → (x : Got (Value i)) → fill i (slice p e s) p ≡ good x → Onward s p e x.rest x.after
  item_filled i p e pe es x h = let w = unfilled i (slice p e s) p x h in onward p e s (sheet i x.value) x.rest x.after pe es w.0 w.2

  part_filled : (m : Member) (p e : ℕ) → p ≤ e → e ≤ length s → (x : Got (Part m)) → fill_part m (slice p e s) p ≡ good x → Onward s p e x.rest x.after
  part_filled m p e pe es x h = let w = unfilled_part m (slice p e s) p x h in onward p e s (sheet_part m x.value) x.rest x.after pe es w.0 w.2

  list_opened : (t p e n : ℕ) → count_at s p e ≡ Ok n → open_at Sheet t true s p e ≡ (n, p + count_bytes, e)
  unfolding open_at
  list_opened t p e n h = rw h

  node_opened : (t p e : ℕ) → open_at Sheet t false s p e ≡ (0, p, e)
  unfolding open_at
  node_opened t p e = refl

  option-opened : (t p e n : ℕ) → count_at s p e ≡ Ok n → present_at Sheet t s p e ≡ (not (eqb n 0), p + count_bytes)
  unfolding present_at
  option-opened t p e n h = rw h

  known_filled : (k : Known) (p e : ℕ) → move_known Sheet to k s p e ≡ (p, bytes_of_part to (known k) tt)
  unfolding move_known known_at
  known_filled k p e = pair refl (known_out_lem to k tt)

  module _ {A : Type 0} (f : ℕ → Moved) (g : List ℕ → ℕ → Res (Got A)) (u : A → List ℕ) (z : ℕ)
      (on : (p : ℕ) → p ≤ z → (x : Got A) → g (slice p z s) p ≡ good x → Onward s p z x.rest x.after)
      (like : (p : ℕ) → p ≤ z → (x : Got A) → g (slice p z s) p ≡ good x → f p ≡ (x.after, u x.value)) where
    times_moved : (n m k c p : ℕ) → c ≡ k + n → n ≤ m → p ≤ z → (x : Got (List A)) → times g n (slice p z s) p ≡ good x → move_many Sheet f m k c p z ≡ (x.after, k + length x.value, each u x.value)
    unfolding move_many times each pick
    times_moved zero zero k c p ck nm pz x h = rw (← good_inj h) (triple refl (omega arith) refl)
    times_moved zero (suc m) k c p ck nm pz x h = let l : c ≤ k = omega arith in rw (← good_inj h, le-ltb k c l) (triple refl (omega arith) refl)
    times_moved (suc n) zero k c p ck nm pz x h = absurd (omega arith)
    times_moved (suc n) (suc m) k c p ck nm pz x h =
        by_bind _ _ _ h λ a e₁ e₂. by_bind _ _ _ e₂ λ ys e₃ e₄.
        let l : k < c = omega arith in
        let o = on p pz a e₁ in
        let r = times_moved n m (suc k) c a.after (omega arith) (omega arith) o.2 ys (rw o.0 at e₃) in
        rw (← good_inj e₄, lt-ltb k c l, like p pz a e₁, r) (triple refl (omega arith) refl)

  mutual
    unfolding move fill fill_option fill_list read_either

    pub move_fill : (i : Item) (p e : ℕ) → p ≤ e → e ≤ length s → (x : Got (Value i)) → fill i (slice p e s) p ≡ good x → move Sheet to i s p e ≡ (x.after, bytes_of to i x.value)
    move_fill (leaf l) p e pe es x h = leaf_filled l p e x (leaf_taken l p e pe es x h) ∙ pair refl (leaf-out to l x.value)
    move_fill (node t r) p e pe es x h =
        rw (node_opened t p e, moves_fill r p e pe es x h) (pair refl (node_out to t r x.value))
    move_fill (list t o m g i) p e pe es x h =
        by_bind _ _ _ h λ n e₁ e₂. by_need _ _ _ _ _ e₂ λ y e₃. by_need _ _ _ _ _ e₃ λ k e₄.
        let b = count-parts p e pe es n e₁ in
        let r = times_moved (λ q. move Sheet to i s q e) (λ x q. fill i x q) (λ v. bytes_of to i v) e (λ p k x g. item_filled i p e k es x g) (λ p k x g. move_fill i p e k es x g)
        n.0 m 0 n.0 (p + count_bytes) (omega arith) (leb→le n.0 m k) b.1 x (rw b.0 at e₄) in
        let z : 0 + length x.value ≡ length x.value = omega arith in
        rw (list_opened t p e n.0 b.2, r, z) (pair refl (list_out to t o m g i x.value))
    move_fill (wrap t i) p e pe es x h =
        rw (node_opened t p e, move_fill i p e pe es x h) (pair refl (wrap_out to t i x.value))

    pub moves_fill : (r : Members) (p e : ℕ) → p ≤ e → e ≤ length s → (x : Got (Values r)) → fills r (slice p e s) p ≡ good x → moves Sheet to r s p e ≡ (x.after, bytes_of_all to r x.value)
    moves_fill end p e pe es x h = rw (← good_inj h) (pair refl (end_out to tt))
    moves_fill (m ▸ r) p e pe es x h =
        by_bind _ _ _ h λ a e₁ e₂. by_bind _ _ _ e₂ λ y e₃ e₄.
        let o = part_filled m p e pe es a e₁ in
        let w = move_part_fill m p e pe es a e₁ in
        rw (← good_inj e₄, w, moves_fill r a.after e o.2 es y (rw o.0 at e₃)) (pair refl (then-out to m r a.value y.value))

    move_part_fill : (m : Member) (p e : ℕ) → p ≤ e → e ≤ length s → (x : Got (Part m)) → fill_part m (slice p e s) p ≡ good x → move_part Sheet to m s p e ≡ (x.after, bytes_of_part to m x.value)
    move_part_fill (known k) p e pe es x h = rw (← good_inj h) (known_filled k p e)
    move_part_fill (one f i) p e pe es x h = move_fill i p e pe es x h ∙ pair refl (one_out to f i x.value)
    move_part_fill (maybe f i) p e pe es x h =
        by_bind _ _ _ h λ n e₁ e₂.
        let b = count-parts p e pe es n e₁ in
        let c = option-opened (tag_of i) p e n.0 b.2 in
        by_pick (eqb n.0 0) _ _ x e₂
        (λ t q. rw (← good_inj q, c) (option_gone to (not (eqb n.0 0), p + count_bytes) (λ q. move Sheet to i s q e) (ap not t) ∙ pair refl (none_out to f i)))
        (λ t q. by_need _ _ _ _ _ q λ y e₃. by_bind _ _ _ e₃ λ a e₄ e₅.
        rw (← good_inj e₅, c) (option-there to (not (eqb n.0 0), p + count_bytes) (λ q. move Sheet to i s q e) (ap not t)
        ∙ (rw (move_fill i (p + count_bytes) e b.1 es a (rw b.0 at e₄)) (pair refl (some_out to f i a.value)))))
    move_part_fill (flag f) p e pe es x h = flag_filled f p e pe es x h
    move_part_fill (choose f l t g i j) p e pe es x h =
        by_bind _ _ _ h λ c e₁ e₂. by_bind _ _ _ e₂ λ a e₃ e₄.
        let b = leaf_taken l p e pe es c e₁ in
        let d : t (value_at Sheet l s p e) ≡ t c.value = ap t b.0 in
        by_pick (t c.value) _ _ a e₃
        (λ u q. by_bind _ _ _ q λ y e₅ e₆.
        rw (← good_inj e₄, ← good_inj e₆, leaf_filled l p e c b, yes _ _ _ (d ∙ u), move_fill i c.after e b.3 es y (rw b.2 at e₅)) (pair refl (first_out f l t g i j c.value to y.value)))
        (λ u q. by_bind _ _ _ q λ y e₅ e₆.
        rw (← good_inj e₄, ← good_inj e₆, leaf_filled l p e c b, no _ _ _ (d ∙ u), move_fill j c.after e b.3 es y (rw b.2 at e₅)) (pair refl (second-out f l t g i j c.value to y.value)))
