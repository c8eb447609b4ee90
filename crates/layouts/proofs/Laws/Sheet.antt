-- A sheet that was written is read back, and what is read was written so: for every layout. Assumes nothing.
use Rattle.std.specs.Prelude.{◌≡◌, refl, Bool, true, false, ◌&&◌, ◌||◌, take, drop, T, leb, ltb, eqb}
use Rattle.std.proofs.Common.{sym, ◌∙◌, inl, inr, take-append-drop, length-take-le, ltb→lt}
use Rattle.std.proofs.Math.Path.{ap}
use Prim.Native.Nat.{ℕ, suc, zero, ◌+◌, ◌*◌, ◌≤◌, ◌<◌}
use native.Mathlib.Omega.{arith}
use Rattle.std.proofs.Math.Option.{none, some}
use mathlib.Core.List.{List, [], ◌∷◌, ◌++◌, append_assoc}
use Rattle.std.proofs.Math.ListN.{length, length-append}
use Rattle.std.proofs.Math.Seq.{take-append_seam, drop-append_seam}
use Rattle.std.proofs.Math.Dec.{eqb→eq, leb→le}
use borrow.Author.Tests.{le-leb}
use Rattle.terms.specs.Answer.{Res, good, Got, got, pick, bind, need, have, enough, same}
use Rattle.terms.specs.Laws.Answer.{never, good_inj, test, and_l, and_r, pick_yes, pick_no, by_bind, by_need, by_have, same_eq}
use Rattle.terms.specs.Laws.Digits.{leading-there, leading_back, length_digits}
use Rattle.heads.specs.Head.{Cut, cut_off, tlv}
use Rattle.heads.proofs.Laws.Head.{length-tlv, octets_some, unspelled}
use Rattle.contents.specs.Content.{fine, judge}
use Rattle.contents.specs.Leaves.{Leaf, rule_of, section_of}
use Rattle.contents.proofs.Laws.Leaves.{by_judge, value_there, value_back, section_near}
use Rattle.layouts.specs.Layout.{Item, leaf, node, list, wrap, Members, end, ◌▸◌, Member, known, one, maybe, flag, choose, All, InOption, Ok, Oks, OkPart, each, option, either, encode_leaf, critical, encode, encodes, encode_part}
use Rattle.layouts.specs.Reading.{next}
use Rattle.layouts.specs.Sheet.{count_bytes, count, section, critical_byte, sheet_option, sheet_list, sheet, sheets, sheet_part, read_count, read_section, fill_leaf, times, critical_in, fill_flag, fill_option, fill_list, fill, fills, fill_part}
use Rattle.layouts.proofs.Laws.Reading.{tells, spare, clear, clears, clear_part, Forward, Written, Backward, glue, either_forward, either_back}

-- ---- counts and sections

-- the first number that a count has no room for
abbrev pub uncounted : ℕ
uncounted = 4294967296

count-there : (n p : ℕ) (w : List ℕ) → n < uncounted → read_count (count n ++ w) p ≡ good (n, w)
unfolding read_count count have
count-there n p w h = rw (leading-there count_bytes n w h)

pub count_back : (w : List ℕ) (p : ℕ) (x : ℕ × List ℕ) → read_count w p ≡ good x → w ≡ count x.0 ++ x.1
unfolding read_count count
count_back w p x e = by_have _ _ _ _ e λ h. (leading_back count_bytes w x h).0

pub length-count : (n : ℕ) → length (count n) ≡ count_bytes
unfolding count
length-count n = length_digits 256 (omega arith) count_bytes n

pub length-section : (x : List ℕ) → length (section x) ≡ count_bytes + length x
unfolding section
length-section x = omega (arith, length-append (count (length x)) x, length-count (length x))

section-there : (x w : List ℕ) (p : ℕ) → length x < uncounted → read_section (section x ++ w) p ≡ good (cut_off x w (p + count_bytes))
unfolding read_section section bind need
section-there x w p h =
    let e : length x ≤ length (x ++ w) = rw length-append (omega arith) in
    rw (append_assoc (count (length x)) x w, count-there (length x) p (x ++ w) h, le-leb (length x) (length (x ++ w)) e, take-append_seam, drop-append_seam)

pub section_back : (w : List ℕ) (p : ℕ) (c : Cut) → read_section w p ≡ good c → (w ≡ section c.content ++ c.rest) × (next c ≡ p + length (section c.content))
unfolding read_section section
section_back w p x e =
    by_bind _ _ _ e λ n e₁ e₂. by_need _ _ _ _ _ e₂ λ h e₃.
    let q = count_back w p n e₁ in
    let l : length (take n.0 n.1) ≡ n.0 = length-take-le n.0 n.1 (leb→le _ _ h) in
    rw (← good_inj e₃, append_assoc (count (length (take n.0 n.1))) (take n.0 n.1) (drop n.0 n.1), take-append-drop n.0 n.1, l)
    (q, omega (arith, length-append (count n.0) (take n.0 n.1), length-count n.0))

-- ---- a leaf

leaf_filled : (l : Leaf) → Forward uncounted (fill_leaf l) (λ v. section (section_of l.holds v)) (λ v. rule_of l.holds v ≡ fine)
unfolding fill_leaf bind have judge
leaf_filled l v ok w p h =
    let x : List ℕ = section_of l.holds v in
    let m = length-section x in
    rw (section-there x w p (omega arith), value_there l.holds v ok, ok) (ap (λ (m : ℕ). good (got v w m)) (omega arith))

leaf_unfilled : (l : Leaf) → Backward (fill_leaf l) (λ v. section (section_of l.holds v)) (λ v. rule_of l.holds v ≡ fine)
unfolding fill_leaf
leaf_unfilled l w p x e =
    by_bind _ _ _ e λ c e₁ e₂. by_bind _ _ _ e₂ λ k e₃ e₄. by_judge _ _ _ _ _ e₄ λ ok e₅. by_have _ _ _ _ e₃ λ u.
    let q = section_back w p c e₁ in
    rw (← good_inj e₅, value_back l.holds c.content k u) (q.0, ok, q.1)

-- ---- the flag

critical_in_byte : (v : Bool) → critical_in (critical_byte v) ≡ some v
unfolding critical_in critical_byte pick same
critical_in_byte true = refl
critical_in_byte false = refl

byte_critical_in : (x : List ℕ) (v : Bool) → critical_in x ≡ some v → critical_byte v ≡ x
unfolding critical_in critical_byte
byte_critical_in x v e =
    test (same x (0 ∷ []))
    (λ h. let q : some false ≡ some v = sym (pick_yes (same x (0 ∷ [])) _ _ h) ∙ e in let u : false ≡ v = cc in rw (← u) (sym (same_eq x (0 ∷ []) h)))
    (λ h. test (same x (1 ∷ []))
    (λ g. let q : some true ≡ some v = sym (pick_yes (same x (1 ∷ [])) _ _ g) ∙ sym (pick_no (same x (0 ∷ [])) _ _ h) ∙ e in let u : true ≡ v = cc in rw (← u) (sym (same_eq x (1 ∷ []) g)))
    (λ g. let q : none ≡ some v = sym (pick_no (same x (1 ∷ [])) _ _ g) ∙ sym (pick_no (same x (0 ∷ [])) _ _ h) ∙ e in never (cc)))

flag_filled : Forward uncounted fill_flag (λ v. section (critical_byte v)) (λ v. Unit {0})
unfolding fill_flag bind have
flag_filled v ok w p h =
    let m = length-section (critical_byte v) in
    rw (section-there (critical_byte v) w p (omega arith), critical_in_byte v) (ap (λ (m : ℕ). good (got v w m)) (omega arith))

flag_unfilled : Backward fill_flag (λ v. section (critical_byte v)) (λ v. Unit {0})
unfolding fill_flag
flag_unfilled w p x e =
    by_bind _ _ _ e λ c e₁ e₂. by_bind _ _ _ e₂ λ v e₃ e₄. by_have _ _ _ _ e₃ λ u.
    let q = section_back w p c e₁ in
    rw (← good_inj e₄, byte_critical_in c.content v u) (q.0, tt, q.1)

-- ---- options and lists

enough-count : {A : Type 0} (k : Bool) (xs : List A) → T (enough k xs) → k || leb 1 (length xs) ≡ true
unfolding enough
enough-count true xs h = refl
enough-count false [] h = absurd h
enough-count false (x ∷ xs) h = let z : 1 ≤ suc (length xs) = omega arith in le-leb 1 (suc (length xs)) z

count-enough : {A : Type 0} (k : Bool) (xs : List A) → T (k || leb 1 (length xs)) → T (enough k xs)
unfolding enough
count-enough true xs h = tt
count-enough false [] h = h
count-enough false (x ∷ xs) h = tt

module _ {A : Type 0} (f : List ℕ → ℕ → Res (Got A)) (e : A → List ℕ) (P : A → Type 0) where
  option-filled : Forward uncounted f e P → Forward uncounted (fill_option f) (sheet_option e) (InOption P)
  unfolding fill_option sheet_option bind pick need
  option-filled fw none ok w p h =
      rw (count-there 0 p w (omega arith)) (ap (λ (m : ℕ). good (got none w m)) (omega (arith, length-count 0)))
  option-filled fw (some a) ok w p h =
      let m = length-append (count 1) (e a) in
      let n = length-count 1 in
      rw (append_assoc (count 1) (e a) w, count-there 1 p (e a ++ w) (omega arith), fw a ok w (p + 4) (omega arith)) (ap (λ (m : ℕ). good (got (some a) w m)) (omega arith))

  option_unfilled : Backward f e P → Backward (fill_option f) (sheet_option e) (InOption P)
  unfolding fill_option sheet_option
  option_unfilled bw w p x q =
      by_bind _ _ _ q λ n e₁ e₂.
      let c = count_back w p n e₁ in
      test (eqb n.0 0)
      (λ h. let z = eqb→eq n.0 0 h in
      rw (← good_inj (sym (pick_yes (eqb n.0 0) _ _ h) ∙ e₂)) (rw z at c, tt, omega (arith, length-count 0)))
      (λ h. by_need _ _ _ _ _ (sym (pick_no (eqb n.0 0) _ _ h) ∙ e₂) λ g e₃. by_bind _ _ _ e₃ λ a e₄ e₅.
      let z = eqb→eq n.0 1 g in
      let b = bw n.1 (p + 4) a e₄ in
      let y = glue w (count 1) (e a.value) n.1 a.rest p (p + 4) a.after (rw z at c) b.0 (omega (arith, length-count 1)) b.2 in
      rw (← good_inj e₅) (y.0, b.1, y.1))

  times-filled : Forward uncounted f e P → (xs : List A) → All P xs → (w : List ℕ) (p : ℕ) → length (each e xs) < uncounted → times f (length xs) (each e xs ++ w) p ≡ good (got xs w (p + length (each e xs)))
  unfolding times each bind
  times-filled fw [] ok w p h = ap (λ (m : ℕ). good (got [] w m)) (omega arith)
  times-filled fw (x ∷ xs) ok w p h =
      let m = length-append (e x) (each e xs) in
      rw (append_assoc (e x) (each e xs) w, fw x ok.0 (each e xs ++ w) p (omega arith), times-filled fw xs ok.1 w (p + length (e x)) (omega arith))
      (ap (λ (m : ℕ). good (got (x ∷ xs) w m)) (omega arith))

  times_unfilled : Backward f e P → (n : ℕ) (w : List ℕ) (p : ℕ) (x : Got (List A)) → times f n w p ≡ good x → (length x.value ≡ n) × Written (each e) (All P) w p x
  unfolding times each
  times_unfilled bw zero w p x q = rw (← good_inj q) (refl, (refl, tt, omega arith))
  times_unfilled bw (suc n) w p x q =
      by_bind _ _ _ q λ a e₁ e₂. by_bind _ _ _ e₂ λ b e₃ e₄.
      let u = bw w p a e₁ in
      let v = times_unfilled bw n a.rest a.after b e₃ in
      let y = glue w (e a.value) (each e b.value) a.rest b.rest p a.after b.after u.0 v.1.0 u.2 v.1.2 in
      rw (← good_inj e₄) (ap suc v.0, (y.0, (u.1, v.1.1), y.1))

  list_filled : Forward uncounted f e P → (k : Bool) (m : ℕ) → m < 65536 → Forward uncounted (fill_list k m f) (sheet_list e) (λ xs. T (enough k xs) × (length xs ≤ m) × All P xs)
  unfolding fill_list sheet_list bind need
  list_filled fw k m b xs ok w p h =
      let n = length-append (count (length xs)) (each e xs) in
      let c = length-count (length xs) in
      let g : length xs ≤ m = ok.1 in
      rw (append_assoc (count (length xs)) (each e xs) w, count-there (length xs) p (each e xs ++ w) (omega arith), enough-count k xs ok.0, le-leb (length xs) m g, times-filled fw xs ok.2 w (p + 4) (omega arith))
      (ap (λ (m : ℕ). good (got xs w m)) (omega arith))

  list_unfilled : Backward f e P → (k : Bool) (m : ℕ) → Backward (fill_list k m f) (sheet_list e) (λ xs. T (enough k xs) × (length xs ≤ m) × All P xs)
  unfolding fill_list sheet_list
  list_unfilled bw k m w p x q =
      by_bind _ _ _ q λ n e₁ e₂. by_need _ _ _ _ _ e₂ λ h e₃. by_need _ _ _ _ _ e₃ λ g e₄.
      let c = count_back w p n e₁ in
      let t = times_unfilled bw n.0 n.1 (p + 4) x e₄ in
      let y = glue w (count n.0) (each e x.value) n.1 x.rest p (p + 4) x.after c t.1.0 (omega (arith, length-count n.0)) t.1.2 in
      let l : n.0 ≤ m = leb→le n.0 m g in
      (rw t.0 y.0, (count-enough k x.value (rw t.0 h), omega arith, t.1.1), rw t.0 y.1)

-- ---- every layout

mutual
  unfolding fill sheet clear bind

  pub filled : (i : Item) → T (clear i) → Forward uncounted (λ w p. fill i w p) (λ v. sheet i v) (λ v. Ok i v)
  filled (leaf l) k v ok w p h = leaf_filled l v ok w p h
  filled (node t r) k v ok w p h = filleds r (and_r (leb (spare r) 16) (clears r) k) v ok w p h
  filled (list t e n f i) k vs ok w p h =
      list_filled (λ x q. fill i x q) (λ v. sheet i v) (λ v. Ok i v) (λ v o x q g. filled i (and_r (ltb n 65536) (clear i) k) v o x q g) e n
      (ltb→lt n 65536 (and_l (ltb n 65536) (clear i) k)) vs ok w p h
  filled (wrap t i) k v ok w p h = filled i k v ok w p h

  pub filleds : (r : Members) → T (clears r) → Forward uncounted (λ w p. fills r w p) (λ v. sheets r v) (λ v. Oks r v)
  filleds end k v ok w p h = ap (λ (m : ℕ). good (got v w m)) (omega arith)
  filleds (m ▸ r) k v ok w p h =
      let x : List ℕ = sheet_part m v.0 in
      let y : List ℕ = sheets r v.1 in
      let n = length-append x y in
      let k' = and_r (tells m r) (clear_part m && clears r) k in
      rw (append_assoc x y w, filled_part m (and_l (clear_part m) (clears r) k') v.0 ok.0 (y ++ w) p (omega arith), filleds r (and_r (clear_part m) (clears r) k') v.1 ok.1 w (p + length x) (omega arith))
      (ap (λ (m : ℕ). good (got v w m)) (omega arith))

  pub filled_part : (m : Member) → T (clear_part m) → Forward uncounted (λ w p. fill_part m w p) (λ v. sheet_part m v) (λ v. OkPart m v)
  filled_part (known x) k v ok w p h = ap (λ (m : ℕ). good (got v w m)) (omega arith)
  filled_part (one f i) k v ok w p h = filled i k v ok w p h
  filled_part (maybe f i) k v ok w p h = option-filled (λ x q. fill i x q) (λ x. sheet i x) (λ x. Ok i x) (λ x o w q g. filled i k x o w q g) v ok w p h
  filled_part (flag f) k v ok w p h = flag_filled v ok w p h
  filled_part (choose f l t g i j) k v ok w p h =
      let x : List ℕ = section (section_of l.holds v.0) in
      let y : List ℕ = either (λ x. sheet i x) (λ x. sheet j x) v.1 in
      let m = length-append x y in
      rw (
        append_assoc x y w,
        leaf_filled l v.0 ok.0 (y ++ w) p (omega arith),
        either_forward (λ x q. fill i x q) (λ x. sheet i x) (λ x. Ok i x) (λ x q. fill j x q) (λ x. sheet j x) (λ x. Ok j x) (t v.0) uncounted
            (λ x o w q g. filled i (and_l (clear i) (clear j) k) x o w q g) (λ x o w q g. filled j (and_r (clear i) (clear j) k) x o w q g)
            v.1 ok.1 w (p + length x) (omega arith),
      )
      (ap (λ (m : ℕ). good (got v w m)) (omega arith))

mutual
  unfolding fill sheet

  pub unfilled : (i : Item) → Backward (λ w p. fill i w p) (λ v. sheet i v) (λ v. Ok i v)
  unfilled (leaf l) w p x q = leaf_unfilled l w p x q
  unfilled (node t r) w p x q = unfilleds r w p x q
  unfilled (list t e n f i) w p x q = list_unfilled (λ x q. fill i x q) (λ v. sheet i v) (λ v. Ok i v) (λ y p z g. unfilled i y p z g) e n w p x q
  unfilled (wrap t i) w p x q = unfilled i w p x q

  pub unfilleds : (r : Members) → Backward (λ w p. fills r w p) (λ v. sheets r v) (λ v. Oks r v)
  unfilleds end w p x q = rw (← good_inj q) (refl, tt, omega arith)
  unfilleds (m ▸ r) w p x q =
      by_bind _ _ _ q λ a e₁ e₂. by_bind _ _ _ e₂ λ b e₃ e₄.
      let u = unfilled_part m w p a e₁ in
      let v = unfilleds r a.rest a.after b e₃ in
      let y = glue w (sheet_part m a.value) (sheets r b.value) a.rest b.rest p a.after b.after u.0 v.0 u.2 v.2 in
      rw (← good_inj e₄) (y.0, (u.1, v.1), y.1)

  pub unfilled_part : (m : Member) → Backward (λ w p. fill_part m w p) (λ v. sheet_part m v) (λ v. OkPart m v)
  unfilled_part (known k) w p x q = rw (← good_inj q) (refl, tt, omega arith)
  unfilled_part (one f i) w p x q = unfilled i w p x q
  unfilled_part (maybe f i) w p x q = option_unfilled (λ x q. fill i x q) (λ x. sheet i x) (λ x. Ok i x) (λ y p z g. unfilled i y p z g) w p x q
  unfilled_part (flag f) w p x q = flag_unfilled w p x q
  unfilled_part (choose f l t g i j) w p x q =
      by_bind _ _ _ q λ c e₁ e₂. by_bind _ _ _ e₂ λ a e₃ e₄.
      let s = leaf_unfilled l w p c e₁ in
      let u = either_back (λ x q. fill i x q) (λ x. sheet i x) (λ x. Ok i x) (λ x q. fill j x q) (λ x. sheet j x) (λ x. Ok j x) (t c.value) (λ y p z g. unfilled i y p z g) (λ y p z g. unfilled j y p z g) c.rest c.after a e₃ in
      let z = glue w (section (section_of l.holds c.value)) (either (λ x. sheet i x) (λ x. sheet j x) a.value) c.rest a.rest p c.after a.after s.0 u.0 s.2 u.2 in
      rw (← good_inj e₄) (z.0, (s.1, u.1), z.1)

-- ---- a sheet is not much longer than its record

-- a sheet's bytes against a record's, and how many more there may be
abbrev Short : {A : Type 0} → ℕ → (A → List ℕ) → (A → List ℕ) → Type 0
Short {A} k f g = (a : A) → length (g a) < unspelled → length (f a) ≤ 8 * length (g a) + k

tlv_some : (t : ℕ) (c : List ℕ) → length (tlv t c) < unspelled → 2 + length c ≤ length (tlv t c)
tlv_some t c h = let e = length-tlv t c in let o = octets_some (length c) (omega arith) in omega arith

leaf_short : (l : Leaf) → Short 0 (λ v. section (section_of l.holds v)) (λ v. encode_leaf l v)
unfolding encode_leaf
leaf_short l v h =
    omega (arith, length-section (section_of l.holds v), section_near l.holds v, tlv_some l.tag (l.front ++ v) h, length-append l.front v)

each_short : {A : Type 0} (f g : A → List ℕ) → Short 0 f g → Short 0 (each f) (each g)
unfolding each
each_short f g s [] h = omega arith
each_short f g s (x ∷ xs) h = let m = length-append (g x) (each g xs) in omega (arith, length-append (f x) (each f xs), s x (omega arith), each_short f g s xs (omega arith))

length_list : {A : Type 0} (f : A → List ℕ) (xs : List A) → length (sheet_list f xs) ≡ count_bytes + length (each f xs)
unfolding sheet_list
length_list f xs = omega (arith, length-append (count (length xs)) (each f xs), length-count (length xs))

option_short : {A : Type 0} (f g : A → List ℕ) → Short 0 f g → Short 4 (sheet_option f) (option g)
unfolding sheet_option option
option_short f g s none h = omega (arith, length-count 0)
option_short f g s (some a) h = omega (arith, length-count 1, length-append (count 1) (f a), s a h)

either_short : {A B : Type 0} (f g : A → List ℕ) (d e : B → List ℕ) → Short 0 f g → Short 0 d e → Short 0 (either f d) (either g e)
unfolding either
either_short f g d e s k (inl a) h = s a h
either_short f g d e s k (inr b) h = k b h

flag_short : Short 5 (λ v. section (critical_byte v)) critical
unfolding critical_byte
flag_short true h = omega (arith, length-section (1 ∷ []))
flag_short false h = omega (arith, length-section (0 ∷ []))

-- what a member adds
abbrev extra : Member → ℕ
extra (known w) = 0
extra (one f i) = 0
extra (maybe f i) = 4
extra (flag f) = 5
extra (choose f l g h i j) = 0

spare-extra : (m : Member) (r : Members) → spare (m ▸ r) ≡ extra m + spare r
unfolding spare
spare-extra (known w) r = omega arith
spare-extra (one f i) r = omega arith
spare-extra (maybe f i) r = omega arith
spare-extra (flag f) r = omega arith
spare-extra (choose f l g h i j) r = omega arith

mutual
  unfolding sheet encode clear

  pub short : (i : Item) → T (clear i) → Short 0 (λ v. sheet i v) (λ v. encode i v)
  short (leaf l) k v h = leaf_short l v h
  short (node t r) k v h =
      let s : spare r ≤ 16 = leb→le (spare r) 16 (and_l (leb (spare r) 16) (clears r) k) in
      let u = tlv_some t (encodes r v) h in
      omega (arith, shorts r (and_r (leb (spare r) 16) (clears r) k) v (omega arith))
  short (list t e n f i) k vs h =
      let c : List ℕ = each (λ v. encode i v) vs in
      let u = tlv_some t c h in
      let s = each_short (λ v. sheet i v) (λ v. encode i v) (λ v g. short i (and_r (ltb n 65536) (clear i) k) v g) vs (omega arith) in
      omega (arith, length_list (λ v. sheet i v) vs)
  short (wrap t i) k v h = let u = tlv_some t (encode i v) h in omega (arith, short i k v (omega arith))

  pub shorts : (r : Members) → T (clears r) → Short (spare r) (λ v. sheets r v) (λ v. encodes r v)
  shorts end k v h = omega arith
  shorts (m ▸ r) k v h =
      let k' = and_r (tells m r) (clear_part m && clears r) k in
      let n = length-append (encode_part m v.0) (encodes r v.1) in
      omega (arith, short_part m (and_l (clear_part m) (clears r) k') v.0 (omega arith), shorts r (and_r (clear_part m) (clears r) k') v.1 (omega arith), length-append (sheet_part m v.0) (sheets r v.1), spare-extra m r)

  short_part : (m : Member) → T (clear_part m) → Short (extra m) (λ v. sheet_part m v) (λ v. encode_part m v)
  short_part (known w) k v h = omega arith
  short_part (one f i) k v h = short i k v h
  short_part (maybe f i) k v h = option_short (λ x. sheet i x) (λ x. encode i x) (λ x g. short i k x g) v h
  short_part (flag f) k v h = flag_short v h
  short_part (choose f l t g i j) k v h =
      let x = either (λ x. sheet i x) (λ x. sheet j x) v.1 in
      let y = either (λ x. encode i x) (λ x. encode j x) v.1 in
      let n = length-append (encode_leaf l v.0) y in
      omega (
        arith,
        leaf_short l v.0 (omega arith),
        either_short (λ x. sheet i x) (λ x. encode i x) (λ x. sheet j x) (λ x. encode j x) (λ x g. short i (and_l (clear i) (clear j) k) x g) (λ x g. short j (and_r (clear i) (clear j) k) x g) v.1 (omega arith),
        length-append (section (section_of l.holds v.0)) x,
      )
