-- Each field's bytes stand at its place in the record: for every layout. Assumes nothing.
use Rattle.std.specs.Prelude.{◌≡◌, refl, ℕ, suc, ◌+◌, ◌≤◌, Bool, true, false, not, length, take, drop, T}
use Rattle.std.proofs.Common.{sym, ap, ◌∙◌, subst, inl, inr, arith, length-append, take_at, drop_at}
use Rattle.std.proofs.Math.Option.{Option, none, some}
use mathlib.Core.List.{List, [], ◌∷◌, ◌++◌, append_assoc, append-nil}
use Rattle.terms.specs.declared.Field.{Field}
use Rattle.terms.specs.Answer.{every}
use Rattle.terms.specs.Laws.Answer.{test, both, pick_yes, pick_no}
use Rattle.heads.specs.Head.{forms, tlv, octets, before}
use Rattle.contents.specs.Rules.{yes_byte}
use Rattle.contents.specs.Leaves.{Leaf, boolean}
use Rattle.contents.proofs.Laws.Leaves.{IsBytes, section_is_value}
use Rattle.layouts.specs.Layout.{Item, leaf, node, list, wrap, Members, end, ◌▸◌, Member, known, one, maybe, flag, choose, Values, All, each, option, either, encode_leaf, critical, encode, encodes, encode_part}
use Rattle.layouts.specs.Fields.{Entry, entry, start_of, each_fields, option_fields, either_fields, flag_fields, item_fields, run_fields, part_fields, fields, Stands, first}
use Rattle.layouts.specs.Sheet.{section, sheet}
use Rattle.layouts.specs.Whole.{sequence, record_of}

-- what stands in a record ends in it
pub stands_within : (w : List ℕ) (x : Entry) → Stands w x → x.place + length x.bytes ≤ length w
stands_within w x (p, z, e, h) = let l = ap length e ∙ length-append p (x.bytes ++ z) ∙ ap (λ (n : ℕ). length p + n) (length-append x.bytes z) in omega arith

-- and is had by cutting it out
pub stands_cut : (w : List ℕ) (x : Entry) → Stands w x → take (length x.bytes) (drop x.place w) ≡ x.bytes
stands_cut w x (p, z, e, h) =
    ap (λ (y : List ℕ). take (length x.bytes) (drop x.place y)) e ∙ ap (take (length x.bytes)) (drop_at p (x.bytes ++ z) x.place h) ∙ take_at x.bytes z (length x.bytes) refl

pub all_append : {A : Type 0} (P : A → Type 0) (xs ys : List A) → All P xs → All P ys → All P (xs ++ ys)
all_append P [] ys h k = k
all_append P (x ∷ xs) ys h k = (h.0, all_append P xs ys h.1 k)

-- `e a` stands in `s` at `b`, with its fields
abbrev Placed : {A : Type 0} → List ℕ → (A → List ℕ) → (A → ℕ → List Entry) → Type 0
Placed {A} s e f = (a : A) (p z : List ℕ) → s ≡ p ++ (e a ++ z) → All (Stands s) (f a (length p))

-- inside a tag: the content stands after the head
pub inside : (s p z : List ℕ) (t : ℕ) (c : List ℕ) → s ≡ p ++ (tlv t c ++ z) → (s ≡ (p ++ (t ∷ octets forms (length c))) ++ (c ++ z)) × (length (p ++ (t ∷ octets forms (length c))) ≡ length p + before (length c))
unfolding tlv
inside s p z t c e = (
  e ∙ ap (λ (y : List ℕ). p ++ (t ∷ y)) (append_assoc (octets forms (length c)) c z) ∙ sym (append_assoc p (t ∷ octets forms (length c)) (c ++ z)),
  length-append p (t ∷ octets forms (length c)) ∙ omega arith,
)

-- past a part: the next stands after it
pub past : (s p x y z : List ℕ) → s ≡ p ++ ((x ++ y) ++ z) → (s ≡ p ++ (x ++ (y ++ z))) × (s ≡ (p ++ x) ++ (y ++ z)) × (length (p ++ x) ≡ length p + length x)
past s p x y z e =
    let q : s ≡ p ++ (x ++ (y ++ z)) = e ∙ ap (λ (w : List ℕ). p ++ w) (append_assoc x y z) in
    (q, q ∙ sym (append_assoc p x (y ++ z)), length-append p x)

-- a primitive item's value
pub leaf_stands : (s p z : List ℕ) (f : Field) (k : ℕ) (l : Leaf) (v : List ℕ) → s ≡ p ++ (encode_leaf l v ++ z) → Stands s (entry f k (start_of l v (length p)) v)
unfolding encode_leaf
leaf_stands s p z f k l v e =
    let d = l.front in
    let n = inside s p z l.tag (d ++ v) e in
    let q : List ℕ = p ++ (l.tag ∷ octets forms (length (d ++ v))) in
    let m = past s q d v z n.0 in
    (q ++ d, z, m.1, m.2 ∙ ap (λ (k : ℕ). k + length d) n.1)

module _ {A : Type 0} (s : List ℕ) (e : A → List ℕ) where
  each_placed : (f : ℕ → A → ℕ → List Entry) → ((j : ℕ) → Placed s e (λ a b. f j a b)) → (k : ℕ) → Placed s (each e) (λ xs b. each_fields f e k xs b)
  unfolding each each_fields
  each_placed f h k [] p z q = tt
  each_placed f h k (x ∷ xs) p z q =
      let n = past s p (e x) (each e xs) z q in
      let r = each_placed f h (suc k) xs (p ++ e x) z n.1 in
      all_append (Stands s) (f k x (length p)) _ (h k x p (each e xs ++ z) n.0) (rw n.2 at r)

  option_placed : (f : A → ℕ → List Entry) → Placed s e f → Placed s (option e) (λ o b. option_fields f o b)
  unfolding option option_fields
  option_placed f h none p z q = tt
  option_placed f h (some a) p z q = h a p z q

either_placed : {A B : Type 0} (s : List ℕ) (e : A → List ℕ) (d : B → List ℕ) (f : A → ℕ → List Entry) (g : B → ℕ → List Entry) → Placed s e f → Placed s d g
    → Placed s (either e d) (λ x b. either_fields f g x b)
unfolding either either_fields
either_placed s e d f g h k (inl a) p z q = h a p z q
either_placed s e d f g h k (inr b) p z q = k b p z q

flag_placed : (s : List ℕ) (f : Field) (k : ℕ) → Placed s critical (λ v b. flag_fields f k v b)
unfolding critical flag_fields
flag_placed s f k true p z q =
    (leaf_stands s p z f k boolean yes_byte q, tt)
flag_placed s f k false p z q = tt

module _ (s : List ℕ) where
  mutual
    unfolding encode item_fields

    item_placed : (i : Item) (f : Field) (k : ℕ) → Placed s (λ v. encode i v) (λ v b. item_fields i f k v b)
    item_placed (leaf l) f k v p z q = (leaf_stands s p z f k l v q, tt)
    item_placed (node t r) f k v p z q =
        let n = inside s p z t (encodes r v) q in
        ((p, z, q, refl), rw n.1 at (run_placed r k v (p ++ (t ∷ octets forms (length (encodes r v)))) z n.0))
    item_placed (list t e m g i) f k vs p z q =
        let c : List ℕ = each (λ v. encode i v) vs in
        let n = inside s p z t c q in
        let u = each_placed s (λ v. encode i v) (λ j v b. item_fields i g j v b) (λ j v p z q. item_placed i g j v p z q) 0 vs (p ++ (t ∷ octets forms (length c))) z n.0 in
        all_append (Stands s) (each_fields (λ j v b. item_fields i g j v b) (λ v. encode i v) 0 vs (length p + before (length c))) _ (rw n.1 at u) ((p, z, q, refl), tt)
    item_placed (wrap t i) f k v p z q =
        let n = inside s p z t (encode i v) q in
        rw n.1 at (item_placed i f k v (p ++ (t ∷ octets forms (length (encode i v)))) z n.0)

    run_placed : (r : Members) (k : ℕ) → Placed s (λ v. encodes r v) (λ v b. run_fields r k v b)
    run_placed end k v p z q = tt
    run_placed (m ▸ r) k v p z q =
        let n = past s p (encode_part m v.0) (encodes r v.1) z q in
        let u = run_placed r k v.1 (p ++ encode_part m v.0) z n.1 in
        all_append (Stands s) (part_fields m k v.0 (length p)) _ (part_placed m k v.0 p (encodes r v.1 ++ z) n.0) (rw n.2 at u)

    part_placed : (m : Member) (k : ℕ) → Placed s (λ v. encode_part m v) (λ v b. part_fields m k v b)
    part_placed (known w) k v p z q = tt
    part_placed (one f i) k v p z q = item_placed i f k v p z q
    part_placed (maybe f i) k v p z q = option_placed s (λ x. encode i x) (λ x b. item_fields i f k x b) (λ x p z q. item_placed i f k x p z q) v p z q
    part_placed (flag f) k v p z q = flag_placed s f k v p z q
    part_placed (choose f l t g i j) k v p z q =
        let x : List ℕ = encode_leaf l v.0 in
        let y : List ℕ = either (λ x. encode i x) (λ x. encode j x) v.1 in
        let n = past s p x y z q in
        let u = either_placed s (λ x. encode i x) (λ x. encode j x) (λ x b. item_fields i g k x b) (λ x b. item_fields j g k x b) (λ x p z q. item_placed i g k x p z q) (λ x p z q. item_placed j g k x p z q) v.1 (p ++ x) z n.1 in
        (leaf_stands s p (y ++ z) f k l v.0 n.0, rw n.2 at u)

-- the fields of a record stand in it
pub fields_stand : (r : Members) (v : Values r) → All (Stands (record_of r v)) (fields r v)
unfolding fields
fields_stand r v =
    let c : List ℕ = encodes r v in
    let n = inside (record_of r v) [] [] sequence c (sym (append-nil (record_of r v))) in
    let m : length (sequence ∷ octets forms (length c)) ≡ before (length c) = omega arith in
    rw m at (run_placed (record_of r v) r 0 v (sequence ∷ octets forms (length c)) [] n.0)

-- ---- a part is what its section has

-- where a primitive item holds bytes, those that are handed out of it and those of its section are the same
pub part_is_section : (l : Leaf) → IsBytes l.holds → (f : Field) (k : ℕ) (v : List ℕ) (b : ℕ)
    → (x : Entry) × (item_fields (leaf l) f k v b ≡ x ∷ []) × (sheet (leaf l) v ≡ section x.bytes)
unfolding item_fields sheet
part_is_section l i f k v b = (entry f k (start_of l v b) v, refl, ap section (section_is_value l.holds i v))

-- ---- the first that passes

-- none passes
abbrev pub None : {A : Type 0} → (A → Bool) → List A → Type 0
None p xs = T (every (λ x. not (p x)) xs)

-- it passes, and none before it does
abbrev pub First : {A : Type 0} → (A → Bool) → List A → A → Type 0
First {A} p xs x = (earlier : List A) × (later : List A) × (xs ≡ earlier ++ x ∷ later) × None p earlier × T (p x)

abbrev pub Sought : {A : Type 0} → (A → Bool) → List A → Option A → Type 0
Sought p xs none = None p xs
Sought p xs (some x) = First p xs x

pub first-sought : {A : Type 0} (p : A → Bool) (xs : List A) → Sought p xs (first p xs)
unfolding first every
first-sought p [] = tt
first-sought {A} p (x ∷ xs) =
    test (p x)
    (λ t. subst (Sought p (x ∷ xs)) (sym (pick_yes (p x) _ _ t)) ([], xs, refl, tt, t))
    (λ t. subst (Sought p (x ∷ xs)) (sym (pick_no (p x) _ _ t)) (later t (first p xs) (first-sought p xs)))
  where
    later : T (not (p x)) → (o : Option A) → Sought p xs o → Sought p (x ∷ xs) o
    later t none h = both (not (p x)) _ t h
    later t (some y) (a, b, q, h, u) = (x ∷ a, b, ap (λ (z : List A). x ∷ z) q, both (not (p x)) _ t h, u)

-- what holds of each holds of the one that is found
pub first_holds : {A : Type 0} (P : A → Type 0) (p : A → Bool) (xs : List A) (x : A) → All P xs → First p xs x → P x
first_holds {A} P p xs x h (a, b, q, n, t) = found a (subst (All P) q h)
  where
    found : (ys : List A) → All P (ys ++ x ∷ b) → P x
    found [] k = k.0
    found (y ∷ ys) k = found ys k.1
