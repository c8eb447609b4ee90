-- Each field that is passed stands at its place in the record, also where it is refused: for every layout. Assumes nothing.
use Rattle.std.specs.Prelude.{◌≡◌, refl, Bool, length}
use Rattle.std.proofs.Common.{sym, ◌∙◌}
use Rattle.std.proofs.Math.Path.{ap}
use Prim.Native.Nat.{ℕ, suc, zero, ◌+◌}
use Rattle.std.proofs.Math.Bool.{true, false}
use mathlib.Core.List.{List, [], ◌∷◌, ◌++◌, append-nil}
use Rattle.terms.specs.declared.Field.{Field}
use Rattle.terms.specs.declared.Reason.TheVariants.{NoItem}
use Rattle.terms.specs.Answer.{Res, good, fault, Got, pick, need, enough}
use Rattle.heads.specs.Head.{forms, Cut, head, outermost, tlv, octets, before}
use Rattle.heads.proofs.Laws.Head.{head_back, outermost_back}
use Rattle.contents.specs.Leaves.{Leaf, boolean}
use Rattle.layouts.specs.Layout.{Item, leaf, node, list, wrap, Members, end, ◌▸◌, Member, known, one, maybe, flag, choose, tag_of, All, Ok, encode_leaf, encode, encode_part}
use Rattle.layouts.specs.Reading.{next, read_leaf, begins, many, read, read_part}
use Rattle.layouts.specs.Whole.{sequence}
use Rattle.layouts.specs.Fields.{Entry, list_entry, start_of, Stands}
use Rattle.layouts.specs.Passed.{of_read, passed_leaf, passed_many, passed, passed_all, passed_part, record_passed}
use Rattle.layouts.proofs.Laws.Reading.{Backward, leaf_back, leaf_next, backward, backward_part}
use Rattle.layouts.proofs.Laws.Fields.{all_append, inside, past, leaf_stands}

module _ (s : List ℕ) where
  -- bytes that stand at `b`
  abbrev At : List ℕ → ℕ → Type 0
  At w b = (earlier : List ℕ) × (later : List ℕ) × (s ≡ earlier ++ (w ++ later)) × (length earlier ≡ b)

  -- what they begun with, and the rest of them
  begun : (w : List ℕ) (b : ℕ) → At w b → (x r : List ℕ) (n : ℕ) → w ≡ x ++ r → n ≡ b + length x → At x b × At r n
  begun w b (p, z, q, l) x r n e m =
      let u = past s p x r z (q ∙ ap (λ (y : List ℕ). p ++ (y ++ z)) e) in
      ((p, r ++ z, u.0, l), (p ++ x, z, u.1, u.2 ∙ ap (λ (k : ℕ). k + length x) l ∙ sym m))

  -- an item, and its content behind its head
  opened : (t : ℕ) (w : List ℕ) (b : ℕ) → At w b → (c : Cut) → head forms t w b ≡ good c → At (tlv t c.content) b × At c.content c.start
  opened t w b o c h =
      let u = head_back t w b c h in
      let v = (begun w b o (tlv t c.content) c.rest _ u.0 refl).0 in
      let y = inside s v.0 v.1 t c.content v.2 in
      (v, (v.0 ++ (t ∷ octets forms (length c.content)), v.1, y.0, y.1 ∙ ap (λ (n : ℕ). n + before (length c.content)) v.3 ∙ sym u.1))

  -- ---- after a reading

  of-read : {A : Type 0} (r : Res A) (k : A → List Entry) → ((a : A) → r ≡ good a → All (Stands s) (k a)) → All (Stands s) (of_read r k)
  of-read (good a) k g = g a refl
  of-read (fault n p) k g = tt

  of_pick : (t : Bool) (xs ys : List Entry) → All (Stands s) xs → All (Stands s) ys → All (Stands s) (pick t xs ys)
  unfolding pick
  of_pick true xs ys h g = h
  of_pick false xs ys h g = g

  of_leaf : (l : Leaf) (f : Field) (k : ℕ) (w : List ℕ) (b : ℕ) → At w b → All (Stands s) (passed_leaf l f k w b)
  unfolding passed_leaf
  of_leaf l f k w b o =
      of-read (read_leaf l w b) _ λ c h.
      let u = leaf_back l w b c h in
      let v = (begun w b o (encode_leaf l c.content) c.rest _ u.0 refl).0 in
      let m : c.start ≡ start_of l c.content (length v.0) = u.2 ∙ ap (λ (n : ℕ). start_of l c.content n) (sym v.3) in
      (rw m (leaf_stands s v.0 v.1 f k l c.content v.2), tt)

  module _ {A : Type 0} (g : List ℕ → ℕ → Res (Got A)) (e : A → List ℕ) (P : A → Type 0) (F : ℕ → List ℕ → ℕ → List Entry) (back : Backward g e P)
      (there : (j : ℕ) (w : List ℕ) (b : ℕ) → At w b → All (Stands s) (F j w b)) where
    of_many : (n j : ℕ) (w : List ℕ) (b : ℕ) → At w b → All (Stands s) (passed_many g F n j w b)
    unfolding passed_many
    of_many zero j w b o = tt
    of_many (suc n) j [] b o = tt
    of_many (suc n) j (y ∷ w) b o =
        all_append (Stands s) (F j (y ∷ w) b) _ (there j (y ∷ w) b o)
        (of-read (g (y ∷ w) b) _ λ a h.
        let u = back (y ∷ w) b a h in
        of_many n (suc j) a.rest a.after (begun (y ∷ w) b o (e a.value) a.rest a.after u.0 u.2).1)

  -- ---- every layout

  mutual
    unfolding passed

    of_item : (i : Item) (f : Field) (k : ℕ) (w : List ℕ) (b : ℕ) → At w b → All (Stands s) (passed i f k w b)
    of_item (leaf l) f k w b o = of_leaf l f k w b o
    of_item (node t r) f k w b o =
        of-read (head forms t w b) _ λ c h. let u = opened t w b o c h in (u.0, of_all r k c.content c.start u.1)
    of_item (list t e n g i) f k w b o =
        of-read (head forms t w b) _ λ c h.
        let u = opened t w b o c h in
        all_append (Stands s) (passed_many (λ x p. read i x p) (λ j x p. passed i g j x p) n 0 c.content c.start) _
        (of_many (λ x p. read i x p) (λ v. encode i v) (λ v. Ok i v) (λ j x p. passed i g j x p) (λ y p x q. backward i y p x q) (λ j x p q. of_item i g j x p q) n 0 c.content c.start u.1)
        (of-read (need (enough e c.content) NoItem b (many (λ x p. read i x p) n c.content c.start)) (λ vs. list_entry f k b (tlv t c.content) (length vs) ∷ []) λ vs m. (u.0, tt))
    of_item (wrap t i) f k w b o = of-read (head forms t w b) _ λ c h. of_item i f k c.content c.start (opened t w b o c h).1

    of_all : (r : Members) (k : ℕ) (w : List ℕ) (b : ℕ) → At w b → All (Stands s) (passed_all r k w b)
    of_all end k w b o = tt
    of_all (m ▸ r) k w b o =
        all_append (Stands s) (passed_part m k w b) _ (of_part_lem m k w b o)
        (of-read (read_part m w b) _ λ a h.
        let u = backward_part m w b a h in
        of_all r k a.rest a.after (begun w b o (encode_part m a.value) a.rest a.after u.0 u.2).1)

    of_part_lem : (m : Member) (k : ℕ) (w : List ℕ) (b : ℕ) → At w b → All (Stands s) (passed_part m k w b)
    of_part_lem (known x) k w b o = tt
    of_part_lem (one f i) k w b o = of_item i f k w b o
    of_part_lem (maybe f i) k w b o = of_pick (begins (tag_of i) w) _ _ (of_item i f k w b o) tt
    of_part_lem (flag f) k w b o = of_pick (begins boolean.tag w) _ _ (of_leaf boolean f k w b o) tt
    of_part_lem (choose f l t g i j) k w b o =
        all_append (Stands s) (passed_leaf l f k w b) _ (of_leaf l f k w b o)
        (of-read (read_leaf l w b) _ λ c h.
        let u = (begun w b o (encode_leaf l c.content) c.rest (next c) (leaf_back l w b c h).0 (leaf_next l w b c h)).1 in
        of_pick (t c.content) _ _ (of_item i g k c.rest (next c) u) (of_item j g k c.rest (next c) u))

-- ---- a whole record

pub passed_stand : (most : ℕ) (r : Members) (s : List ℕ) → All (Stands s) (record_passed most r s)
unfolding record_passed
passed_stand most r s =
    of-read s (outermost forms most sequence s 0) _ λ c e.
    of_all s r 0 c.content c.start (opened s sequence s 0 ([], [], sym (append-nil s), refl) c (outermost_back most sequence s 0 c e).0).1
