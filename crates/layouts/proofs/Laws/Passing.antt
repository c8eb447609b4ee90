-- What is passed of an item that is read is its fields, all of them: for every layout. Assumes nothing.
use Rattle.std.specs.Prelude.{◌≡◌, refl, Bool, true, false, length, take, replicate}
use Rattle.std.proofs.Common.{sym, ap, ◌∙◌, arith, length-set}
use Prim.Native.Nat.{ℕ, suc, zero, ◌≤◌, ◌<◌}
use Rattle.std.proofs.Math.Option.{none, some}
use mathlib.Core.List.{List, [], ◌∷◌, ◌++◌, append-nil}
use Rattle.std.proofs.lemmas.List.{length-replicate}
use Rattle.std.proofs.Math.Seq.{take-length}
use Rattle.terms.specs.declared.Field.{Field}
use Rattle.terms.specs.declared.Reason.TheVariants.{LeftOver, NoItem}
use Rattle.terms.specs.Answer.{Res, good, Got, got, pick, bind, enough}
use Rattle.terms.specs.Laws.Answer.{clash, good_inj, by_bind, by_need, need_eq}
use Rattle.heads.specs.Head.{Cut, tlv, before}
use Rattle.heads.proofs.Laws.Head.{head_back, outermost_back}
use Rattle.heads.proofs.Laws.More.{inside-more}
use Rattle.contents.specs.Leaves.{Leaf, boolean}
use Rattle.layouts.specs.Layout.{Item, leaf, node, list, wrap, Members, end, ◌▸◌, Member, known, one, maybe, flag, choose, tag_of, Values, Ok, encode}
use Rattle.layouts.specs.Reading.{next, read_leaf, begins, many, read_option, read_flag, read_either, read, reads, read_part}
use Rattle.layouts.specs.Whole.{sequence, record_at, accept}
use Rattle.layouts.specs.Fields.{Entry, entry, start_of, each_fields, option_fields, either_fields, flag_fields, item_fields, run_fields, part_fields, fields}
use Rattle.layouts.specs.Places.{table_size, wanted_at, Placed}
use Rattle.layouts.specs.Marks.{record_marks}
use Rattle.layouts.specs.Passed.{passed_leaf, passed_many, passed, passed_all, passed_part, record_passed}
use Rattle.layouts.proofs.Laws.Reading.{Backward, leaf_back, leaf_next, many_back, yes_back, finish_back, backward, backwards, backward_part}
use Rattle.layouts.proofs.Laws.Places.{blank}
use Rattle.layouts.proofs.Laws.Passed.{passed_placed, placed_whole}

-- what `p` passes is what `f` says of the value that `g` reads
abbrev Passes : {A : Type 0} → (List ℕ → ℕ → Res (Got A)) → (List ℕ → ℕ → List Entry) → (A → ℕ → List Entry) → Type 0
Passes {A} g p f = (w : List ℕ) (b : ℕ) (a : Got A) → g w b ≡ good a → p w b ≡ f a.value b

leaf_passes : (l : Leaf) (f : Field) (k : ℕ) (w : List ℕ) (b : ℕ) (c : Cut) → read_leaf l w b ≡ good c → passed_leaf l f k w b ≡ entry f k (start_of l c.content b) c.content ∷ []
unfolding passed_leaf
leaf_passes l f k w b c h = rw h (ap (λ (n : ℕ). entry f k n c.content ∷ []) (leaf_back l w b c h).2)

module _ {A : Type 0} (g : List ℕ → ℕ → Res (Got A)) (e : A → List ℕ) (P : A → Type 0) (p : ℕ → List ℕ → ℕ → List Entry) (f : ℕ → A → ℕ → List Entry)
    (back : Backward g e P) (o : (k : ℕ) → Passes g (p k) (f k)) where
  many-passes : (n k : ℕ) (w : List ℕ) (b : ℕ) (xs : List A) → many g n w b ≡ good xs → passed_many g p n k w b ≡ each_fields f e k xs b
  unfolding many passed_many each_fields
  many-passes zero k [] b xs h = rw (← good_inj h)
  many-passes zero k (y ∷ w) b xs h = clash h
  many-passes (suc n) k [] b xs h = rw (← good_inj h)
  many-passes (suc n) k (y ∷ w) b xs h =
      by_bind _ _ _ h λ a e₁ e₂. by_bind _ _ _ e₂ λ ys e₃ e₄.
      rw (← good_inj e₄, e₁, o k (y ∷ w) b a e₁, many-passes n (suc k) a.rest a.after ys e₃, (back (y ∷ w) b a e₁).2)

option-passes : {A : Type 0} (g : List ℕ → ℕ → Res (Got A)) (p : List ℕ → ℕ → List Entry) (f : A → ℕ → List Entry) → Passes g p f → (t : ℕ)
    → Passes (read_option t g) (λ w b. pick (begins t w) (p w b) []) (option_fields f)
unfolding read_option option_fields pick
option-passes g p f o t w b x h = go (begins t w) h
  where
    go : (y : Bool) → pick y (bind (g w b) λ a. good (got (some a.value) a.rest a.after)) (good (got none w b)) ≡ good x → pick y (p w b) [] ≡ option_fields f x.value b
    go true e = by_bind _ _ _ e λ a e₁ e₂. rw (← good_inj e₂) (o w b a e₁)
    go false e = rw (← good_inj e)

flag_passes : (f : Field) (k : ℕ) → Passes read_flag (λ w b. pick (begins boolean.tag w) (passed_leaf boolean f k w b) []) (flag_fields f k)
unfolding read_flag flag_fields pick
flag_passes f k w b x h = go (begins boolean.tag w) h
  where
    go : (y : Bool) → pick y (bind (read_leaf boolean w b) λ c. good (got true c.rest (next c))) (good (got false w b)) ≡ good x
        → pick y (passed_leaf boolean f k w b) [] ≡ flag_fields f k x.value b
    go true e =
        by_bind _ _ _ e λ c e₁ e₂.
        rw (← good_inj e₂) (rw (yes_back c.content (leaf_back boolean w b c e₁).1) at (leaf_passes boolean f k w b c e₁))
    go false e = rw (← good_inj e)

either-passes : {A B : Type 0} (g : List ℕ → ℕ → Res (Got A)) (p : List ℕ → ℕ → List Entry) (f : A → ℕ → List Entry) (g' : List ℕ → ℕ → Res (Got B)) (p' : List ℕ → ℕ → List Entry) (f' : B → ℕ → List Entry)
    → Passes g p f → Passes g' p' f' → (t : Bool) → Passes (read_either t g g') (λ w b. pick t (p w b) (p' w b)) (either_fields f f')
unfolding read_either either_fields pick
either-passes g p f g' p' f' o o' true w b x h = by_bind _ _ _ h λ a e₁ e₂. rw (← good_inj e₂) (o w b a e₁)
either-passes g p f g' p' f' o o' false w b x h = by_bind _ _ _ h λ a e₁ e₂. rw (← good_inj e₂) (o' w b a e₁)

-- ---- every layout

mutual
  unfolding read passed item_fields

  item_passes : (i : Item) (f : Field) (k : ℕ) → Passes (λ w b. read i w b) (λ w b. passed i f k w b) (λ v b. item_fields i f k v b)
  item_passes (leaf l) f k w b x h = by_bind _ _ _ h λ c e₁ e₂. rw (← good_inj e₂) (leaf_passes l f k w b c e₁)
  item_passes (node t r) f k w b x h =
      by_bind _ _ _ h λ c e₁ e₂. by_bind _ _ _ e₂ λ v e₃ e₄.
      let m = (head_back t w b c e₁).1 in
      rw (← good_inj e₄, e₁, ← (backwards r c.content c.start v e₃).0, ← m) (ap (λ (xs : List Entry). entry f k b (tlv t c.content) ∷ xs) (all_passes r k c.content c.start v e₃))
  item_passes (list t e n g i) f k w b x h =
      by_bind _ _ _ h λ c e₁ e₂. by_need _ _ _ _ _ e₂ λ y e₃. by_bind _ _ _ e₃ λ vs e₄ e₅.
      let m = (head_back t w b c e₁).1 in
      let s = many_back (λ x p. read i x p) (λ v. encode i v) (λ v. Ok i v) (λ z p q d. backward i z p q d) n c.content c.start vs e₄ in
      rw (
        ← good_inj e₅,
        e₁,
        e₄,
        need_eq (enough e c.content) NoItem b (good vs) y,
        ← s.0,
        ← m,
        many-passes (λ x p. read i x p) (λ v. encode i v) (λ v. Ok i v) (λ j x p. passed i g j x p) (λ j v p. item_fields i g j v p) (λ z p q d. backward i z p q d)
            (λ j z p q d. item_passes i g j z p q d) n 0 c.content c.start vs e₄,
      )
  item_passes (wrap t i) f k w b x h =
      by_bind _ _ _ h λ c e₁ e₂. by_bind _ _ _ e₂ λ a e₃ e₄. by_bind _ _ _ e₄ λ z e₅ e₆.
      let m = (head_back t w b c e₁).1 in
      let s = backward i c.content c.start a e₃ in
      let o = finish_back LeftOver a z e₅ in
      let y : c.content ≡ encode i a.value = s.0 ∙ ap (λ (z : List ℕ). encode i a.value ++ z) o.0 ∙ append-nil (encode i a.value) in
      rw (← good_inj e₆, ← o.1, e₁, ← y, ← m) (item_passes i f k c.content c.start a e₃)

  all_passes : (r : Members) (k : ℕ) (w : List ℕ) (b : ℕ) (v : Values r) → reads r w b ≡ good v → passed_all r k w b ≡ run_fields r k v b
  all_passes end k w b v h = refl
  all_passes (m ▸ r) k w b v h =
      by_bind _ _ _ h λ a e₁ e₂. by_bind _ _ _ e₂ λ x e₃ e₄.
      rw (← good_inj e₄, e₁, part-passes m k w b a e₁, all_passes r k a.rest a.after x e₃, (backward_part m w b a e₁).2)

  part-passes : (m : Member) (k : ℕ) → Passes (λ w b. read_part m w b) (λ w b. passed_part m k w b) (λ v b. part_fields m k v b)
  part-passes (known y) k w b x h = refl
  part-passes (one f i) k w b x h = item_passes i f k w b x h
  part-passes (maybe f i) k w b x h = option-passes (λ w b. read i w b) (λ w b. passed i f k w b) (λ v b. item_fields i f k v b) (λ z p q d. item_passes i f k z p q d) (tag_of i) w b x h
  part-passes (flag f) k w b x h = flag_passes f k w b x h
  part-passes (choose f l t g i j) k w b x h =
      by_bind _ _ _ h λ c e₁ e₂. by_bind _ _ _ e₂ λ a e₃ e₄.
      rw (
        ← good_inj e₄,
        e₁,
        leaf_passes l f k w b c e₁,
        ← leaf_next l w b c e₁,
        either-passes (λ w b. read i w b) (λ w b. passed i g k w b) (λ v b. item_fields i g k v b) (λ w b. read j w b) (λ w b. passed j g k w b) (λ v b. item_fields j g k v b)
            (λ z p q d. item_passes i g k z p q d) (λ z p q d. item_passes j g k z p q d) (t c.content) c.rest (next c) a e₃,
      )

-- ---- a whole record

pub accepted-passed : (most : ℕ) (r : Members) (s : List ℕ) (v : Values r) → accept most r s ≡ good v → record_passed most r s ≡ fields r v
unfolding record_passed fields accept record_at
accepted-passed most r s v h =
    by_bind _ _ _ h λ x e₁ e₂. by_bind _ _ _ e₁ λ c e₃ e₄. by_bind _ _ _ e₄ λ u e₅ e₆.
    let m = (head_back sequence s 0 c (outermost_back most sequence s 0 c e₃).0).1 in
    let n : before (length c.content) ≡ c.start = omega arith in
    let q : u ≡ v = ap (λ (y : Got (Values r)). y.value) (good_inj e₆) ∙ (finish_back LeftOver x v e₂).1 in
    rw (e₃, ← q, ← (backwards r c.content c.start u e₅).0, n) (all_passes r 0 c.content c.start u e₅)

-- bytes after the first that no record has room for change nothing
pub passed-more : (most : ℕ) (r : Members) (w z : List ℕ) → most < length w → 4 ≤ length w → record_passed most r (w ++ z) ≡ record_passed most r w
unfolding record_passed
passed-more most r w z m h = inside-more most sequence w z 0 m h [] (λ c p. passed_all r 0 c p)

-- an accepted record's table has its fields
pub accepted_placed : (most : ℕ) (r : Members) (s : List ℕ) (v : Values r) → accept most r s ≡ good v → (k : ℕ) → Placed k (fields r v) (record_marks most r s 0 (length s) (blank k))
accepted_placed most r s v h k =
    let l = length-set (replicate table_size 0) wanted_at k ∙ length-replicate {A = ℕ} table_size 0 in
    let e : take table_size (blank k) ≡ blank k = ap (λ (n : ℕ). take n (blank k)) (sym l) ∙ take-length (blank k) in
    rw (← accepted-passed most r s v h) (placed_whole k (record_passed most r s) _ (passed_placed most r s k (blank k) (omega arith, e)))
