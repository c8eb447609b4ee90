-- What holds of each field of a value, by a test of its layout: for every layout. Assumes nothing.
use Rattle.std.specs.Prelude.{◌≡◌, ◌⊎◌, ℕ, suc, ◌+◌, Bool, ◌&&◌, T}
use Rattle.std.proofs.Math.Path.{refl}
use Rattle.std.proofs.Common.{inl, inr}
use Rattle.std.proofs.Math.Bool.{true, false}
use Rattle.std.proofs.Math.Option.{Option, none, some}
use mathlib.Core.List.{List, [], ◌∷◌}
use Rattle.std.proofs.Math.ListN.{length}
use Rattle.terms.specs.declared.Field.{Field}
use Rattle.terms.specs.Answer.{same}
use Rattle.terms.specs.Laws.Answer.{and_l, and_r}
use Rattle.heads.specs.Head.{before}
use Rattle.contents.specs.Content.{fine, ask}
use Rattle.contents.specs.Rules.{yes_byte, boolean_rule}
use Rattle.contents.specs.Leaves.{Leaf, rule_of, boolean}
use Rattle.layouts.specs.Layout.{Item, leaf, node, list, wrap, Members, end, ◌▸◌, Member, known, one, maybe, flag, choose, Value, Values, Part, All, InOption, InEither, Ok, Oks, OkPart, each, encode_leaf, encode, encodes, encode_part}
use Rattle.layouts.specs.Fields.{Entry, entry, list_entry, start_of, each_fields, option_fields, either_fields, flag_fields, item_fields, run_fields, part_fields, fields}
use Rattle.layouts.proofs.Laws.Fields.{all_append}

-- a test of each primitive item under its name, and of the name of each item with parts
module _ (t : Field → Leaf → Bool) (u : Field → Bool) where
  unfoldable mutual
    pub passes : Item → Field → Bool
    passes (leaf l) f = t f l
    passes (node τ r) f = u f && passes_all r
    passes (list τ e n g i) f = u f && passes i g
    passes (wrap τ i) f = passes i f

    pub passes_all : Members → Bool
    passes_all end = true
    passes_all (m ▸ r) = passes_part m && passes_all r

    pub passes_part : Member → Bool
    passes_part (known w) = true
    passes_part (one f i) = passes i f
    passes_part (maybe f i) = passes i f
    passes_part (flag f) = t f boolean
    passes_part (choose f l q g i j) = t f l && (passes i g && passes j g)

  -- what holds of a primitive item's value that passes, and of every item with parts whose name passes, holds of each field
  module _ (P : Entry → Type 0)
      (leaves : (f : Field) (l : Leaf) → T (t f l) → (v : List ℕ) → rule_of l.holds v ≡ fine → (k b : ℕ) → P (entry f k b v))
      (others : (f : Field) → T (u f) → (k b : ℕ) (x : List ℕ) (n : ℕ) → P (list_entry f k b x n)) where
    each-passes : {A : Type 0} (Q : A → Type 0) (e : A → List ℕ) (f : ℕ → A → ℕ → List Entry) → ((k : ℕ) (a : A) → Q a → (b : ℕ) → All P (f k a b))
        → (k : ℕ) (xs : List A) → All Q xs → (b : ℕ) → All P (each_fields f e k xs b)
    unfolding each_fields
    each-passes Q e f h k [] o b = tt
    each-passes Q e f h k (x ∷ xs) o b = all_append P (f k x b) _ (h k x o.0 b) (each-passes Q e f h (suc k) xs o.1 (b + length (e x)))

    option-passes : {A : Type 0} (Q : A → Type 0) (f : A → ℕ → List Entry) → ((a : A) → Q a → (b : ℕ) → All P (f a b)) → (o : Option A) → InOption Q o → (b : ℕ) → All P (option_fields f o b)
    unfolding option_fields
    option-passes Q f h none q b = tt
    option-passes Q f h (some a) q b = h a q b

    either-passes : {A B : Type 0} (d : Bool) (Q : A → Type 0) (R : B → Type 0) (f : A → ℕ → List Entry) (g : B → ℕ → List Entry)
        → ((a : A) → Q a → (b : ℕ) → All P (f a b)) → ((a : B) → R a → (b : ℕ) → All P (g a b)) → (x : A ⊎ B) → InEither d Q R x → (b : ℕ) → All P (either_fields f g x b)
    unfolding either_fields
    either-passes d Q R f g h k (inl a) q b = h a q.1 b
    either-passes d Q R f g h k (inr a) q b = k a q.1 b

    flag_passes : (f : Field) → T (t f boolean) → (k : ℕ) (v : Bool) (b : ℕ) → All P (flag_fields f k v b)
    unfolding flag_fields boolean_rule ask same
    flag_passes f h k true b = (leaves f boolean h yes_byte refl k (start_of boolean yes_byte b), tt)
    flag_passes f h k false b = tt

    mutual
      unfolding passes item_fields

      item_passes : (i : Item) (f : Field) → T (passes i f) → (k : ℕ) (v : Value i) → Ok i v → (b : ℕ) → All P (item_fields i f k v b)
      item_passes (leaf l) f h k v o b = (leaves f l h v o k (start_of l v b), tt)
      item_passes (node τ r) f h k v o b = (others f (and_l (u f) _ h) k b _ 0, run_passes r (and_r (u f) _ h) k v o (b + before (length (encodes r v))))
      item_passes (list τ e n g i) f h k vs o b =
          all_append P (each_fields (λ j v p. item_fields i g j v p) (λ v. encode i v) 0 vs (b + before (length (each (λ v. encode i v) vs)))) _
          (each-passes (λ v. Ok i v) (λ v. encode i v) (λ j v p. item_fields i g j v p) (λ j v q p. item_passes i g (and_r (u f) _ h) j v q p) 0 vs o.2 _)
          (others f (and_l (u f) _ h) k b _ (length vs), tt)
      item_passes (wrap τ i) f h k v o b = item_passes i f h k v o (b + before (length (encode i v)))

      pub run_passes : (r : Members) → T (passes_all r) → (k : ℕ) (v : Values r) → Oks r v → (b : ℕ) → All P (run_fields r k v b)
      run_passes end h k v o b = tt
      run_passes (m ▸ r) h k v o b =
          all_append P (part_fields m k v.0 b) _ (part-passes m (and_l (passes_part m) _ h) k v.0 o.0 b) (run_passes r (and_r (passes_part m) _ h) k v.1 o.1 (b + length (encode_part m v.0)))

      pub part-passes : (m : Member) → T (passes_part m) → (k : ℕ) (v : Part m) → OkPart m v → (b : ℕ) → All P (part_fields m k v b)
      part-passes (known w) h k v o b = tt
      part-passes (one f i) h k v o b = item_passes i f h k v o b
      part-passes (maybe f i) h k v o b = option-passes (λ x. Ok i x) (λ x p. item_fields i f k x p) (λ x q p. item_passes i f h k x q p) v o b
      part-passes (flag f) h k v o b = flag_passes f h k v b
      part-passes (choose f l q g i j) h k v o b = (
        leaves f l (and_l (t f l) _ h) v.0 o.0 k (start_of l v.0 b),
        let h' = and_r (t f l) _ h in
            either-passes (q v.0) (λ x. Ok i x) (λ x. Ok j x) (λ x p. item_fields i g k x p) (λ x p. item_fields j g k x p) (λ x o' p. item_passes i g (and_l (passes i g) _ h') k x o' p)
            (λ x o' p. item_passes j g (and_r (passes i g) _ h') k x o' p) v.1 o.1 (b + length (encode_leaf l v.0)),
      )

    -- the fields of a record
    pub fields_pass : (r : Members) → T (passes_all r) → (v : Values r) → Oks r v → All P (fields r v)
    unfolding fields
    fields_pass r h v o = run_passes r h 0 v o (before (length (encodes r v)))
