-- The fields of a record, each under its name: "a part of the lent record, .. the bytes its section has, or the signed bytes;
-- in a list by index". Name, place and bytes stand together here and are asked for here. Assumes nothing.
use Rattle.std.specs.Prelude.{◌≡◌, ◌⊎◌, ℕ, suc, ◌+◌, Bool, true, false, ◌&&◌, List, [], ◌∷◌, ◌++◌, length, eqb}
use Rattle.std.proofs.Common.{inl, inr}
use Rattle.std.proofs.Math.Option.{Option, none, some}
use Rattle.terms.specs.declared.Field.{Field}
use Rattle.terms.specs.Names.{same_name}
use Rattle.terms.specs.Answer.{pick}
use Rattle.heads.specs.Head.{tlv, before}
use Rattle.contents.specs.Rules.{yes_byte}
use Rattle.contents.specs.Leaves.{Leaf, boolean}
use Rattle.layouts.specs.Layout.{Item, leaf, node, list, wrap, Members, end, ◌▸◌, Member, known, one, maybe, flag, choose, Value, Values, Part, each, encode_leaf, encode, encodes, encode_part}

-- a field: its name, its index in a list, the offset of its bytes in the record, its bytes, and of a list the number of its items
pub record Entry : Type 0 where
  pub name : Field
  pub index : ℕ
  pub place : ℕ
  pub bytes : List ℕ
  pub items : ℕ

abbrev pub list_entry : Field → ℕ → ℕ → List ℕ → ℕ → Entry
list_entry f k b x n = record { name = f; index = k; place = b; bytes = x; items = n }

abbrev pub entry : Field → ℕ → ℕ → List ℕ → Entry
entry f k b x = list_entry f k b x 0

-- where the value of a primitive item starts that stands at `b`
abbrev pub start_of : Leaf → List ℕ → ℕ → ℕ
start_of l v b = b + before (length (l.front ++ v)) + length l.front

-- the items of a list, from index `k` on
unfoldable pub each_fields : {A : Type 0} → (ℕ → A → ℕ → List Entry) → (A → List ℕ) → ℕ → List A → ℕ → List Entry
each_fields f e k [] b = []
each_fields f e k (x ∷ xs) b = f k x b ++ each_fields f e (suc k) xs (b + length (e x))

unfoldable pub option_fields : {A : Type 0} → (A → ℕ → List Entry) → Option A → ℕ → List Entry
option_fields f none b = []
option_fields f (some a) b = f a b

unfoldable pub either_fields : {A B : Type 0} → (A → ℕ → List Entry) → (B → ℕ → List Entry) → A ⊎ B → ℕ → List Entry
either_fields f g (inl a) b = f a b
either_fields f g (inr c) b = g c b

-- a BOOLEAN that is there
unfoldable pub flag_fields : Field → ℕ → Bool → ℕ → List Entry
flag_fields f k true b = entry f k (start_of boolean yes_byte b) yes_byte ∷ []
flag_fields f k false b = []

-- an item's fields, where it stands at `b` under the name `f` and the index `k`; of an item with parts the whole item is one.
-- A list stands after its items.
unfoldable mutual
  pub item_fields : (i : Item) → Field → ℕ → Value i → ℕ → List Entry
  item_fields (leaf l) f k v b = entry f k (start_of l v b) v ∷ []
  item_fields (node t r) f k v b = entry f k b (tlv t (encodes r v)) ∷ run_fields r k v (b + before (length (encodes r v)))
  item_fields (list t e n g i) f k vs b =
      each_fields (λ j v p. item_fields i g j v p) (λ v. encode i v) 0 vs (b + before (length (each (λ v. encode i v) vs)))
      ++ list_entry f k b (tlv t (each (λ v. encode i v) vs)) (length vs) ∷ []
  item_fields (wrap t i) f k v b = item_fields i f k v (b + before (length (encode i v)))

  pub run_fields : (r : Members) → ℕ → Values r → ℕ → List Entry
  run_fields end k v b = []
  run_fields (m ▸ r) k v b = part_fields m k v.0 b ++ run_fields r k v.1 (b + length (encode_part m v.0))

  pub part_fields : (m : Member) → ℕ → Part m → ℕ → List Entry
  part_fields (known w) k v b = []
  part_fields (one f i) k v b = item_fields i f k v b
  part_fields (maybe f i) k v b = option_fields (λ x p. item_fields i f k x p) v b
  part_fields (flag f) k v b = flag_fields f k v b
  part_fields (choose f l t g i j) k v b =
      entry f k (start_of l v.0 b) v.0
      ∷ either_fields (λ x p. item_fields i g k x p) (λ x p. item_fields j g k x p) v.1 (b + length (encode_leaf l v.0))

-- the fields of a whole record
unfoldable pub fields : (r : Members) → Values r → List Entry
fields r v = run_fields r 0 v (before (length (encodes r v)))

-- the field's bytes stand at its place in a record
abbrev pub Stands : List ℕ → Entry → Type 0
Stands w x = (earlier : List ℕ) × (later : List ℕ) × (w ≡ earlier ++ (x.bytes ++ later)) × (length earlier ≡ x.place)

-- ---- asking

unfoldable pub is_field : Field → ℕ → Entry → Bool
is_field f k x = same_name f x.name && eqb k x.index

-- the first that passes
unfoldable pub first : {A : Type 0} → (A → Bool) → List A → Option A
first p [] = none
first p (x ∷ xs) = pick (p x) (some x) (first p xs)

unfoldable pub bytes_in : Option Entry → List ℕ
bytes_in none = []
bytes_in (some x) = x.bytes

unfoldable pub is_there : Option Entry → Bool
is_there none = false
is_there (some x) = true
