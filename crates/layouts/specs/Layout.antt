-- The layout of a record as data, and what it means: the values it has, which are inside the rules, how they are written. Assumes nothing.
use Rattle.std.specs.Prelude.{◌≡◌, ◌⊎◌, ℕ, ◌≤◌, Bool, true, false, not, List, [], ◌∷◌, ◌++◌, length, T}
use Rattle.std.proofs.Common.{inl, inr}
use Rattle.std.proofs.Math.Option.{Option, none, some}
use Rattle.terms.specs.declared.Field.{Field}
use Rattle.terms.specs.Answer.{enough}
use Rattle.heads.specs.Head.{tlv}
use Rattle.contents.specs.Content.{fine}
use Rattle.contents.specs.Rules.{yes_byte}
use Rattle.contents.specs.Leaves.{Leaf, rule_of, boolean, Known, only}

infixr 20 ◌▸◌
-- ---- a layout

mutual
  pub data Item : Type 0 where
    leaf : Leaf → Item
    node : ℕ → Members → Item  -- a tag around a run of members
    list : ℕ → Bool → ℕ → Field → Item → Item  -- a tag around items of one name: whether there may be none, and how many at most
    wrap : ℕ → Item → Item  -- a tag around one whole item

  pub data Members : Type 0 where
    end : Members
    ◌▸◌ : Member → Members → Members

  pub data Member : Type 0 where
    known : Known → Member  -- an item of one content, which is no field
    one : Field → Item → Member
    maybe : Field → Item → Member  -- optional
    flag : Field → Member  -- a BOOLEAN, FALSE by default
    choose : Field → Leaf → (List ℕ → Bool) → Field → Item → Item → Member  -- a leaf whose value decides which of two items follows

-- the tag that an item begins with
abbrev pub tag_of : Item → ℕ
tag_of (leaf l) = l.tag
tag_of (node t r) = t
tag_of (list t e n f i) = t
tag_of (wrap t i) = t

-- ---- the values of a layout

abbrev mutual
  pub Value : Item → Type 0
  Value (leaf l) = List ℕ
  Value (node t r) = Values r
  Value (list t e n f i) = List (Value i)
  Value (wrap t i) = Value i

  pub Values : Members → Type 0
  Values end = Unit {0}
  Values (m ▸ r) = Part m × Values r

  pub Part : Member → Type 0
  Part (known w) = Unit {0}
  Part (one f i) = Value i
  Part (maybe f i) = Option (Value i)
  Part (flag f) = Bool
  Part (choose f l t g i j) = List ℕ × (Value i ⊎ Value j)

-- ---- which values are inside the rules

abbrev pub All : {A : Type 0} → (A → Type 0) → List A → Type 0
All P [] = Unit {0}
All P (a ∷ xs) = P a × All P xs

abbrev pub InOption : {A : Type 0} → (A → Type 0) → Option A → Type 0
InOption P none = Unit {0}
InOption P (some a) = P a

-- the first of two where the test holds, else the second
abbrev pub InEither : {A B : Type 0} → Bool → (A → Type 0) → (B → Type 0) → A ⊎ B → Type 0
InEither t P Q (inl a) = T t × P a
InEither t P Q (inr b) = T (not t) × Q b

abbrev mutual
  pub Ok : (i : Item) → Value i → Type 0
  Ok (leaf l) v = rule_of l.holds v ≡ fine
  Ok (node t r) v = Oks r v
  Ok (list t e n f i) vs = T (enough e vs) × (length vs ≤ n) × All (λ v. Ok i v) vs
  Ok (wrap t i) v = Ok i v

  pub Oks : (r : Members) → Values r → Type 0
  Oks end v = Unit {0}
  Oks (m ▸ r) v = OkPart m v.0 × Oks r v.1

  pub OkPart : (m : Member) → Part m → Type 0
  OkPart (known w) v = Unit {0}
  OkPart (one f i) v = Ok i v
  OkPart (maybe f i) v = InOption (λ x. Ok i x) v
  OkPart (flag f) v = Unit {0}
  OkPart (choose f l t g i j) v = (rule_of l.holds v.0 ≡ fine) × InEither (t v.0) (λ x. Ok i x) (λ x. Ok j x) v.1

-- ---- writing

unfoldable pub each : {A : Type 0} → (A → List ℕ) → List A → List ℕ
each f [] = []
each f (a ∷ xs) = f a ++ each f xs

unfoldable pub option : {A : Type 0} → (A → List ℕ) → Option A → List ℕ
option f none = []
option f (some a) = f a

unfoldable pub either : {A B : Type 0} → (A → List ℕ) → (B → List ℕ) → A ⊎ B → List ℕ
either f g (inl a) = f a
either f g (inr b) = g b

-- a primitive item
unfoldable pub encode_leaf : Leaf → List ℕ → List ℕ
encode_leaf l v = tlv l.tag (l.front ++ v)

-- "left out when false, else 01 01 FF"
unfoldable pub critical : Bool → List ℕ
critical true = encode_leaf boolean yes_byte
critical false = []

unfoldable mutual
  pub encode : (i : Item) → Value i → List ℕ
  encode (leaf l) v = encode_leaf l v
  encode (node t r) v = tlv t (encodes r v)
  encode (list t e n f i) vs = tlv t (each (λ v. encode i v) vs)
  encode (wrap t i) v = tlv t (encode i v)

  pub encodes : (r : Members) → Values r → List ℕ
  encodes end v = []
  encodes (m ▸ r) v = encode_part m v.0 ++ encodes r v.1

  pub encode_part : (m : Member) → Part m → List ℕ
  encode_part (known w) v = encode_leaf (only w) w.content
  encode_part (one f i) v = encode i v
  encode_part (maybe f i) v = option (λ x. encode i x) v
  encode_part (flag f) v = critical v
  encode_part (choose f l t g i j) v = encode_leaf l v.0 ++ either (λ x. encode i x) (λ x. encode j x) v.1
