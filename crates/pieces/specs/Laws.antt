-- What is stored of each piece, a law for each case. Assumes nothing.
use Rattle.std.specs.Prelude.{◌≡◌, refl, ℕ, ◌+◌, ◌≤◌, ◌<◌, Bool, true, false, List, [], ◌∷◌, ◌++◌, length, get_or, replicate}
use Rattle.std.proofs.Common.{sym, ap, ◌∙◌, arith, length-append, lt-ltb, le-ltb}
use Rattle.std.proofs.lemmas.List.{length-replicate}
use Rattle.std.proofs.Math.Seq.{slice}
use Rattle.terms.specs.Answer.{pick}
use Rattle.heads.specs.Head.{tlv}
use Rattle.contents.specs.Integer.{sign, sign_of, stretch}
use Rattle.contents.specs.Leaves as leaves
use Rattle.contents.specs.Leaves.{Holding, Leaf, section_of}
use Rattle.tags.specs.declared.Tag.{Tag}
use Rattle.tags.specs.Tag.{tag_byte}
use Rattle.layouts.specs.Layout.{encode_leaf, critical}
use Rattle.layouts.specs.Sheet.{count, section, critical_byte}
use Rattle.primitives.specs.declared.Primitive.{Primitive}
use Rattle.primitives.specs.declared.Primitive.TheVariants as primitive
use Rattle.primitives.specs.declared.Word.{Word}
use Rattle.primitives.specs.declared.Word.TheVariants as word
use Rattle.primitives.specs.Primitive.{leaf_of, known_of}
use Rattle.sides.specs.declared.Side.{Side}
use Rattle.sides.specs.declared.Side.TheVariants as side
use Rattle.sides.specs.Move.{span_at, value_at, flag_at, known_at, leaf_out, front, flag_out, known_out, move_leaf, move_known, move_flag}
use Rattle.stores.specs.Store.{puts}
use Rattle.stores.specs.Laws.Store.{puts_then, puts_none}
use Rattle.pieces.specs.Piece.{extension, padding, wrote}

-- ---- what stands before a value

pub sign_none : (w : List ℕ) → length w < 1 → 0 ≡ sign_of w
unfolding sign_of
sign_none [] h = refl
sign_none (x ∷ w) h = absurd (omega arith)

pub sign_low : (w : List ℕ) → get_or w 0 0 < 128 → 0 ≡ sign_of w
unfolding sign_of sign pick
sign_low [] h = refl
sign_low (x ∷ w) h = rw (lt-ltb x 128 h)

pub sign_high : (w : List ℕ) → 128 ≤ get_or w 0 0 → 255 ≡ sign_of w
unfolding sign_of sign pick
sign_high [] h = absurd (omega arith)
sign_high (x ∷ w) h = rw (le-ltb x 128 h)

-- ---- a value

-- a value stands behind its padding, and its bytes are counted as a list's items are
leaf_padded : (to : Side) (l : Leaf) (v : List ℕ) → leaf_out to l v ≡ front to l.tag true (length (padding to l v ++ v)) (length (padding to l v ++ v)) ++ (padding to l v ++ v)
unfolding leaf_out encode_leaf tlv front section stretch
leaf_padded side.Record l v = refl
leaf_padded side.Sheet l v = go l.holds
  where
    go : (h : Holding) → section (section_of h v) ≡ count (length (extension h v ++ v)) ++ (extension h v ++ v)
    go (leaves.bytes rule) = refl
    go (leaves.number allowed) = refl

pub value-put : (to : Side) (p : Primitive) (t : Tag) (k b : ℕ) (v : List ℕ) (n : ℕ) (d : List ℕ) (o o₁ o₂ : ℕ) (d₁ d₂ : List ℕ) (x : ℕ × List ℕ) → tag_byte t ≡ (leaf_of p).tag
    → replicate k b ≡ padding to (leaf_of p) v → n ≡ k + length v → (o₁, d₁) ≡ puts (front to (tag_byte t) true n n) d o → (o₂, d₂) ≡ puts (replicate k b) d₁ o₁ → x ≡ puts v d₂ o₂
    → x ≡ puts (leaf_out to (leaf_of p) v) d o
value-put to p t k b v n d o o₁ o₂ d₁ d₂ x i h j f g e =
    let y : List ℕ = replicate k b ++ v in
    let l : length y ≡ n = length-append (replicate k b) v ∙ ap (λ (m : ℕ). m + length v) (length-replicate k b) ∙ sym j in
    let q : leaf_out to (leaf_of p) v ≡ front to (leaf_of p).tag true (length y) (length y) ++ y = leaf_padded to (leaf_of p) v ∙ ap (λ (z : List ℕ). front to (leaf_of p).tag true (length (z ++ v)) (length (z ++ v)) ++ (z ++ v)) (sym h) in
    let u : x ≡ puts y d₁ o₁ = e ∙ puts_then (replicate k b) d₁ o₁ o₂ d₂ g v in
    u ∙ puts_then (front to (tag_byte t) true n n) d o o₁ d₁ f y ∙ ap (λ (z : List ℕ). puts z d o) (rw (q, l, i) refl)

pub leaf_wrote : (s : List ℕ) (from to : Side) (p : Primitive) (at e : ℕ) (d : List ℕ) (o a z : ℕ) (w : List ℕ) (o₁ : ℕ) (d₁ : List ℕ) → (a, z) ≡ span_at from (leaf_of p) s at e → w ≡ slice a z s
    → (o₁, d₁) ≡ puts (leaf_out to (leaf_of p) w) d o → (z, o₁, d₁) ≡ wrote (move_leaf from to (leaf_of p) s at e) d o
unfolding wrote puts move_leaf value_at
leaf_wrote s from to p at e d o a z w o₁ d₁ i j g = rw (← i, ← j) (ap (λ (x : ℕ × List ℕ). (z, x.0, x.1)) g)

-- ---- a flag

module _ (to : Side) (v : Bool) (d : List ℕ) (o : ℕ) where
  pub flag_none : to ≡ side.Record → v ≡ false → (o, d) ≡ puts (flag_out to v) d o
  unfolding flag_out critical
  flag_none i j = rw (i, j) (puts_none d o)

  module _ (w : ℕ × List ℕ) where
    pub flag_record : to ≡ side.Record → v ≡ true → w ≡ puts (leaf_out to (leaf_of primitive.Critical) (0xFF ∷ [])) d o → w ≡ puts (flag_out to v) d o
    unfolding flag_out critical leaf_out
    flag_record i j g = rw j (rw i (rw i at g))

    pub flag_one : to ≡ side.Sheet → v ≡ true → w ≡ puts (leaf_out to (leaf_of primitive.Critical) (1 ∷ [])) d o → w ≡ puts (flag_out to v) d o
    unfolding flag_out critical_byte leaf_out
    flag_one i j g = rw j (rw i (rw i at g))

    pub flag_zero : to ≡ side.Sheet → v ≡ false → w ≡ puts (leaf_out to (leaf_of primitive.Critical) (0 ∷ [])) d o → w ≡ puts (flag_out to v) d o
    unfolding flag_out critical_byte leaf_out
    flag_zero i j g = rw j (rw i (rw i at g))

pub flag_wrote : (s : List ℕ) (from to : Side) (p e : ℕ) (d : List ℕ) (o : ℕ) (b : Bool) (a o₁ : ℕ) (d₁ : List ℕ) → (b, a) ≡ flag_at from s p e → (o₁, d₁) ≡ puts (flag_out to b) d o → (a, o₁, d₁) ≡ wrote (move_flag from to s p e) d o
unfolding wrote puts move_flag
flag_wrote s from to p e d o b a o₁ d₁ i g = rw (← i) (ap (λ (w : ℕ × List ℕ). (a, w.0, w.1)) g)

-- ---- a known member

module _ (to : Side) (c : Word) (d : List ℕ) (o : ℕ) where
  pub known_none : to ≡ side.Sheet → (o, d) ≡ puts (known_out to (known_of c)) d o
  unfolding known_out
  known_none i = rw i (puts_none d o)

  module _ (w : ℕ × List ℕ) where
    pub known_name : to ≡ side.Record → c ≡ word.HeaderName → w ≡ puts (leaf_out to (leaf_of primitive.HeaderName) (0x45 ∷ 0x53 ∷ [])) d o → w ≡ puts (known_out to (known_of c)) d o
    unfolding known_out leaf_out
    known_name i j g = rw j (rw i (rw i at g))

    pub known_version : to ≡ side.Record → c ≡ word.Version → w ≡ puts (leaf_out to (leaf_of primitive.Version) (0x04 ∷ [])) d o → w ≡ puts (known_out to (known_of c)) d o
    unfolding known_out leaf_out
    known_version i j g = rw j (rw i (rw i at g))

pub known_wrote : (s : List ℕ) (from to : Side) (c : Word) (p e : ℕ) (d : List ℕ) (o a o₁ : ℕ) (d₁ : List ℕ) → a ≡ known_at from (known_of c) s p e → (o₁, d₁) ≡ puts (known_out to (known_of c)) d o
    → (a, o₁, d₁) ≡ wrote (move_known from to (known_of c) s p e) d o
unfolding wrote puts move_known
known_wrote s from to c p e d o a o₁ d₁ i g = rw (← i) (ap (λ (w : ℕ × List ℕ). (a, w.0, w.1)) g)
