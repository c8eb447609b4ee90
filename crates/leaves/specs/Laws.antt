-- A primitive item by its head and its rule. Assumes nothing.
use Rattle.std.specs.Prelude.{◌≡◌, refl, ℕ, suc, zero, ◌+◌, ◌-◌, ◌*◌, ◌^◌, ◌≤◌, ◌<◌, List, [], ◌∷◌, length, take, Ok, Err}
use Rattle.std.proofs.Common.{sym, ap, ◌∙◌, arith, length-append, length-drop, Fits}
use Rattle.std.proofs.Math.Seq.{slice}
use Rattle.std.specs.Int.{w64}
use Rattle.terms.specs.Answer.{Res, good, fault, never_empty, Answer}
use Rattle.terms.specs.Laws.Answer.{never, same_answer}
use Rattle.terms.specs.declared.Refusal.{Refusal}
use Rattle.heads.specs.Head.{forms, Cut, head, tlv, before}
use Rattle.heads.proofs.Laws.Head.{head_back, length-tlv}
use Rattle.heads.specs.Scan.{seen, head_at, span}
use Rattle.heads.specs.declared.Span.{Span}
use Rattle.contents.specs.Rules.{octets_rule}
use Rattle.contents.specs.Leaves.{Leaf, rule_of, bit_string, Known, only}
use Rattle.contents.specs.Scan.{checked_at, behind_at, content_at}
use Rattle.tags.specs.declared.Tag.{Tag}
use Rattle.tags.specs.Tag.{tag_byte}
use Rattle.layouts.specs.Scan.{judged_at, leaf_at}
use Rattle.primitives.specs.declared.Primitive.{Primitive}
use Rattle.primitives.specs.declared.Primitive.TheVariants as primitive
use Rattle.primitives.specs.Primitive.{leaf_of}

-- ---- a head, then a rule

module _ (l : Leaf) (s : List ℕ) (p e : ℕ) (u : Tag) (x : Answer Span) (i : tag_byte u ≡ l.tag) (h : x ≡ head_at (tag_byte u) s p e) where
  pub leaf_refused : (r : Refusal) → x ≡ Err r → Err r ≡ leaf_at l s p e
  unfolding leaf_at
  leaf_refused r k = rw (← i, ← h, k)

  pub leaf_judged : (v : Span) (n : ℕ) (c : Answer (Unit {0})) (y : Answer Span) → x ≡ Ok v → c ≡ content_at l.front (rule_of l.holds) s p v.start v.end → n ≡ length l.front → y ≡ judged_at c (v.start + n) v.end → y ≡ leaf_at l s p e
  unfolding leaf_at
  leaf_judged v n c y k g q j = rw (← i, ← h, k, ← g, ← q) j

-- a known member is the primitive item that it is named as
pub known_leaf : (w : Known) (l : Leaf) (s : List ℕ) (p e : ℕ) (x : Answer Span) → l ≡ only w → x ≡ leaf_at l s p e → x ≡ leaf_at (only w) s p e
known_leaf w l s p e x i h = rw (← i) h

take_short : (n : ℕ) (l : List ℕ) → length (take n l) ≤ length l
take_short zero l = omega arith
take_short (suc n) [] = omega arith
take_short (suc n) (x ∷ l) = let h = take_short n l in omega arith

-- a head ends in the slice
head-inside : (t : ℕ) (s : List ℕ) (p e : ℕ) (v : Span) (x : Answer Span) → x ≡ head_at t s p e → x ≡ Ok v → v.start ≤ length s
unfolding head_at
head-inside t s p e v x i j = go (head forms t (slice p e s) p) refl (sym i ∙ j)
  where
    go : (x : Res Cut) → head forms t (slice p e s) p ≡ x → seen x ≡ Ok v → v.start ≤ length s
    go (good c) o g =
        let b = head_back t (slice p e s) p c o in
        let n : length (slice p e s) ≡ length (take e s) - p = length-drop p (take e s) in
        let m = take_short e s in
        let k : length (slice p e s) ≡ before (length c.content) + length c.content + length c.rest =
        ap length b.0 ∙ length-append (tlv t c.content) c.rest ∙ ap (λ (x : ℕ). x + length c.rest) (length-tlv t c.content) in
        let q : c.start ≡ v.start = ap (λ i. i.start) (same_answer g) in
        let r = b.1 in
        omega arith
    go (fault n q) o g = never (cc)

-- so there is room for the byte that a content may begin with, since a slice takes less than 2 ^ 63 bytes
pub fits_behind : (t : ℕ) (s : List ℕ) (p e n : ℕ) (v : Span) (x : Answer Span) → x ≡ head_at t s p e → x ≡ Ok v → n ≤ 1 → length s * 1 < 2 ^ 63 → Fits w64 (v.start + n)
fits_behind t s p e n v x i j h l = record { fits = omega (arith, head-inside t s p e v x i j) }

-- ---- by the case of an enum

module _ (s : List ℕ) (p a z : ℕ) (y : Answer (Unit {0})) where
  pub primitive_rule : (f g : Primitive) → f ≡ g → y ≡ checked_at (rule_of (leaf_of g).holds) s p a z → y ≡ checked_at (rule_of (leaf_of f).holds) s p a z
  primitive_rule f g i h = rw i h

  -- a content that begins with nothing else is its value
  pub plain_content : (f : Primitive) (n : ℕ) → n ≡ length (leaf_of f).front → n ≡ 0 → y ≡ checked_at (rule_of (leaf_of f).holds) s p a z → y ≡ content_at (leaf_of f).front (rule_of (leaf_of f).holds) s p a z
  plain_content f n i j h = go (leaf_of f).front (sym i ∙ j)
    where
      go : (x : List ℕ) → length x ≡ 0 → y ≡ content_at x (rule_of (leaf_of f).holds) s p a z
      go [] e = h
      go (b ∷ x) e = absurd (omega arith)

  -- only a bit string begins with something
  pub bits_content : (f : Primitive) (n : ℕ) → n ≡ length (leaf_of f).front → (n ≡ 0 → ⊥) → y ≡ behind_at bit_string.front (octets_rule never_empty) s p a z → y ≡ content_at (leaf_of f).front (rule_of (leaf_of f).holds) s p a z
  bits_content primitive.Octets n i j h = absurd (j i)
  bits_content primitive.AnyOctets n i j h = absurd (j i)
  bits_content primitive.Bits n i j h = h
  bits_content primitive.Ia5 n i j h = absurd (j i)
  bits_content primitive.AnyIa5 n i j h = absurd (j i)
  bits_content primitive.AnyPrintable n i j h = absurd (j i)
  bits_content primitive.AnyUtf8 n i j h = absurd (j i)
  bits_content primitive.Identifier n i j h = absurd (j i)
  bits_content primitive.Time n i j h = absurd (j i)
  bits_content primitive.Integer n i j h = absurd (j i)
  bits_content primitive.ListKind n i j h = absurd (j i)
  bits_content primitive.Millimetres n i j h = absurd (j i)
  bits_content primitive.Critical n i j h = absurd (j i)
  bits_content primitive.HeaderName n i j h = absurd (j i)
  bits_content primitive.Version n i j h = absurd (j i)
