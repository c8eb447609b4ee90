-- What stands before a value or before items as it is stored, with premises as code has them. Assumes nothing.
use Rattle.std.specs.Prelude.{◌≡◌, ℕ, ◌/◌, ◌%◌, ◌≤◌, ◌<◌, List, [], ◌∷◌, get_or}
use Rattle.std.proofs.Math.Path.{refl}
use Rattle.std.proofs.Common.{◌∙◌}
use native.Mathlib.Omega.{arith}
use borrow.Author.Tests.{lt-ltb, le-ltb}
use Rattle.std.specs.Int.{w64, to_be_bytes}
use Rattle.terms.specs.Answer.{pick}
use Rattle.terms.specs.Digits.{digits}
use Rattle.heads.specs.Head.{forms, spell, octets}
use Rattle.tags.specs.declared.Tag.{Tag}
use Rattle.tags.specs.Tag.{tag_byte}
use Rattle.layouts.specs.Sheet.{count}
use Rattle.stores.specs.Store.{advance, put, puts}
use Rattle.stores.specs.Laws.Store.{puts_then}

-- ---- bytes of counts and heads

-- the bytes that the machine writes of a number
module _ (d : List ℕ) (o n : ℕ) (x : List ℕ) (e : x ≡ to_be_bytes w64 n) where
  whole : n / 1 ≡ n
  whole = omega arith

  pub count-put : (w : ℕ × List ℕ) → w ≡ puts (get_or x 4 0 ∷ get_or x 5 0 ∷ get_or x 6 0 ∷ get_or x 7 0 ∷ []) d o → w ≡ puts (count n) d o
  unfolding count digits
  count-put w g = g ∙ rw (e, whole) refl

  pub size_short : (w : ℕ × List ℕ) → n < 128 → w ≡ puts (get_or x 7 0 ∷ []) d o → w ≡ puts (octets forms n) d o
  unfolding octets pick
  size_short w h g = let u : n % 256 ≡ n = omega arith in g ∙ rw (e, lt-ltb n 128 h, u) refl

  pub size_one : (w : ℕ × List ℕ) → 128 ≤ n → n < 256 → w ≡ puts (0x81 ∷ get_or x 7 0 ∷ []) d o → w ≡ puts (octets forms n) d o
  unfolding octets spell pick digits
  size_one w h k g = g ∙ rw (e, le-ltb n 128 h, lt-ltb n 256 k, whole) refl

  pub size_two : (w : ℕ × List ℕ) → 128 ≤ n → 256 ≤ n → n < 65536 → w ≡ puts (0x82 ∷ get_or x 6 0 ∷ get_or x 7 0 ∷ []) d o → w ≡ puts (octets forms n) d o
  unfolding octets spell pick digits
  size_two w h k l g = g ∙ rw (e, le-ltb n 128 h, le-ltb n 256 k, lt-ltb n 65536 l, whole) refl

pub size_none : (d : List ℕ) (o n : ℕ) → 128 ≤ n → 256 ≤ n → 65536 ≤ n → (o, d) ≡ puts (octets forms n) d o
unfolding octets spell pick puts put advance
size_none d o n x y z = rw (le-ltb n 128 x, le-ltb n 256 y, le-ltb n 65536 z)

pub head-put : (d : List ℕ) (o p : ℕ) (d₁ : List ℕ) (w : ℕ × List ℕ) (t : Tag) (n a : ℕ) → a ≡ tag_byte t → (p, d₁) ≡ puts (a ∷ []) d o → w ≡ puts (octets forms n) d₁ p → w ≡ puts (tag_byte t ∷ octets forms n) d o
head-put d o p d₁ w t n a i h g = g ∙ puts_then (a ∷ []) d o p d₁ h (octets forms n) ∙ rw i refl
