-- A number's eight bytes as the machine writes them. Assumes nothing.
use Rattle.std.specs.Prelude.{◌≡◌, refl, ℕ, zero, suc, ◌<◌, get_or, ℤ, T}
use Rattle.std.proofs.Common.{sym, ap, ◌∙◌, arith, SFits, of_z, to_z, to_z-of_z, lt→ltb}
use Rattle.terms.specs.Laws.Answer.{both}
use Rattle.std.specs.Int.{w64, to_be_bytes, bytes_high_first, byte_at}
use Rattle.std.proofs.Math.Facts.{Fits-of_z}
use Rattle.std.proofs.lemmas.Nat.{from_be_bytes-to_be_bytes_8}
use Rattle.terms.specs.Answer.{every}
use Rattle.terms.specs.Digits.{is_byte}
use Rattle.contents.specs.Integer.{value, eight}
use Rattle.contents.proofs.Laws.Integer.{eight-value}
use Rattle.numbers.specs.Laws.{be_value}

-- ---- each is a byte

byte_small : (k n : ℕ) → byte_at k n < 256
byte_small zero n = omega arith
byte_small (suc k) n = omega arith

small : (k n i : ℕ) → get_or (bytes_high_first k n) i 0 < 256
small zero n i = omega arith
small (suc k) n zero = byte_small k n
small (suc k) n (suc i) = small k n i

bytes : (k n : ℕ) → T (every is_byte (bytes_high_first k n))
unfolding every
bytes zero n = tt
bytes (suc k) n = both (is_byte (byte_at k n)) _ (lt→ltb (byte_at k n) 256 (byte_small k n)) (bytes k n)

-- ---- all eight

pub bytes_eight : (z : ℤ) → SFits w64 z → to_be_bytes w64 (of_z w64 z) ≡ eight z
bytes_eight z f =
    let n : ℕ = of_z w64 z in
    let back : value (to_be_bytes w64 n) ≡ z =
    sym (be_value (to_be_bytes w64 n) refl (small 8 n)) ∙ ap (to_z w64) (from_be_bytes-to_be_bytes_8 n (Fits-of_z f).fits) ∙ to_z-of_z f
    in
    sym (ap eight (sym back) ∙ (eight-value (to_be_bytes w64 n) (bytes 8 n) refl).0)
