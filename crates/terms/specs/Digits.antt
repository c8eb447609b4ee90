-- Numbers in digits, the highest first: bytes of lengths, counts and integers in base 256, times in base 10. Assumes nothing.
use Rattle.std.specs.Prelude.{ℕ, suc, zero, ◌+◌, ◌*◌, ◌/◌, ◌%◌, ◌^◌, Bool, ◌&&◌, List, [], ◌∷◌, length, take, drop, leb, ltb}
use Rattle.std.proofs.Math.Option.{Option, none, some}
use Rattle.terms.specs.Answer.{pick, every}

-- the last `k` digits of `n`
unfoldable pub digits : ℕ → ℕ → ℕ → List ℕ
digits base zero n = []
digits base (suc k) n = n / base ^ k % base ∷ digits base k n

-- the number that digits make, after the number `a` before them
unfoldable pub number_from : ℕ → ℕ → List ℕ → ℕ
number_from base a [] = a
number_from base a (d ∷ ds) = number_from base (a * base + d) ds

abbrev pub number : ℕ → List ℕ → ℕ
number base ds = number_from base 0 ds

abbrev pub is_byte : ℕ → Bool
is_byte b = ltb b 256

-- the first `k` bytes of a window as one number, and what stands after them
unfoldable pub leading : ℕ → List ℕ → Option (ℕ × List ℕ)
leading k w = pick (leb k (length w) && every is_byte (take k w)) (some (number 256 (take k w), drop k w)) none
