-- Digits make their number and a number makes its digits: once over the base and the width. Assumes nothing.
use Rattle.std.specs.Prelude.{◌≡◌, ◌&&◌, take, drop, T, leb}
use Rattle.std.proofs.Math.Path.{refl, ap, ap₂}
use Rattle.std.proofs.Common.{sym, ◌∙◌, subst, mul-pos, add_assoc, mod-eq_of_lt, mod-lt, length-append, take-append-drop, take_at, drop_at, length-take-le, leb→le, le→leb, lt→ltb}
use Prim.Native.Nat.{ℕ, suc, zero, ◌+◌, ◌*◌, ◌/◌, ◌%◌, ◌^◌, ◌≤◌, ◌<◌}
use native.Mathlib.Omega.{arith}
use Rattle.std.proofs.Math.Nat.{pow-zero, pow-succ', mul_assoc, add-mul, mod-one}
use Rattle.std.proofs.Math.Option.{none, some}
use mathlib.Core.List.{List, [], ◌∷◌, ◌++◌}
use Rattle.std.proofs.Math.ListN.{length}
use Rattle.std.proofs.Math.Arith.{mod-mul, digits_lt, digits_div, digits_mod}
use Rattle.std.proofs.Math.Dec.{ltb, ltb→lt}
use Rattle.terms.specs.Answer.{every}
use Rattle.terms.specs.Digits.{digits, number_from, number, is_byte, leading}
use Rattle.terms.specs.Laws.Answer.{never, test, and_l, and_r, both, pick_yes, pick_no}

pub pow_pos : {base : ℕ} → 0 < base → (k : ℕ) → 0 < base ^ k
pow_pos {base} h zero = rw (pow-zero base) (omega arith)
pow_pos {base} h (suc k) = rw (pow-succ' base k) (mul-pos h (pow_pos h k))

module _ (base : ℕ) (some-base : 0 < base) where
  -- `k` digits of `n`, read after `a`
  pub number_digits : (k a n : ℕ) → number_from base a (digits base k n) ≡ a * base ^ k + n % base ^ k
  unfolding number_from digits
  number_digits zero a n = rw (pow-zero base, mod-one n) (omega arith)
  number_digits (suc k) a n =
      number_digits k (a * base + n / base ^ k % base) n
      ∙ rw (pow-succ' base k, mod-mul n {m = base} {c = base ^ k} some-base (pow_pos some-base k), add-mul, mul_assoc, add_assoc) refl

  pub length_digits : (k n : ℕ) → length (digits base k n) ≡ k
  unfolding digits
  length_digits zero n = refl
  length_digits (suc k) n = ap suc (length_digits k n)

  pub digits-small : (k n : ℕ) → T (every (λ d. ltb d base) (digits base k n))
  unfolding digits every
  digits-small zero n = tt
  digits-small (suc k) n = both (ltb (n / base ^ k % base) base) _ (lt→ltb _ _ (mod-lt (n / base ^ k) some-base)) (digits-small k n)

  -- a number after the number before it
  pub number_split : (a : ℕ) (ds : List ℕ) → number_from base a ds ≡ a * base ^ length ds + number_from base 0 ds
  unfolding number_from
  number_split a [] = rw (pow-zero base) (omega arith)
  number_split a (d ∷ ds) =
      number_split (a * base + d) ds
      ∙ rw (number_split (0 * base + d) ds, pow-succ' base (length ds), add-mul, mul_assoc) (let z : 0 * base + d ≡ d = omega arith in rw z (add_assoc (a * (base * base ^ length ds)) (d * base ^ length ds) (number_from base 0 ds)))

  pub number_small : (ds : List ℕ) → T (every (λ d. ltb d base) ds) → number_from base 0 ds < base ^ length ds
  unfolding number_from every
  number_small [] h = rw (pow-zero base) (omega arith)
  number_small (d ∷ ds) h =
      let e = number_small ds (and_r (ltb d base) _ h) in
      let l : d < base = ltb→lt d base (and_l (ltb d base) _ h) in
      let z : 0 * base + d ≡ d = omega arith in
      rw (z, number_split d ds, pow-succ' base (length ds)) (digits_lt l e)

  -- digits of a number that digits made
  digits_from : (a : ℕ) (ds : List ℕ) → T (every (λ d. ltb d base) ds) → digits base (length ds) (number_from base a ds) ≡ ds
  unfolding number_from digits every
  digits_from a [] h = refl
  digits_from a (d ∷ ds) h =
      let k = and_r (ltb d base) (every (λ d. ltb d base) ds) h in
      let l : d < base = ltb→lt d base (and_l (ltb d base) (every (λ d. ltb d base) ds) h) in
      let p = number_small ds k in
      let q : number_from base (a * base + d) ds / base ^ length ds ≡ a * base + d = rw (number_split (a * base + d) ds) (digits_div (a * base + d) p) in
      ap₂ ◌∷◌ (rw q (digits_mod a l)) (digits_from (a * base + d) ds k)

  pub digits_number : (ds : List ℕ) → T (every (λ d. ltb d base) ds) → digits base (length ds) (number base ds) ≡ ds
  digits_number ds h = digits_from 0 ds h

  pub number_of-digits : (k n : ℕ) → n < base ^ k → number base (digits base k n) ≡ n
  number_of-digits k n h = number_digits k 0 n ∙ rw (mod-eq_of_lt h) (let z : 0 * base ^ k + n ≡ n = omega arith in z)

-- ---- bytes at the front of a window

pub leading-there : (k n : ℕ) (w : List ℕ) → n < 256 ^ k → leading k (digits 256 k n ++ w) ≡ some (n, w)
unfolding leading
leading-there k n w h =
    let b : 0 < 256 = omega arith in
    let l = length_digits 256 b k n in
    let m : k ≤ length (digits 256 k n ++ w) = rw length-append (omega arith) in
    let t : take k (digits 256 k n ++ w) ≡ digits 256 k n = take_at (digits 256 k n) w k l in
    pick_yes _ _ _ (both (leb k (length (digits 256 k n ++ w))) _ (le→leb _ _ m) (rw t (digits-small 256 b k n)))
    ∙ rw (t, drop_at (digits 256 k n) w k l, number_of-digits 256 b k n h) refl

pub leading_back : (k : ℕ) (w : List ℕ) (x : ℕ × List ℕ) → leading k w ≡ some x → (w ≡ digits 256 k x.0 ++ x.1) × (x.0 < 256 ^ k)
unfolding leading
leading_back k w x e =
    test (leb k (length w) && every is_byte (take k w))
    (λ h.
    let b : 0 < 256 = omega arith in
    let l : length (take k w) ≡ k = length-take-le k w (leb→le k (length w) (and_l (leb k (length w)) _ h)) in
    let s = and_r (leb k (length w)) (every is_byte (take k w)) h in
    let q : some (number 256 (take k w), drop k w) ≡ some x = sym (pick_yes _ _ _ h) ∙ e in
    let i : (number 256 (take k w), drop k w) ≡ x = cc in
    let d : digits 256 k (number 256 (take k w)) ≡ take k w = subst (λ (m : ℕ). digits 256 m (number 256 (take k w)) ≡ take k w) l (digits_number 256 b (take k w) s) in
    rw (← i) (rw d (sym (take-append-drop k w)), subst (λ (m : ℕ). number 256 (take k w) < 256 ^ m) l (number_small 256 b (take k w) s)))
    (λ h. let q : none ≡ some x = sym (pick_no _ _ _ h) ∙ e in never (cc))
