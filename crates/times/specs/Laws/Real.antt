-- A time by its number: the parts of its fourteen digits, by arithmetic. Assumes nothing.
use Rattle.std.specs.Prelude.{◌≡◌, ℕ, suc, zero, ◌+◌, ◌*◌, ◌/◌, ◌%◌, ◌^◌, ◌≤◌, ◌<◌, Bool, ◌&&◌, List, [], ◌∷◌, ◌++◌, map, length, drop}
use Rattle.std.proofs.Math.Path.{refl, sym, ap}
use Rattle.std.proofs.Common.{◌∙◌, subst, mul_comm, div-one, mod-eq_of_lt, length-append, pow-add}
use native.Mathlib.Omega.{arith}
use Rattle.std.proofs.Math.Nat.{div-div-eq-div-mul}
use Rattle.std.proofs.Math.Bool.{true, false, and-true}
use Rattle.std.proofs.lemmas.List.{length-map}
use borrow.Author.Tests.{le-leb, lt-ltb, le-ltb}
use Rattle.terms.specs.Answer.{pick}
use Rattle.terms.specs.Digits.{digits, number_from}
use Rattle.terms.specs.Laws.Digits.{number_digits, length_digits}
use Rattle.contents.specs.Content.{passes}
use Rattle.contents.specs.Time.{year_digits, month_length, is_digit, time_from, time_rule, written, is_real}
use Rattle.std.specs.Prelude.{Option, Some, None}
use Rattle.times.specs.Time.{after, first_digit, inside, part_at, told, there, closing, date_in, clock_in, time_in}
use Rattle.times.specs.Laws.Parts.{plain, within, part-plain, not_too_low}
use Rattle.times.specs.Laws.Whole.{time-in, rule_none, rule_fine}

-- the last `k` digits as characters
abbrev chars : ℕ → ℕ → List ℕ
chars k n = map (λ d. 0x30 + d) (digits 10 k n)

char_digit : (x : ℕ) (w : List ℕ) → x < 10 → first_digit ((0x30 + x) ∷ w) ≡ Some x
unfolding first_digit is_digit pick
char_digit x w h = rw (le-leb 0x30 (0x30 + x) (omega arith), le-leb (0x30 + x) 0x39 (omega arith)) (ap Some (omega arith))

-- the first `k` of `k` and `j` digits
plain-chars : (k j a n : ℕ) (z : List ℕ) → plain k a (chars (k + j) n ++ z) ≡ Some (number_from 10 a (digits 10 k (n / 10 ^ j)))
unfolding plain after digits number_from
plain-chars zero j a n z = refl
plain-chars (suc k) j a n z =
    let q : suc k + j ≡ suc (k + j) = omega arith in
    let d : n / 10 ^ j / 10 ^ k ≡ n / 10 ^ (k + j) = rw (pow-add 10 k j, mul_comm (10 ^ k) (10 ^ j)) (div-div-eq-div-mul n (10 ^ j) (10 ^ k)) in
    rw (q, d, char_digit (n / 10 ^ (k + j) % 10) (chars (k + j) n ++ z) (omega arith)) (plain-chars k j (a * 10 + n / 10 ^ (k + j) % 10) n z)

-- the last `j` of `i` and `j` digits
drop-chars : (i j n : ℕ) (z : List ℕ) → drop i (chars (i + j) n ++ z) ≡ chars j n ++ z
unfolding digits
drop-chars zero j n z = let q : 0 + j ≡ j = omega arith in rw q
drop-chars (suc i) j n z = let q : suc i + j ≡ suc (i + j) = omega arith in rw q (drop-chars i j n z)

-- ---- a part of a number that is written

after-written : (n i j : ℕ) → i + j ≡ 14 → drop i (written n) ≡ chars j n ++ (0x5A ∷ [])
unfolding written
after-written n i j e = subst (λ (m : ℕ). drop i (chars m n ++ (0x5A ∷ [])) ≡ chars j n ++ (0x5A ∷ [])) e (drop-chars i j n (0x5A ∷ []))

module _ (n k low high i j : ℕ) (whole : i + (k + j) ≡ 14) (some-way : low < 10 ^ k) where
  part-written : part_at k low high i (written n) ≡ within low high (n / 10 ^ j % 10 ^ k)
  unfolding after
  part-written =
      part-plain k low high i (written n) some-way
      ∙ rw (after-written n i (k + j) whole, plain-chars k j 0 n (0x5A ∷ []), number_digits 10 (omega arith) k 0 (n / 10 ^ j))
      (ap (within low high) (let z : 0 * 10 ^ k + n / 10 ^ j % 10 ^ k ≡ n / 10 ^ j % 10 ^ k = omega arith in z))

  there-part : (f : ℕ → Option ℕ) → there (after (part_at k low high i (written n)) f) ≡ inside low high (n / 10 ^ j % 10 ^ k) && there (f (n / 10 ^ j % 10 ^ k))
  unfolding after within there pick
  there-part f = rw part-written (go (inside low high (n / 10 ^ j % 10 ^ k)))
    where
      go : (b : Bool) → there (after (pick b (Some (n / 10 ^ j % 10 ^ k)) None) f) ≡ b && there (f (n / 10 ^ j % 10 ^ k))
      go true = refl
      go false = refl

-- ---- the date and the clock of a number

module _ (n : ℕ) where
  pub date_there : n ≤ 99999999999999 → there (date_in (written n)) ≡ inside 1 12 (n / 100000000 % 100) && inside 1 (month_length (n / 10000000000) (n / 100000000 % 100)) (n / 1000000 % 100)
  unfolding date_in there
  date_there few =
      let s : n / 10000000000 < 10000 = omega arith in
      there-part n 4 0 9999 0 10 refl (omega arith) _
      ∙ rw (mod-eq_of_lt s, any_year (n / 10000000000) s)
      (there-part n 2 1 12 4 8 refl (omega arith) _
      ∙ ap (λ (b : Bool). inside 1 12 (n / 100000000 % 100) && b)
      (there-part n 2 1 (month_length (n / 10000000000) (n / 100000000 % 100)) 6 6 refl (omega arith) _ ∙ and-true _))
    where
      any_year : (y : ℕ) → y < 10000 → inside 0 9999 y ≡ true
      any_year y h = sym (not_too_low 0 9999 y (omega arith)) ∙ le-leb y 9999 (omega arith)

  pub clock_there : there (clock_in (written n)) ≡ inside 0 23 (n / 10000 % 100) && (inside 0 59 (n / 100 % 100) && inside 0 59 (n % 100))
  unfolding clock_in there closing pick digits
  clock_there =
      let o : n / 1 % 100 ≡ n % 100 = rw (div-one n) in
      there-part n 2 0 23 8 4 refl (omega arith) _
      ∙ ap (λ (b : Bool). inside 0 23 (n / 10000 % 100) && b)
      (there-part n 2 0 59 10 2 refl (omega arith) _
      ∙ ap (λ (b : Bool). inside 0 59 (n / 100 % 100) && b)
      (there-part n 2 0 59 12 0 refl (omega arith) _ ∙ rw (after-written n 14 0 refl, o) (and-true _)))

-- ---- a real date and time

fifteen : (n : ℕ) → length (written n) ≡ 15
unfolding written
fifteen n = let ten : 0 < 10 = omega arith in rw (length-append, length-map, length_digits 10 ten 14 n) (omega arith)

whole-there : (c : List ℕ) → there (told (time_from year_digits c 0)) ≡ there (date_in c) && there (clock_in c)
unfolding time_in after there
whole-there c = rw (← time-in c) (go (date_in c) (clock_in c))
  where
    go : (d t : Option ℕ) → there (after d λ x. after t λ y. Some (x * 1000000 + y)) ≡ there d && there t
    go (Some x) (Some y) = refl
    go (Some x) None = refl
    go None t = refl

rule_there : (c : List ℕ) → length c ≡ 15 → passes (time_rule c) ≡ there (told (time_from year_digits c 0))
unfolding passes there
rule_there c l = go (told (time_from year_digits c 0)) refl
  where
    go : (r : Option ℕ) → told (time_from year_digits c 0) ≡ r → passes (time_rule c) ≡ there r
    go (Some n) e = rw (rule_fine c l e)
    go None e = rw (rule_none c e)

module _ (n : ℕ) where
  pub real_past : 99999999999999 < n → false ≡ is_real n
  unfolding is_real
  real_past h = rw (le-ltb n 100000000000000 (omega arith))

  pub real_there : n ≤ 99999999999999 → is_real n ≡ there (date_in (written n)) && there (clock_in (written n))
  unfolding is_real
  real_there few = rw (lt-ltb n 100000000000000 (omega arith), rule_there (written n) (fifteen n), whole-there (written n))
