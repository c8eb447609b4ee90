-- GeneralizedTime, and moments (01, "Encoding" and "Findings and verdicts"). Assumes nothing.
use Rattle.std.specs.Prelude.{ℕ, suc, zero, ◌+◌, ◌*◌, ◌-◌, ◌%◌, ◌^◌, Bool, not, ◌&&◌, ◌||◌, List, [], ◌∷◌, ◌++◌, map, get_or, leb, ltb, eqb}
use Rattle.terms.specs.declared.Reason.TheVariants.{BadTime}
use Rattle.terms.specs.Answer.{Res, good, fault, Got, got, pick, bind, need, same}
use Rattle.terms.specs.Digits.{digits}
use Rattle.contents.specs.Content.{Check, fine, wrong, tag, ask, passes}

-- ---- "a real date of the Gregorian rule"

unfoldable pub leap : ℕ → Bool
leap y = eqb (y % 4) 0 && (not (eqb (y % 100) 0) || eqb (y % 400) 0)

abbrev pub months : List ℕ
months = 31 ∷ 28 ∷ 31 ∷ 30 ∷ 31 ∷ 30 ∷ 31 ∷ 31 ∷ 30 ∷ 31 ∷ 30 ∷ 31 ∷ []

unfoldable pub month_length : ℕ → ℕ → ℕ
month_length y m = pick (leap y && eqb m 2) 29 (get_or months (m - 1) 0)

-- ---- reading digit by digit

-- a number of which `n` was read and `k` digits are to come can still lie from `low` to `high`
unfoldable pub possible : ℕ → ℕ → ℕ → ℕ → Bool
possible low high k n = leb (n * 10 ^ k) high && ltb low ((n + 1) * 10 ^ k)

unfoldable pub is_digit : ℕ → Bool
is_digit d = leb 0x30 d && leb d 0x39

-- `k` digits more of a number from `low` to `high`, of which `n` was read
unfoldable pub part_from : ℕ → ℕ → ℕ → ℕ → List ℕ → ℕ → Res (Got ℕ)
part_from zero low high n w b = good (got n w b)
part_from (suc k) low high n [] b = fault BadTime b
part_from (suc k) low high n (d ∷ w) b =
    need (is_digit d && possible low high k (n * 10 + (d - 0x30))) BadTime b (part_from k low high (n * 10 + (d - 0x30)) w (b + 1))

abbrev part : ℕ → ℕ → ℕ → Got ℕ → Res (Got ℕ)
part k low high x = part_from k low high 0 x.rest x.after

-- the closing Z
unfoldable pub zulu : List ℕ → ℕ → Res (Got (Unit {0}))
zulu [] b = fault BadTime b
zulu (z ∷ w) b = need (eqb z 0x5A) BadTime b (good (got tt w (b + 1)))

-- a moment, by the number that its digits make: year, month, day, hour, minute and second
pub data Moment : Type 0 where
  moment : ℕ → Moment

unfoldable pub not_later : Moment → Moment → Bool
not_later (moment a) (moment b) = leb a b

-- how many digits a year has
abbrev pub year_digits : ℕ
year_digits = 4

-- and a time: two for each of the other five parts
abbrev time_digits : ℕ
time_digits = year_digits + 10

-- "fourteen digits and Z, .., years 0000 to 9999, hours 00 to 23, minutes and seconds 00 to 59"
unfoldable pub time_from : ℕ → List ℕ → ℕ → Res (Got Moment)
time_from width w b =
    bind (part width 0 (10 ^ width - 1) (got 0 w b)) λ y.
    bind (part 2 1 12 y) λ m.
    bind (part 2 1 (month_length y.value m.value) m) λ d.
    bind (part 2 0 23 d) λ h.
    bind (part 2 0 59 h) λ i.
    bind (part 2 0 59 i) λ s.
    bind (zulu s.rest s.after) λ z.
    good (got (moment (((((y.value * 100 + m.value) * 100 + d.value) * 100 + h.value) * 100 + i.value) * 100 + s.value)) z.rest z.after)

-- ---- a time of a record

unfoldable pub time_check : Res (Got Moment) → Check
time_check (good x) = ask (same x.rest []) BadTime fine
time_check (fault n p) = wrong BadTime tag

unfoldable pub time_rule : List ℕ → Check
time_rule c = time_check (time_from year_digits c 0)

unfoldable pub moment_in : Res (Got Moment) → Moment
moment_in (good x) = x.value
moment_in (fault n p) = moment 0

-- the moment that a record's time says
unfoldable pub moment_of : List ℕ → Moment
moment_of c = moment_in (time_from year_digits c 0)

-- ---- a time of the findings

-- "a whole number whose fourteen decimal digits, leading zeros included, are the date and time"
unfoldable pub written : ℕ → List ℕ
written n = map (λ d. 0x30 + d) (digits 10 time_digits n) ++ (0x5A ∷ [])

unfoldable pub is_real : ℕ → Bool
is_real n = ltb n (10 ^ time_digits) && passes (time_rule (written n))

-- the moment that a finding says
abbrev pub moment_at : ℕ → Moment
moment_at n = moment n
