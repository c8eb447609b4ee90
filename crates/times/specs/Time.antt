-- A time by positions, as code reads it: the parts at their places, each a number or none. Assumes nothing.
use Rattle.std.specs.Prelude.{ℕ, ◌+◌, ◌*◌, ◌-◌, ◌≤◌, Bool, true, false, ◌&&◌, List, [], ◌∷◌, drop, leb, eqb}
use Rattle.terms.specs.Answer.{Res, good, fault, Got, pick}
use Rattle.contents.specs.Time.{month_length, is_digit, part_from, Moment, moment}
use Rattle.std.specs.Prelude.{Option, Some, None}

-- ---- one part

unfoldable pub heard : Res (Got ℕ) → Option ℕ
heard (good x) = Some x.value
heard (fault n p) = None

-- go on with the number
unfoldable pub after : Option ℕ → (ℕ → Option ℕ) → Option ℕ
after (Some n) f = f n
after None f = None

-- a number is at most so much
abbrev pub AtMost : ℕ → Option ℕ → Type 0
AtMost m (Some n) = n ≤ m
AtMost m None = Unit {0}

-- the digit at the front of a window
unfoldable pub first_digit : List ℕ → Option ℕ
first_digit [] = None
first_digit (d ∷ w) = pick (is_digit d) (Some (d - 0x30)) None

-- a number from `low` to `high`
unfoldable pub inside : ℕ → ℕ → ℕ → Bool
inside low high n = leb low n && leb n high

-- the part at `i`, as the rules read it
unfoldable pub part_at : ℕ → ℕ → ℕ → ℕ → List ℕ → Option ℕ
part_at k low high i c = heard (part_from k low high 0 (drop i c) i)

-- ---- the whole

abbrev pub number_of : Moment → ℕ
number_of (moment n) = n

-- what code answers of a whole time: its number, or none
unfoldable pub told : Res (Got Moment) → Option ℕ
told (good x) = Some (number_of x.value)
told (fault n p) = None

-- a number was read
unfoldable pub there : Option ℕ → Bool
there (Some n) = true
there None = false

-- the closing Z at the front of a window
unfoldable pub closing : List ℕ → Bool
closing [] = false
closing (z ∷ w) = eqb z 0x5A

unfoldable pub date_in : List ℕ → Option ℕ
date_in c =
    after (part_at 4 0 9999 0 c) λ y.
    after (part_at 2 1 12 4 c) λ m.
    after (part_at 2 1 (month_length y m) 6 c) λ d.
    Some ((y * 100 + m) * 100 + d)

unfoldable pub clock_in : List ℕ → Option ℕ
clock_in c =
    after (part_at 2 0 23 8 c) λ h.
    after (part_at 2 0 59 10 c) λ i.
    after (part_at 2 0 59 12 c) λ s.
    pick (closing (drop 14 c)) (Some ((h * 100 + i) * 100 + s)) None

unfoldable pub time_in : List ℕ → Option ℕ
time_in c =
    after (date_in c) λ d.
    after (clock_in c) λ t.
    Some (d * 1000000 + t)
