-- A moment's number. Assumes nothing.
use Rattle.std.specs.Prelude.{◌≡◌, ℕ}
use Rattle.contents.specs.Time.{Moment, moment}
use Rattle.moments.specs.declared.Moment.{Moment as CodeMoment}
use Rattle.moments.specs.Moment.{moment_in}

-- a moment is one value of code
pub one_moment : (a b : CodeMoment) → moment_in a ≡ moment_in b → a ≡ b
one_moment a b e = λ i. record { number = number_of (e i) }
  where
    number_of : Moment → ℕ
    number_of (moment n) = n
