-- What is sent into a destination. Assumes nothing.
-- Nobody has to believe this page: `Laws` proves that filling and writing are `fill_sheet` and `write_record`.
use Rattle.std.specs.Prelude.{ℕ, List, length, leb, Ok}
use Rattle.terms.specs.declared.Reason.TheVariants.{TooLarge}
use Rattle.terms.specs.Answer.{Res, good, fault, need, Answer, refused}
use Rattle.layouts.specs.Whole.{fit, stored}

abbrev pub outcome_of : Res (List ℕ) → Answer ℕ
outcome_of (good y) = Ok (length y)
outcome_of (fault n p) = refused n p

-- bytes into a destination of `room` bytes: 17, then 20
unfoldable pub sent : ℕ → List ℕ → ℕ → Res (List ℕ)
sent most y room = need (leb (length y) most) TooLarge 0 (fit room y)

-- the answer, and the destination after it
unfoldable pub ends : Res (List ℕ) → List ℕ → Answer ℕ × List ℕ
ends y d = (outcome_of y, stored y d)
