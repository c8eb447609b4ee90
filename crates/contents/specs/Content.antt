-- What a rule says of a value, and where it points. Assumes nothing.
use Rattle.std.specs.Prelude.{ℕ, ◌+◌, Bool, true, false, []}
use Rattle.terms.specs.declared.Reason.{Reason}
use Rattle.terms.specs.Numbers.{reason_number, done}
use Rattle.terms.specs.Answer.{Res, fault, Told, refuses, told_none}

-- where a rule points: the item's tag, or a byte of its value, its end allowed
pub data Spot : Type 0 where
  tag : Spot
  inside : ℕ → Spot

-- what a rule says of a value: it is fine, or why not and at which spot
pub data Check : Type 0 where
  fine : Check
  wrong : Reason → Spot → Check

-- go on if the test holds, else refuse at the tag
unfoldable pub ask : Bool → Reason → Check → Check
ask true n k = k
ask false n k = wrong n tag

-- a rule's answer in the paper's terms; its place is the reader's to say
abbrev pub told_check : Check → Told
told_check fine = told_none done
told_check (wrong n x) = refuses (reason_number n) []

unfoldable pub passes : Check → Bool
passes fine = true
passes (wrong n x) = false

-- a spot's place: `p` is the offset of the item's tag, in a sheet of its section's count, and `s` that of its value
unfoldable pub place_of : Spot → ℕ → ℕ → ℕ
place_of tag p s = p
place_of (inside k) p s = s + k

-- go on by what a rule says
unfoldable pub judge : {A : Type 0} → Check → ℕ → ℕ → Res A → Res A
judge fine p s r = r
judge (wrong n x) p s r = fault n (place_of x p s)
