-- What a step tells of the table's row with its verdict, and what the steps come to. Assumes nothing.
use Rattle.std.specs.Prelude.{◌≡◌, ℕ, Bool, true, false, not, ◌&&◌, List, [], ◌∷◌, eqb, Option, Some, None, Ok}
use Rattle.terms.specs.declared.Reason.TheVariants.{UnrealTime}
use Rattle.terms.specs.Answer.{pick, Answer, refused}
use Rattle.contents.specs.Time as Time
use Rattle.contents.specs.Time.{moment_at}
use Rattle.moments.specs.declared.Moment.{Moment}
use Rattle.moments.specs.Moment.{moment_in}
use Rattle.layouts.specs.Fields.{first}
use Rattle.verdicts.specs.declared.Findings.{Findings}
use Rattle.verdicts.specs.declared.Verdict.{Verdict}
use Rattle.verdicts.specs.declared.Judgement.{Judgement}
use Rattle.verdicts.specs.Verdict.{verdict_number, Step, or_else, first_failing, Facts, Rulebook, judged}
use Rattle.verdicts.specs.declared.Stamping.TheVariants.{Good}
use Rattle.verdicts.specs.Findings.{at_stamp, all_real}
use Rattle.grounds.specs.declared.Grounds.{Grounds}
use Rattle.grounds.specs.Ground.{Rests}

-- a rulebook's row of a verdict, by its number
unfoldable pub row_of : Rulebook → Verdict → Step Facts
row_of b v = or_else (first (λ s. eqb (verdict_number s.verdict) (verdict_number v)) b.steps) b.passed

-- the first of some verdicts whose row fails, else that of none
unfoldable pub first_of : Rulebook → List Verdict → Facts → Verdict
first_of b [] x = b.passed.verdict
first_of b (v ∷ vs) x = pick ((row_of b v).fails x) v (first_of b vs x)

-- what holds of all facts that rest on the grounds and the findings
abbrev pub Of : Grounds → Findings → (Facts → Type 0) → Type 0
Of g f P = (x : Facts) → Rests x g → x.found ≡ f → P x

-- a step passes just where the row of its verdict does not fail
unfoldable pub Tells : Rulebook → Verdict → Grounds → Findings → Bool → Type 0
Tells b v g f c = Of g f (λ x. not c ≡ (row_of b v).fails x)

-- the steps of some verdicts come to a verdict
unfoldable pub Comes : Rulebook → List Verdict → Grounds → Findings → Verdict → Type 0
Comes b vs g f v = Of g f (λ x. v ≡ first_of b vs x)

-- the verdict of the first row that fails
unfoldable pub Finds : Rulebook → Grounds → Findings → Verdict → Type 0
Finds b g f v = Of g f (λ x. v ≡ (first_failing b.steps b.passed x).verdict)

-- a record with a stamp that is good at a time; else no test of its time holds
unfoldable pub Stamped : Grounds → Findings → Option Moment → Type 0
Stamped g f (Some m) = (n : ℕ) × (g.stamped ≡ true) × (f.stamp.state ≡ Good n) × (moment_in m ≡ moment_at n)
Stamped g f None = (k : Time.Moment → Bool) → (g.stamped && at_stamp f.stamp.state k) ≡ false

-- the verdict with its notice
unfoldable pub Judges : Rulebook → Grounds → Findings → Judgement → Type 0
Judges b g f j = Of g f (λ x. Ok j ≡ judged b x)

-- after 18
unfoldable pub Weighs : Rulebook → Grounds → Findings → Answer Judgement → Type 0
Weighs b g f y = Of g f (λ x. y ≡ pick (all_real f) (judged b x) (refused UnrealTime 0))
