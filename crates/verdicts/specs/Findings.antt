-- The findings, and what they say at a moment (01, "Findings and verdicts"). Assumes nothing.
use Rattle.std.specs.Prelude.{ℕ, Bool, false, not, ◌&&◌, List, [], ◌∷◌, ◌++◌, Some, None, Option}
use Rattle.terms.specs.Answer.{every}
use Rattle.contents.specs.Time.{Moment, not_later, moment_at, is_real}
use Rattle.verdicts.specs.declared.Dates.{Dates}
use Rattle.verdicts.specs.declared.CertificateFacts.{CertificateFacts}
use Rattle.verdicts.specs.declared.SealFacts.{SealFacts}
use Rattle.verdicts.specs.declared.Stamping.{Stamping}
use Rattle.verdicts.specs.declared.Stamping.TheVariants.{Unchecked, Bad, Good}
use Rattle.verdicts.specs.declared.Findings.{Findings}

-- ---- at a moment

-- from a first moment to a last one, both belonging to it
unfoldable pub between : Moment → Moment → Moment → Bool
between a z t = not_later a t && not_later t z

unfoldable pub within_dates : Dates → Moment → Bool
within_dates d t = between (moment_at d.first) (moment_at d.last) t

-- "revoked at or before t"
unfoldable pub revoked_by : Option ℕ → Moment → Bool
revoked_by None t = false
revoked_by (Some x) t = not_later (moment_at x) t

-- "A certificate is in force at t if first ≤ t ≤ last and it isn't revoked at or before t."
unfoldable pub in_force : CertificateFacts → Moment → Bool
in_force c t = within_dates c.dates t && not (revoked_by c.revocation t)

unfoldable pub withdrawn_by : SealFacts → Moment → Bool
withdrawn_by s t = revoked_by s.withdrawn t

-- "chain good, usage good"
unfoldable pub sound : CertificateFacts → Bool
sound c = c.chain && c.usage

-- the stamp is good at a time, and that time passes a test
unfoldable pub at_stamp : Stamping → (Moment → Bool) → Bool
at_stamp Unchecked f = false
at_stamp Bad f = false
at_stamp (Good t) f = f (moment_at t)

-- ---- their times

unfoldable pub revocation_times : Option ℕ → List ℕ
revocation_times None = []
revocation_times (Some t) = t ∷ []

unfoldable pub certificate_times : CertificateFacts → List ℕ
certificate_times c = c.dates.first ∷ c.dates.last ∷ revocation_times c.revocation

unfoldable pub stamp_times : Stamping → List ℕ
stamp_times Unchecked = []
stamp_times Bad = []
stamp_times (Good t) = t ∷ []

unfoldable pub times_of : Findings → List ℕ
times_of f = f.now ∷ certificate_times f.maker ++ certificate_times f.signer ++ revocation_times f.seal.withdrawn ++ stamp_times f.stamp.state

-- "a time in the findings, or now, not a real date"
unfoldable pub all_real : Findings → Bool
all_real f = every is_real (times_of f)
