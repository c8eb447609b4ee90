-- The two verdicts: tables of numbered steps, and the first that holds (000, 6.3 and 7.3). Assumes nothing.
use Rattle.std.specs.Prelude.{ℕ, Bool, true, false, not, ◌&&◌, List, [], ◌∷◌, Ok, Err}
use Rattle.std.proofs.Math.Option.{Option, none, some}
use Rattle.terms.specs.declared.Field.{Field}
use Rattle.terms.specs.declared.Field.TheVariants.{ListKind, Start, End, SigningTime, OriginalDigest, SignerCertificate, Stamp}
use Rattle.verdicts.specs.declared.Judgement.{Judgement}
use Rattle.verdicts.specs.declared.Verdict.{Verdict}
use Rattle.verdicts.specs.declared.Verdict.TheVariants.{Valid, SignatureBad, SignerUnlisted, SealBad, MakerBad, MakerOutOfForce, OutsidePeriod, SealWithdrawn, SignerBad, OutsideDates, SignerRevoked, DigestDiffers, StampBad, AfterStamp, SignerOutAtStamp}
use Rattle.terms.specs.declared.Reason.TheVariants.{UnrealTime}
use Rattle.terms.specs.Answer.{Res, good, fault, pick, same, bit, Told, told_one, refusal, Answer, refused}
use Rattle.contents.specs.Integer.{says_kind1}
use Rattle.contents.specs.Time.{Moment, not_later, moment_of, moment_at}
use Rattle.layouts.specs.Layout.{Members, Values}
use Rattle.layouts.specs.Fields.{Entry, fields, is_field, first, bytes_in, is_there}
use Rattle.records.specs.Record.{seal, signature}
use Rattle.records.specs.Handing.{read_record, is_listed}
use Rattle.verdicts.specs.Findings.{between, within_dates, revoked_by, in_force, withdrawn_by, sound, at_stamp, all_real}
use Rattle.verdicts.specs.declared.Findings.{Findings}

-- ---- the verdicts' numbers (01, "Findings and verdicts")

abbrev pub verdict_number : Verdict → ℕ
verdict_number Valid = 0
verdict_number SignatureBad = 21
verdict_number SignerUnlisted = 22
verdict_number SealBad = 23
verdict_number MakerBad = 24
verdict_number MakerOutOfForce = 25
verdict_number OutsidePeriod = 26
verdict_number SealWithdrawn = 27
verdict_number SignerBad = 28
verdict_number OutsideDates = 29
verdict_number SignerRevoked = 30
verdict_number DigestDiffers = 31
verdict_number StampBad = 32
verdict_number AfterStamp = 33
verdict_number SignerOutAtStamp = 34

-- ---- tables of steps

-- a step's verdict, when it fails, and whether the notice goes with it
pub record Step (A : Type 0) : Type 0 where
  pub verdict : Verdict
  pub fails : A → Bool
  pub carries : Bool

abbrev pub step : {A : Type 0} → Verdict → Bool → (A → Bool) → Step A
step v c f = record { verdict = v; fails = f; carries = c }

unfoldable pub or_else : {A : Type 0} → Option A → A → A
or_else none a = a
or_else (some x) a = x

-- "The first that holds": the row; `passed` is the row that says that none does
unfoldable pub first_failing : {A : Type 0} → List (Step A) → Step A → A → Step A
first_failing ss passed x = or_else (first (λ s. s.fails x) ss) passed

-- ---- what the steps look at

pub record Facts : Type 0 where
  pub entries : List Entry
  pub found : Findings
  pub original_digest : List ℕ
  pub signer_digest : List ℕ

-- of an accepted record and what was found
abbrev pub facts_of : (r : Members) → Values r → Findings → List ℕ → List ℕ → Facts
facts_of r v f original signer = record { entries = fields r v; found = f; original_digest = original; signer_digest = signer }

-- a field of the record, by its name
unfoldable pub the : Field → Facts → List ℕ
the f x = bytes_in (first (is_field f 0) x.entries)

unfoldable pub time_of : Field → Facts → Moment
time_of f x = moment_of (the f x)

abbrev pub signing : Facts → Moment
signing x = time_of SigningTime x

abbrev pub now : Facts → Moment
now x = moment_at x.found.now

-- "Both ends of a seal's period belong to it; a start after its end makes an empty period"
unfoldable pub in_period : Facts → Moment → Bool
in_period x t = between (time_of Start x) (time_of End x) t

-- "kind 1, .. the signer certificate; kind 2, .. the signer's digest"
unfoldable pub sought : Facts → List ℕ
sought x = pick (says_kind1 (the ListKind x)) (the SignerCertificate x) x.signer_digest

unfoldable pub signer_listed : Facts → Bool
signer_listed x = is_there (first (is_listed (sought x)) x.entries)

unfoldable pub stamped : Facts → Bool
stamped x = is_there (first (is_field Stamp 0) x.entries)

-- the records that a verdict is on, its steps, and the row that says that none fails
pub record Rulebook : Type 0 where
  pub layout : Members
  pub steps : List (Step Facts)
  pub passed : Step Facts

-- ---- the signature verdict (000, 7.3)

-- "A notice goes with 0 and 26 to 34"
abbrev no_notice : Bool
no_notice = false

abbrev with_notice : Bool
with_notice = true

abbrev signature_steps : List (Step Facts)
signature_steps =
    -- b, c
    step SignatureBad no_notice (λ x. not x.found.signature)
    ∷ step SignerUnlisted no_notice (λ x. not (signer_listed x))
    -- d
    ∷ step SealBad no_notice (λ x. not x.found.sealing)
    ∷ step MakerBad no_notice (λ x. not (sound x.found.maker))
    ∷ step OutsidePeriod with_notice (λ x. not (in_period x (signing x)))
    ∷ step SealWithdrawn with_notice (λ x. withdrawn_by x.found.seal (signing x))
    -- e, f
    ∷ step SignerBad with_notice (λ x. not (sound x.found.signer))
    ∷ step OutsideDates with_notice (λ x. not (within_dates x.found.signer.dates (signing x)))
    ∷ step SignerRevoked with_notice (λ x. revoked_by x.found.signer.revocation (signing x))
    -- g, h
    ∷ step DigestDiffers with_notice (λ x. not (same x.original_digest (the OriginalDigest x)))
    ∷ step StampBad with_notice (λ x. stamped x && not (at_stamp x.found.stamp.state (λ t. true)))
    ∷ step AfterStamp with_notice (λ x. stamped x && at_stamp x.found.stamp.state (λ t. not (not_later (signing x) t)))
    ∷ step SignerOutAtStamp with_notice (λ x. stamped x && at_stamp x.found.stamp.state (λ t. not (in_force x.found.signer t)))
    ∷ []

abbrev pub signature_rules : Rulebook
signature_rules = record { layout = signature; steps = signature_steps; passed = step Valid with_notice (λ x. true) }

-- ---- the seal verdict (000, 6.3): "It tests no withdrawal and gives no notice"

abbrev seal_steps : List (Step Facts)
seal_steps =
    step SealBad no_notice (λ x. not x.found.sealing)
    ∷ step MakerBad no_notice (λ x. not (sound x.found.maker))
    ∷ step MakerOutOfForce no_notice (λ x. not (in_force x.found.maker (now x)))
    ∷ step OutsidePeriod no_notice (λ x. not (in_period x (now x)))
    ∷ []

abbrev pub seal_rules : Rulebook
seal_rules = record { layout = seal; steps = seal_steps; passed = step Valid no_notice (λ x. true) }

-- ---- the answer

-- "exactly when the maker's certificate is out of force now and at signing"
unfoldable pub maker_out : Facts → Bool
maker_out x = not (in_force x.found.maker (now x)) && not (in_force x.found.maker (signing x))

abbrev pub judgement : Verdict → Bool → Judgement
judgement v notice = record { verdict = v; notice = notice }

-- the verdict of the first failing step, and the notice
unfoldable pub judged : Rulebook → Facts → Answer Judgement
judged b x = let s : Step Facts = first_failing b.steps b.passed x in Ok (judgement s.verdict (s.carries && maker_out x))

-- "after refusals of the record, then 18"
unfoldable pub weigh : (b : Rulebook) → Res (Values b.layout) → Findings → List ℕ → List ℕ → Answer Judgement
weigh b (fault n p) f original signer = refused n p
weigh b (good v) f original signer = pick (all_real f) (judged b (facts_of b.layout v f original signer)) (refused UnrealTime 0)

unfoldable pub verdict : Rulebook → List ℕ → Findings → List ℕ → List ℕ → Answer Judgement
verdict b w f original signer = weigh b (read_record b.layout w) f original signer

-- ---- a verdict in the paper's terms

abbrev pub told_verdict : Answer Judgement → Told
told_verdict (Ok j) = told_one (verdict_number j.verdict) (bit j.notice)
told_verdict (Err e) = refusal e.reason e.place
