-- The steps, one by one and in a row. Assumes nothing.
use Rattle.std.specs.Prelude.{◌≡◌, ◌⊎◌, ℕ, Bool, ◌&&◌, List, [], ◌∷◌, Option, Some, None, Ok, Err, is_some}
use Rattle.std.proofs.Math.Path.{refl, sym, ap}
use Rattle.std.proofs.Common.{◌∙◌, inl, inr}
use borrow.Author.Tests.{not-true, not-false}
use Rattle.std.proofs.Math.Bool.{true, false, not}
use Rattle.std.proofs.Math.Option.{some}
use Rattle.verdicts.specs.declared.Verdict.{Verdict}
use Rattle.verdicts.specs.declared.Verdict.TheVariants.{SignatureBad, SignerUnlisted, SealBad, MakerBad, MakerOutOfForce, OutsidePeriod, SealWithdrawn, SignerBad, OutsideDates, SignerRevoked, DigestDiffers, StampBad, AfterStamp, SignerOutAtStamp}
use Rattle.terms.specs.declared.Refusal.{Refusal}
use Rattle.terms.specs.declared.Reason.TheVariants.{UnrealTime}
use Rattle.terms.specs.Answer.{pick, Answer, refused}
use Rattle.layouts.specs.Fields.{first}
use Rattle.contents.specs.Time.{not_later, moment_at}
use Rattle.moments.specs.declared.Moment.{Moment as CodeMoment}
use Rattle.moments.specs.Moment.{moment_in}
use Rattle.verdicts.specs.declared.Findings.{Findings}
use Rattle.verdicts.specs.declared.Judgement.{Judgement}
use Rattle.verdicts.specs.declared.Stamping.TheVariants.{Unchecked, Bad, Good}
use Rattle.verdicts.proofs.Laws.Verdict.{takes_notice, signature-notice, seal-notice}
use Rattle.verdicts.specs.Findings.{between, within_dates, revoked_by, in_force, withdrawn_by, sound, at_stamp, all_real}
use Rattle.verdicts.specs.Verdict.{verdict_number, Step, Facts, facts_of, Rulebook, or_else, first_failing, in_period, maker_out, judgement, judged, weigh, verdict, signature_rules, seal_rules}
use Rattle.grounds.specs.declared.Grounds.{Grounds}
use Rattle.grounds.specs.Ground.{GroundOf}
use Rattle.judges.specs.Step.{row_of, first_of, Of, Tells, Stamped, Comes, Finds, Judges, Weighs}

-- a row's test, by its verdict
row : Unit {0}
unfolding row_of first or_else pick
row = tt

-- ---- each step tells of its row

-- where what the code tests holds, the step passes
module _ (g : Grounds) (f : Findings) (c : Bool) where
  pub signature-told : c ≡ f.signature → Tells signature_rules SignatureBad g f c
  unfolding row Tells
  signature-told h x r i = rw i (ap not h)

  pub listed-told : c ≡ g.listed → Tells signature_rules SignerUnlisted g f c
  unfolding row Tells
  listed-told h x r i = ap not (h ∙ r.3)

  pub seal-told : c ≡ f.sealing → Tells signature_rules SealBad g f c
  unfolding row Tells
  seal-told h x r i = rw i (ap not h)

  pub seal_told_alone : c ≡ f.sealing → Tells seal_rules SealBad g f c
  unfolding row Tells
  seal_told_alone h x r i = rw i (ap not h)

  pub maker_told : c ≡ sound f.maker → Tells signature_rules MakerBad g f c
  unfolding row Tells
  maker_told h x r i = rw i (ap not h)

  pub maker_told_alone : c ≡ sound f.maker → Tells seal_rules MakerBad g f c
  unfolding row Tells
  maker_told_alone h x r i = rw i (ap not h)

  pub force_told : (m : CodeMoment) → moment_in m ≡ moment_at f.now → c ≡ in_force f.maker (moment_in m) → Tells seal_rules MakerOutOfForce g f c
  unfolding row Tells
  force_told m j h x r i = rw (i, ← j) (ap not h)

  pub period_told : c ≡ between (moment_in g.start) (moment_in g.end) (moment_in g.signing) → Tells signature_rules OutsidePeriod g f c
  unfolding row Tells in_period
  period_told h x r i = rw (← r.0, ← r.1, ← r.2) (ap not h)

  pub period_told_now : (m : CodeMoment) → moment_in m ≡ moment_at f.now → c ≡ between (moment_in g.start) (moment_in g.end) (moment_in m) → Tells seal_rules OutsidePeriod g f c
  unfolding row Tells in_period
  period_told_now m j h x r i = rw (← r.0, ← r.1, i, ← j) (ap not h)

  pub signer_told : c ≡ sound f.signer → Tells signature_rules SignerBad g f c
  unfolding row Tells
  signer_told h x r i = rw i (ap not h)

  pub dates_told : c ≡ within_dates f.signer.dates (moment_in g.signing) → Tells signature_rules OutsideDates g f c
  unfolding row Tells
  dates_told h x r i = rw (← r.2, i) (ap not h)

  pub digest-told : c ≡ g.alike → Tells signature_rules DigestDiffers g f c
  unfolding row Tells
  digest-told h x r i = ap not (h ∙ r.4)

and-false : (b : Bool) → b && false ≡ false
and-false true = refl
and-false false = refl

not-not : (b : Bool) → not (not b) ≡ b
not-not true = refl
not-not false = refl

module _ (g : Grounds) (f : Findings) (k : Bool) where
  pub withdrawn-told : k ≡ revoked_by f.seal.withdrawn (moment_in g.signing) → Tells signature_rules SealWithdrawn g f (not k)
  unfolding row Tells withdrawn_by
  withdrawn-told h x r i = rw (← r.2, i) (not-not k ∙ h)

  pub revoked-told : k ≡ revoked_by f.signer.revocation (moment_in g.signing) → Tells signature_rules SignerRevoked g f (not k)
  unfolding row Tells
  revoked-told h x r i = rw (← r.2, i) (not-not k ∙ h)

-- ---- in a row

module _ (b : Rulebook) (g : Grounds) (f : Findings) where
  module _ (v : Verdict) (vs : List Verdict) (c : Bool) (t : Tells b v g f c) where
    pub stops : c ≡ false → Comes b (v ∷ vs) g f v
    unfolding first_of pick Tells Comes
    stops e x r i = rw (← (t x r i), e)

    pub goes_on_lem : (w : Verdict) → c ≡ true → Comes b vs g f w → Comes b (v ∷ vs) g f w
    unfolding first_of pick Tells Comes
    goes_on_lem w e h x r i = rw (← (t x r i), e) (h x r i)

  pub comes_through : Comes b [] g f b.passed.verdict
  unfolding first_of Comes
  comes_through x r i = refl

-- the verdicts of rows in their order are what the first that fails has
by_row : List (Step Facts) → Step Facts → Facts → Verdict
by_row [] z x = z.verdict
by_row (s ∷ ss) z x = pick (s.fails x) s.verdict (by_row ss z x)

by_row_lem : (ss : List (Step Facts)) (z : Step Facts) (x : Facts) → by_row ss z x ≡ (first_failing ss z x).verdict
unfolding by_row first_failing or_else first pick
by_row_lem [] z x = refl
by_row_lem (s ∷ ss) z x = go (s.fails x) (by_row_lem ss z x)
  where
    go : (t : Bool) → by_row ss z x ≡ (first_failing ss z x).verdict → pick t s.verdict (by_row ss z x) ≡ (or_else (pick t (some s) (first (λ y. y.fails x) ss)) z).verdict
    go true h = refl
    go false h = h

-- the verdicts of the two tables, in their order
abbrev signature_verdicts : List Verdict
signature_verdicts =
    SignatureBad ∷ SignerUnlisted ∷ SealBad ∷ MakerBad ∷ OutsidePeriod ∷ SealWithdrawn ∷ SignerBad ∷ OutsideDates ∷ SignerRevoked ∷ DigestDiffers
    ∷ StampBad ∷ AfterStamp ∷ SignerOutAtStamp ∷ []

abbrev seal_verdicts : List Verdict
seal_verdicts = SealBad ∷ MakerBad ∷ MakerOutOfForce ∷ OutsidePeriod ∷ []

module _ (g : Grounds) (f : Findings) (v : Verdict) where
  pub signature-row : Comes signature_rules signature_verdicts g f v → Finds signature_rules g f v
  unfolding first_of row by_row Comes Finds
  signature-row h x r i = h x r i ∙ by_row_lem signature_rules.steps signature_rules.passed x

  pub seal-row : Comes seal_rules seal_verdicts g f v → Finds seal_rules g f v
  unfolding first_of row by_row Comes Finds
  seal-row h x r i = h x r i ∙ by_row_lem seal_rules.steps seal_rules.passed x

-- ---- step h

module _ (g : Grounds) (f : Findings) where
  -- the stamp's time
  pub stamp_none : not g.stamped ≡ true → Stamped g f None
  unfolding Stamped
  stamp_none s k = let e = not-true g.stamped s in rw e

  pub stamp_not_good : (f.stamp.state ≡ Unchecked) ⊎ (f.stamp.state ≡ Bad) → Stamped g f None
  unfolding Stamped at_stamp
  stamp_not_good (inl e) k = rw e (and-false g.stamped)
  stamp_not_good (inr e) k = rw e (and-false g.stamped)

  pub stamp-at : (n : ℕ) (m : CodeMoment) → not g.stamped ≡ false → f.stamp.state ≡ Good n → moment_in m ≡ moment_at n → Stamped g f (Some m)
  unfolding Stamped
  stamp-at n m s e h = (n, not-false g.stamped s, e, h)

  -- 32
  pub stamp_told_none : not g.stamped ≡ true → Tells signature_rules StampBad g f (not g.stamped)
  unfolding row Tells
  stamp_told_none s x r i = let e = not-true g.stamped s in rw (← r.5, e)

  module _ (o : Option CodeMoment) (w : Stamped g f o) where
    pub stamp_told : not g.stamped ≡ false → (c : Bool) → c ≡ is_some o → Tells signature_rules StampBad g f c
    unfolding row Tells Stamped at_stamp
    stamp_told s c h x r i = let e = not-false g.stamped s in rw (h, ← r.5, e, i) (go o w)
      where
        go : (o : Option CodeMoment) → Stamped g f o → not (is_some o) ≡ not (at_stamp f.stamp.state (λ t. true))
        go (Some m) v = rw v.2
        go None v = let e = not-false g.stamped s in let k : at_stamp f.stamp.state (λ t. true) ≡ false = rw e at (v (λ t. true)) in rw k

    -- 33 and 34
    pub after-told_none : o ≡ None → Tells signature_rules AfterStamp g f true
    unfolding row Tells Stamped
    after-told_none e x r i = let v : Stamped g f None = rw e at w in rw (← r.5, i) (sym (v _))

    pub force_told_none : o ≡ None → Tells signature_rules SignerOutAtStamp g f true
    unfolding row Tells Stamped
    force_told_none e x r i = let v : Stamped g f None = rw e at w in rw (← r.5, i) (sym (v _))

    module _ (m : CodeMoment) (d : o ≡ Some m) (c : Bool) where
      pub after-told : c ≡ not_later (moment_in g.signing) (moment_in m) → Tells signature_rules AfterStamp g f c
      unfolding row Tells Stamped at_stamp
      after-told h x r i = let v : Stamped g f (Some m) = rw d at w in rw (← r.5, ← r.2, v.1, i, v.2, ← v.3) (ap not h)

      pub force_told_stamp : c ≡ in_force f.signer (moment_in m) → Tells signature_rules SignerOutAtStamp g f c
      unfolding row Tells Stamped at_stamp
      force_told_stamp h x r i = let v : Stamped g f (Some m) = rw d at w in rw (← r.5, v.1, i, v.2, ← v.3) (ap not h)

-- ---- the answer

-- "out of force now and at signing"
module _ (g : Grounds) (f : Findings) (v : Verdict) (h : Finds signature_rules g f v) (a : Bool) (t : a ≡ takes_notice (verdict_number v)) where
  pub without-notice : a ≡ false → Judges signature_rules g f (judgement v a)
  unfolding Finds Judges judged
  without-notice e x r i = let k : takes_notice (verdict_number v) ≡ false = sym t ∙ e in rw (e, signature-notice x, ← (h x r i), k)

  pub noticed : (b : Bool) → a ≡ true → Of g f (λ x. b ≡ maker_out x) → Judges signature_rules g f (judgement v b)
  unfolding Finds Judges judged
  noticed b e m x r i = let k : takes_notice (verdict_number v) ≡ true = sym t ∙ e in rw (signature-notice x, ← (h x r i), k, ← (m x r i))

module _ (b : Rulebook) (g : Grounds) (f : Findings) (c : Bool) (e : c ≡ all_real f) where
  pub weighs_unreal : not c ≡ true → Weighs b g f (refused UnrealTime 0)
  unfolding Weighs pick
  weighs_unreal h x r i = let k : all_real f ≡ false = not-true (all_real f) (ap not (sym e) ∙ h) in rw k

  pub weighs_judged : (j : Judgement) → not c ≡ false → Judges b g f j → Weighs b g f (Ok j)
  unfolding Weighs Judges pick
  weighs_judged j h y x r i = let k : all_real f ≡ true = not-false (all_real f) (ap not (sym e) ∙ h) in rw k (y x r i)

pub judges_seal : (g : Grounds) (f : Findings) (v : Verdict) → Finds seal_rules g f v → Judges seal_rules g f (judgement v false)
unfolding Finds Judges judged
judges_seal g f v h x r i = rw (seal-notice x, ← (h x r i))

module _ (b : Rulebook) (w original signer : List ℕ) (f : Findings) (o : Answer Grounds) (t : GroundOf b.layout w original signer o) where
  pub verdict_refused : (r : Refusal) → o ≡ Err r → Err r ≡ verdict b w f original signer
  unfolding verdict weigh
  verdict_refused r h = rw (rw h at t)

  pub verdict-read : (g : Grounds) (y : Answer Judgement) → o ≡ Ok g → Weighs b g f y → y ≡ verdict b w f original signer
  unfolding verdict weigh Weighs
  verdict-read g y h z = let u : GroundOf b.layout w original signer (Ok g) = rw h at t in rw u.1 (z (facts_of b.layout u.0 f original signer) (u.2 f) refl)
