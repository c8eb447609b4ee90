-- The answer is the first failing row of any table, and the notice goes with it as document 01 says. Assumes nothing.
use Rattle.std.specs.Prelude.{◌≡◌, ◌⊎◌, ℕ, Bool, not, ◌&&◌, ◌||◌, T, leb, eqb}
use Rattle.std.proofs.Math.Path.{refl}
use Rattle.std.proofs.Common.{sym, subst, inl, inr}
use Rattle.std.proofs.Math.Bool.{true, false}
use Rattle.std.proofs.Math.Option.{Option, none, some}
use mathlib.Core.List.{List, [], ◌∷◌}
use Rattle.verdicts.specs.declared.Verdict.TheVariants.{Valid, OutsidePeriod, StampBad, SignerOutAtStamp}
use Rattle.terms.specs.declared.Reason.{Reason}
use Rattle.terms.specs.declared.Reason.TheVariants.{UnrealTime}
use Rattle.terms.specs.Answer.{good, fault, every, pick, refused}
use Rattle.terms.specs.Laws.Answer.{never, and_l, and_r, pick_yes, pick_no}
use Rattle.layouts.specs.Layout.{Values, All}
use Rattle.layouts.specs.Fields.{first}
use Rattle.layouts.proofs.Laws.Fields.{None, First, Sought, first-sought, first_holds}
use Rattle.verdicts.specs.Findings.{all_real}
use Rattle.verdicts.specs.Verdict.{verdict_number, Step, or_else, first_failing, Facts, facts_of, stamped, Rulebook, signature_rules, seal_rules, judged, weigh}
use Rattle.verdicts.specs.declared.Findings.{Findings}

-- ---- the first failing row

-- the first row that fails; or none does, and it is `passed`
abbrev pub FirstFailing : {A : Type 0} → List (Step A) → Step A → A → Step A → Type 0
FirstFailing ss passed x s = First (λ y. y.fails x) ss s ⊎ (None (λ y. y.fails x) ss × (s ≡ passed))

pub first-failing : {A : Type 0} (ss : List (Step A)) (passed : Step A) (x : A) → FirstFailing ss passed x (first_failing ss passed x)
unfolding first_failing or_else
first-failing {A} ss passed x = go (first (λ s. s.fails x) ss) (first-sought (λ s. s.fails x) ss)
  where
    go : (o : Option (Step A)) → Sought (λ s. s.fails x) ss o → FirstFailing ss passed x (or_else o passed)
    go none h = inr (h, refl)
    go (some s) h = inl h

-- what holds of every row holds of the answer
failing_holds : {A : Type 0} (P : Step A → Type 0) (ss : List (Step A)) (passed : Step A) (x : A) → All P ss → P passed → P (first_failing ss passed x)
failing_holds {A} P ss passed x h k = go (first_failing ss passed x) (first-failing ss passed x)
  where
    go : (s : Step A) → FirstFailing ss passed x s → P s
    go s (inl f) = first_holds P (λ y. y.fails x) ss s h f
    go s (inr (n, e)) = subst P (sym e) k

-- ---- the notice, by the number

-- "A notice goes with 0 and 26 to 34"
unfoldable pub takes_notice : ℕ → Bool
takes_notice n = eqb n (verdict_number Valid) || (leb (verdict_number OutsidePeriod) n && leb n (verdict_number SignerOutAtStamp))

same_bool : Bool → Bool → Bool
same_bool true b = b
same_bool false b = not b

same_bool_eq : (a b : Bool) → T (same_bool a b) → a ≡ b
unfolding same_bool
same_bool_eq true true h = refl
same_bool_eq true false h = absurd h
same_bool_eq false true h = absurd h
same_bool_eq false false h = refl

-- by one test of the table's rows
module _ (f : Step Facts → Bool) where
  agrees : Step Facts → Bool
  agrees s = same_bool s.carries (f s)

  rows_agree : (ss : List (Step Facts)) → T (every agrees ss) → All (λ s. s.carries ≡ f s) ss
  unfolding every agrees
  rows_agree [] h = tt
  rows_agree (s ∷ ss) h = (same_bool_eq s.carries (f s) (and_l (agrees s) (every agrees ss) h), rows_agree ss (and_r (agrees s) (every agrees ss) h))

  carried : (b : Rulebook) (x : Facts) → T (every agrees (b.passed ∷ b.steps)) → (first_failing b.steps b.passed x).carries ≡ f (first_failing b.steps b.passed x)
  carried b x h = let a = rows_agree (b.passed ∷ b.steps) h in failing_holds (λ s. s.carries ≡ f s) b.steps b.passed x a.1 a.0

-- the signature's table carries it so, and the seal's not at all
pub signature-notice : (x : Facts) → (first_failing signature_rules.steps signature_rules.passed x).carries ≡ takes_notice (verdict_number (first_failing signature_rules.steps signature_rules.passed x).verdict)
unfolding takes_notice same_bool every agrees
signature-notice x = carried (λ s. takes_notice (verdict_number s.verdict)) signature_rules x tt

pub seal-notice : (x : Facts) → (first_failing seal_rules.steps seal_rules.passed x).carries ≡ false
unfolding same_bool every agrees
seal-notice x = carried (λ s. false) seal_rules x tt

-- ---- rows that cannot fail

-- a table without some of its rows
unfoldable pub without : {A : Type 0} → (Step A → Bool) → List (Step A) → List (Step A)
without k [] = []
without k (s ∷ ss) = pick (k s) (without k ss) (s ∷ without k ss)

module _ {A : Type 0} (k : Step A → Bool) where
  none_left : (ss : List (Step A)) → All (λ s. k s ≡ false) (without k ss)
  unfolding without pick
  none_left [] = tt
  none_left (s ∷ ss) = go (k s) refl (none_left ss)
    where
      go : (b : Bool) → k s ≡ b → All (λ s. k s ≡ false) (without k ss) → All (λ s. k s ≡ false) (pick b (without k ss) (s ∷ without k ss))
      go true e h = h
      go false e h = (e, h)

  -- rows that do not fail may be left out
  first-without : (x : A) (ss : List (Step A)) → All (λ s. k s ≡ true → s.fails x ≡ false) ss → first (λ s. s.fails x) ss ≡ first (λ s. s.fails x) (without k ss)
  unfolding without first pick
  first-without x [] h = refl
  first-without x (s ∷ ss) h = go (k s) h.0 (first-without x ss h.1)
    where
      go : (b : Bool) → (b ≡ true → s.fails x ≡ false) → first (λ s. s.fails x) ss ≡ first (λ s. s.fails x) (without k ss)
          → pick (s.fails x) (some s) (first (λ s. s.fails x) ss) ≡ first (λ s. s.fails x) (pick b (without k ss) (s ∷ without k ss))
      go true f e = rw (f refl) e
      go false f e = rw e

  failing_without : (x : A) (ss : List (Step A)) (passed : Step A) → All (λ s. k s ≡ true → s.fails x ≡ false) ss → first_failing ss passed x ≡ first_failing (without k ss) passed x
  unfolding first_failing
  failing_without x ss passed h = rw (first-without x ss h)

-- ---- with no stamp in the record

-- "32 to 34"
unfoldable pub is_of_stamp : ℕ → Bool
is_of_stamp n = leb (verdict_number StampBad) n && leb n (verdict_number SignerOutAtStamp)

abbrev pub unstamped_steps : List (Step Facts)
unstamped_steps = without (λ s. is_of_stamp (verdict_number s.verdict)) signature_rules.steps

another : {X : Type 0} → false ≡ true → X
another e = never (cc)

-- the answer is the first failing row of the table without those three, and has none of their numbers
module _ (x : Facts) (h : stamped x ≡ false) where
  stamp_rows_pass : All (λ s. is_of_stamp (verdict_number s.verdict) ≡ true → s.fails x ≡ false) signature_rules.steps
  unfolding is_of_stamp
  stamp_rows_pass =
      (another, (another, (another, (another, (another, (another, (another, (another, (another, (another, (λ e. rw h, (λ e. rw h, (λ e. rw h, tt)))))))))))))

  pub unstamped_answer : first_failing signature_rules.steps signature_rules.passed x ≡ first_failing unstamped_steps signature_rules.passed x
  unstamped_answer = failing_without (λ s. is_of_stamp (verdict_number s.verdict)) x signature_rules.steps signature_rules.passed stamp_rows_pass

  pub unstamped_number : is_of_stamp (verdict_number (first_failing signature_rules.steps signature_rules.passed x).verdict) ≡ false
  unfolding is_of_stamp
  unstamped_number =
      rw unstamped_answer
      (failing_holds (λ s. is_of_stamp (verdict_number s.verdict) ≡ false) unstamped_steps signature_rules.passed x (none_left (λ s. is_of_stamp (verdict_number s.verdict)) signature_rules.steps) refl)

-- ---- what the verdict is, case by case

module _ (b : Rulebook) where
  pub weigh_refused : (n : Reason) (p : ℕ) (f : Findings) (original signer : List ℕ) → weigh b (fault n p) f original signer ≡ refused n p
  unfolding weigh
  weigh_refused n p f original signer = refl

  pub weigh-judged : (v : Values b.layout) (f : Findings) (original signer : List ℕ) → T (all_real f) → weigh b (good v) f original signer ≡ judged b (facts_of b.layout v f original signer)
  unfolding weigh
  weigh-judged v f original signer h = pick_yes (all_real f) _ _ h

  pub weigh-unreal : (v : Values b.layout) (f : Findings) (original signer : List ℕ) → T (not (all_real f)) → weigh b (good v) f original signer ≡ refused UnrealTime 0
  unfolding weigh
  weigh-unreal v f original signer h = pick_no (all_real f) _ _ h
