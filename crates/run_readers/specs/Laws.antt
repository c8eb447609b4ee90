-- The part of a run that a step hands out. Assumes nothing.
use Rattle.std.specs.Prelude.{◌≡◌, ℕ, ◌+◌, ◌-◌, ◌≤◌, List, Ok, Err, Some, None, Option, Result}
use Rattle.std.proofs.Math.Path.{refl, sym, ap}
use Rattle.std.proofs.Common.{◌∙◌, subst, arith, length-drop}
use Rattle.std.proofs.Math.Option.{none, some}
use Rattle.std.proofs.Math.Option as Maybe
use Rattle.std.proofs.Math.ListN.{length, length-append}
use Rattle.std.specs.Borrow.{Bor}
use Rattle.terms.specs.Answer.{Res, good, fault, Got}
use Rattle.terms.specs.Laws.Answer.{never}
use Rattle.layouts.specs.Layout.{Members, Values}
use Rattle.layouts.specs.Whole.{record_of}
use Rattle.records.specs.Part.{PartOf}
use Rattle.records.specs.declared.Part.{Part}
use Rattle.runs.specs.Run.{here_at, at, told_here, part_here, step_answer, step_part, told_stepped, handed_record}
use Rattle.runs.proofs.Laws.Run.{here_back, record_some}
use Rattle.runs.specs.declared.Stopped.{Stopped}
use Rattle.fields.specs.Handed.{within}
use Rattle.fields.specs.Laws.{within-yes}

-- what a step's answer names is the part that the step hands out
module _ (r : Members) (s : List ℕ) (p k : ℕ) where
  pub answer-names : (y : Result (Option Part) Stopped) → told_stepped y ≡ step_answer r s (at p k) → within (length s) (handed_record y) ≡ step_part r s p
  unfolding step_answer step_part
  answer-names y t = go (here_at r s p) refl y t
    where
      inside : (a : Got (Values r)) → here_at r s p ≡ good (some a) → p + (a.after - p) ≤ length s
      inside a e =
          let b = here_back r s p a e in
          let l : length s - p ≡ length (record_of r a.value) + length a.rest = sym (length-drop p s) ∙ ap length b.0 ∙ length-append (record_of r a.value) a.rest in
          omega (arith, b.2, record_some r a.value)

      go : (x : Res (Maybe.Option (Got (Values r)))) → here_at r s p ≡ x → (y : Result (Option Part) Stopped) → told_stepped y ≡ told_here x (at p k) → within (length s) (handed_record y) ≡ part_here x p
      go (good (some a)) e (Ok (Some q)) h = let i : q.start ≡ p = cc in let j : q.length ≡ a.after - p = cc in rw (i, j) (within-yes (length s) p (a.after - p) (inside a e))
      go (good (some a)) e (Ok None) h = never (cc)
      go (good (some a)) e (Err f) h = never (cc)
      go (good none) e (Ok (Some q)) h = never (cc)
      go (good none) e (Ok None) h = within-yes (length s) 0 0 (omega arith)
      go (good none) e (Err f) h = never (cc)
      go (fault n q) e (Ok (Some o)) h = never (cc)
      go (fault n q) e (Ok None) h = never (cc)
      go (fault n q) e (Err f) h = within-yes (length s) 0 0 (omega arith)

-- and so is the part that is cut out after it
pub handed_out_lem : (r : Members) (s s' z : Bor (List ℕ)) (p k : ℕ) (y : Result (Option Part) Stopped) → s' ≡ s → told_stepped y ≡ step_answer r s.now (at p k)
    → PartOf s' z (within (length s'.now) (handed_record y)) → PartOf s z (step_part r s.now p)
handed_out_lem r s s' z p k y e t h = subst (PartOf s z) (answer-names r s.now p k y t) (rw e at h)
