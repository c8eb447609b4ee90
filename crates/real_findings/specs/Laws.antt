-- The times in the findings, part by part. Assumes nothing.
use Rattle.std.specs.Prelude.{◌≡◌, refl, ℕ, Bool, true, false, ◌&&◌, List, [], ◌∷◌, ◌++◌}
use Rattle.std.proofs.Math.Path.{ap}
use Rattle.std.proofs.Common.{◌∙◌}
use Rattle.terms.specs.Answer.{every}
use Rattle.contents.specs.Time.{is_real}
use Rattle.verdicts.specs.declared.Findings.{Findings}
use Rattle.verdicts.specs.Findings.{revocation_times, certificate_times, stamp_times, times_of, all_real}

every_append : (xs ys : List ℕ) → every is_real (xs ++ ys) ≡ every is_real xs && every is_real ys
unfolding every
every_append [] ys = refl
every_append (x ∷ xs) ys = ap (λ (b : Bool). is_real x && b) (every_append xs ys) ∙ assoc (is_real x) (every is_real xs) (every is_real ys)
  where
    assoc : (a b c : Bool) → a && (b && c) ≡ (a && b) && c
    assoc true b c = refl
    assoc false b c = refl

-- all of them, in five parts
pub five : (f : Findings) → all_real f ≡ is_real f.now && (((every is_real (certificate_times f.maker) && every is_real (certificate_times f.signer)) && every is_real (revocation_times f.seal.withdrawn)) && every is_real (stamp_times f.stamp.state))
unfolding all_real times_of every
five f =
    let m = certificate_times f.maker in
    let s = certificate_times f.signer in
    let r = revocation_times f.seal.withdrawn in
    let t = stamp_times f.stamp.state in
    ap (λ (b : Bool). is_real f.now && b) (every_append (m ++ s ++ r) t ∙ ap (λ (b : Bool). b && every is_real t) (every_append (m ++ s) r ∙ ap (λ (b : Bool). b && every is_real r) (every_append m s)))
