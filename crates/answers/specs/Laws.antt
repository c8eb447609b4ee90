-- What is said of a content, by its cases. Assumes nothing.
use Rattle.std.specs.Prelude.{◌≡◌, ℕ, ◌-◌, Bool, List, [], ◌∷◌, Ok, Err}
use Rattle.std.proofs.Math.Seq.{slice}
use Rattle.terms.specs.Answer.{same, Answer}
use Rattle.terms.specs.declared.Refusal.{Refusal}
use Rattle.layouts.specs.Scan.{judged_at}
use Rattle.primitives.specs.declared.Content.{Content}
use Rattle.primitives.specs.declared.Content.TheVariants as content
use Rattle.primitives.specs.Primitive.{says}
use Rattle.heads.specs.Scan.{span}

pub content_says : (s : List ℕ) (c : Content) (a z : ℕ) (w : List ℕ) (t : Bool) → w ≡ slice a z s → t ≡ same w (0x01 ∷ []) → t ≡ says c (slice a z s)
content_says s content.Kind1 a z w t i h = rw (← i) h

module _ (c : Answer (Unit {0})) (a z : ℕ) where
  pub judged_fine : (u : Unit {0}) → c ≡ Ok u → Ok (span a z) ≡ judged_at c a z
  unfolding judged_at
  judged_fine u i = rw i

  pub judged-wrong : (r : Refusal) → c ≡ Err r → Err r ≡ judged_at c a z
  unfolding judged_at
  judged-wrong r i = rw i
