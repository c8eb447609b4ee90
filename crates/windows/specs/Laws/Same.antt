-- Two windows byte by byte. Assumes nothing.
use Rattle.std.specs.Prelude.{◌≡◌, refl, ℕ, ◌&&◌, List, [], ◌∷◌, nat_eq}
use Rattle.std.proofs.Common.{ap}
use Rattle.std.specs.Cmp.Lexicographic.{pointwise}
use Rattle.terms.specs.Answer.{same}

-- what `==` says of two slices of bytes
pub pointwise_same : (w v : List ℕ) → pointwise nat_eq w v ≡ same w v
unfolding same
pointwise_same [] [] = refl
pointwise_same [] (y ∷ v) = refl
pointwise_same (x ∷ w) [] = refl
pointwise_same (x ∷ w) (y ∷ v) = ap (λ r. nat_eq x y && r) (pointwise_same w v)
