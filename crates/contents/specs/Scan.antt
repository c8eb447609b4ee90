-- A content by positions: what code answers of the content from `a` to `z` of a slice, in the item whose tag stands at `p`. Assumes nothing.
use Rattle.std.specs.Prelude.{ℕ, ◌+◌, List, [], ◌∷◌, length, take, Ok}
use Rattle.std.proofs.Math.Seq.{slice}
use Rattle.terms.specs.declared.Reason.TheVariants.{BadBits}
use Rattle.terms.specs.Answer.{pick, same, Answer, refused}
use Rattle.contents.specs.Content.{Check, fine, wrong, place_of}

abbrev pub checked : Check → ℕ → ℕ → Answer (Unit {0})
checked fine p a = Ok tt
checked (wrong n x) p a = refused n (place_of x p a)

unfoldable pub checked_at : (List ℕ → Check) → List ℕ → ℕ → ℕ → ℕ → Answer (Unit {0})
checked_at rule s p a z = checked (rule (slice a z s)) p a

-- what it must begin with, then the rule of the value behind that
unfoldable pub behind_at : List ℕ → (List ℕ → Check) → List ℕ → ℕ → ℕ → ℕ → Answer (Unit {0})
behind_at front rule s p a z = pick (same (take (length front) (slice a z s)) front) (checked_at rule s p (a + length front) z) (refused BadBits p)

abbrev pub content_at : List ℕ → (List ℕ → Check) → List ℕ → ℕ → ℕ → ℕ → Answer (Unit {0})
content_at [] rule s p a z = checked_at rule s p a z
content_at (b ∷ front) rule s p a z = behind_at (b ∷ front) rule s p a z
