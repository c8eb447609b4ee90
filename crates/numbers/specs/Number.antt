-- The number of a content, by positions. Assumes nothing.
use Rattle.std.specs.Prelude.{ℕ, List, ℤ, Option, Some, None}
use Rattle.std.proofs.Math.Seq.{slice}
use Rattle.terms.specs.Answer.{pick}
use Rattle.contents.specs.Integer.{well_formed, value}

-- the number of a content, where it has one
unfoldable pub number_of : List ℕ → Option ℤ
number_of c = pick (well_formed c) (Some (value c)) None

-- the number of the content from one position to another
unfoldable pub number_at : List ℕ → ℕ → ℕ → Option ℤ
number_at s a z = number_of (slice a z s)
