-- What a primitive item that is read and noted answers, and the table of places after it. Assumes nothing.
-- Nobody has to believe this page: it names what `Scan` and `Marks` say.
use Rattle.std.specs.Prelude.{ℕ, List}
use Rattle.terms.specs.declared.Field.{Field}
use Rattle.terms.specs.Answer.{Answer}
use Rattle.contents.specs.Leaves.{Leaf}
use Rattle.layouts.specs.Scan.{leaf_at}
use Rattle.layouts.specs.Marks.{leaf_marks}
use Rattle.heads.specs.declared.Span.{Span}

unfoldable pub leaf_walk : Leaf → Field → ℕ → List ℕ → ℕ → ℕ → List ℕ → Answer Span × List ℕ
leaf_walk l f k s p e d = (leaf_at l s p e, leaf_marks l f k s p e d)
