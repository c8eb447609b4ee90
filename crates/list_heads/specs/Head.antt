-- What the head of a list answers. Assumes nothing.
-- Nobody has to believe this page: it names what `Scan` says.
use Rattle.std.specs.Prelude.{ℕ, Bool, ◌||◌, List, ltb, Ok}
use Rattle.terms.specs.declared.Reason.TheVariants.{NoItem}
use Rattle.terms.specs.Answer.{pick, Answer, refused}
use Rattle.heads.specs.Scan.{head_at, span}
use Rattle.heads.specs.declared.Span.{Span}
use Rattle.layouts.specs.Scan.{then_seen}

-- the head of a list: 15 where it has no item and needs one
unfoldable pub list_head_at : ℕ → Bool → List ℕ → ℕ → ℕ → Answer Span
list_head_at t o s p e = then_seen (head_at t s p e) λ a z. pick (o || ltb a z) (Ok (span a z)) (refused NoItem p)
