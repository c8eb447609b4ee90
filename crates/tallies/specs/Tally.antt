-- What a table of places says of a list and of its items. Assumes nothing.
use Rattle.std.specs.Prelude.{ℕ, ◌+◌, Bool, not, List, get_or, eqb, Ok, Some, None}
use Rattle.terms.specs.declared.Field.{Field}
use Rattle.terms.specs.Answer.{pick}
use Rattle.layouts.specs.Places.{slot}
use Rattle.records.specs.Found.{Found}

-- whether a field stands under a name
unfoldable pub is_under : Field → List ℕ → Bool
is_under f d = not (eqb (get_or d (slot f) 0) 0)

unfoldable pub critical_under : Field → Field → List ℕ → Found Bool
critical_under item flag d = pick (is_under item d) (Ok (Some (is_under flag d))) (Ok None)

unfoldable pub count_under : Field → List ℕ → Found ℕ
count_under f d = pick (is_under f d) (Ok (Some (get_or d (slot f + 3) 0))) (Ok None)
