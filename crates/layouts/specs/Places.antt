-- The table of places that a reader answers with: under each name four numbers, whether the field is there, where it starts,
-- how many bytes it has, and of a list how many items; and, after them, the index of the item that is wanted of a list. Assumes nothing.
use Rattle.std.specs.Prelude.{◌≡◌, ℕ, ◌+◌, ◌*◌, List, [], ◌∷◌, length, get_or}
use Rattle.std.proofs.Math.Option.{Option, none, some}
use Rattle.terms.specs.declared.Field.{Field}
use Rattle.terms.specs.Names.{code, names_count}
use Rattle.layouts.specs.Fields.{Entry, is_field, first}

-- the numbers of the table
abbrev numbers_each : ℕ
numbers_each = 4

-- where the index that is wanted stands
abbrev pub wanted_at : ℕ
wanted_at = numbers_each * names_count

abbrev pub table_size : ℕ
table_size = wanted_at + 1

unfoldable pub wanted : List ℕ → ℕ
wanted d = get_or d wanted_at 0

-- where a name's four numbers start
unfoldable pub slot : Field → ℕ
slot f = numbers_each * code f

unfoldable pub under : Field → List ℕ → List ℕ
under f d = get_or d (slot f) 0 ∷ get_or d (slot f + 1) 0 ∷ get_or d (slot f + 2) 0 ∷ get_or d (slot f + 3) 0 ∷ []

-- what is to stand there: of a field that is absent zeros
abbrev pub numbers_of : Option Entry → List ℕ
numbers_of none = 0 ∷ 0 ∷ 0 ∷ 0 ∷ []
numbers_of (some x) = 1 ∷ x.place ∷ length x.bytes ∷ x.items ∷ []

-- the fields of an index, each under its name
abbrev pub Placed : ℕ → List Entry → List ℕ → Type 0
Placed k xs d = (wanted d ≡ k) × ((f : Field) → under f d ≡ numbers_of (first (is_field f k) xs))
