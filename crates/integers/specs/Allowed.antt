-- The numbers that are allowed. Assumes nothing.
use Rattle.std.specs.Prelude.{Bool, ℤ}
use Rattle.contents.specs.Integer.{any, is_kind, is_millimetres}
use Rattle.integers.specs.declared.Allowed.{Allowed}
use Rattle.integers.specs.declared.Allowed.TheVariants.{Any, Kind, Millimetres}

abbrev pub allowed_of : Allowed → ℤ → Bool
allowed_of Any = any
allowed_of Kind = is_kind
allowed_of Millimetres = is_millimetres
