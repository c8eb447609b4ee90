-- The row of a line, evaluated. Assumes nothing.
use Rattle.std.specs.Prelude.{◌≡◌, refl, true}
use Rattle.terms.specs.declared.Field.TheVariants.{Stamp}
use Rattle.screen_rows.specs.declared.Row.{Row}
use Rattle.screen_rows.specs.declared.Shows.TheVariants.{Bytes}
use Rattle.screens.specs.Screen.{row_in}
use Rattle.screens.specs.declared.Line.{Line}

abbrev line : Line
line = record { name = Stamp; depth = 1; shows = Bytes; there = true; start = 2; length = 3; items = 4 }

abbrev row : Row
row = record { 0 = Stamp; 1 = 1; 2 = Bytes }

row_of-the-line : row_in line ≡ row
row_of-the-line = refl
