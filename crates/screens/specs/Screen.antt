-- The row of what stands on a line of a screen. Assumes nothing.
use Rattle.screen_rows.specs.Screen.{row_for}
use Rattle.screen_rows.specs.declared.Row.{Row}
use Rattle.screens.specs.declared.Line.{Line}

-- the row of what stands on a line
abbrev pub row_in : Line → Row
row_in x = row_for x.name x.depth x.shows
