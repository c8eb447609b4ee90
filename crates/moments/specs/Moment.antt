-- The moment that a value of code is. Assumes nothing.
use Rattle.contents.specs.Time as Time
use Rattle.moments.specs.declared.Moment.{Moment}

abbrev pub moment_in : Moment → Time.Moment
moment_in m = Time.moment m.number
