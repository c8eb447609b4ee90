-- The end of a window: the nearer of an end and the slice's own. Assumes nothing.
use Rattle.std.specs.Prelude.{ℕ, ltb}
use Rattle.terms.specs.Answer.{pick}

unfoldable pub clamp : ℕ → ℕ → ℕ
clamp e n = pick (ltb e n) e n
