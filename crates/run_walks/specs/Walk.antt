-- A run from a position on, which the loop over its records keeps. Assumes nothing.
use Rattle.std.specs.Prelude.{ℕ, ◌+◌, List, length, drop}
use Rattle.terms.specs.Numbers.{done}
use Rattle.terms.specs.Answer.{Told, told_one}
use Rattle.layouts.specs.Layout.{Members, Values}
use Rattle.runs.specs.Run.{Ran, whole, stopped, run_from, refusal_after}

-- the records from a position on
unfoldable pub run_at : (r : Members) → List ℕ → ℕ → Ran (Values r)
run_at r s p = run_from (length (drop p s)) r (drop p s) p

-- what is told of a run when so many records stand before them
unfoldable pub told_behind : {A : Type 0} → ℕ → Ran A → Told
told_behind k (whole vs) = told_one done (k + length vs)
told_behind k (stopped vs n p) = refusal_after n p (k + length vs)
