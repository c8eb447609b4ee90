-- `cuts::span`: inside the record, else nothing.
use Rattle.cuts.specs.Laws.{cut_outside, cut_inside}
use native.Mathlib.Omega.{arith}
use mathlib.Core.Path.{refl}
use Rattle.cuts.proofs.span.Goals as goal
use Rattle.cuts.proofs.span.Goals.{else-start-s-via-then-start-s+else-length-s, else-start-s-via-else-start-s}

pub returns-then-length-s : goal.returns-then-length-s
returns-then-length-s c = cut_inside _ _ _ _ (omega arith) (omega arith) refl refl

pub returns : goal.returns
returns c = cut_outside _ _ refl refl _ _ (elim c.else-start-s.branch [ else-start-s-via-then-start-s+else-length-s w ↦ omega arith | else-start-s-via-else-start-s w ↦ omega arith ])
