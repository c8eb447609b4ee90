-- `run_walks::whole`: the loop keeps that what is told from the position on, with the records before it, is the whole answer.
use Prim.Native.Nat.{◌-◌, ◌≤◌}
use mathlib.Core.Path.{◌≡◌}
use lib.ListN.{length}
use Rattle.records.specs.Handing.{layout_of}
use Rattle.runs.specs.Run.{run_answer}
use Rattle.run_walks.specs.Walk.{run_at, told_behind}
use Rattle.run_walks.proofs.whole.Given as goal

abbrev pub invariant-loop-position : goal.invariant-loop-position
invariant-loop-position l = (told_behind l.before (run_at (layout_of l.x) l.run l.position) ≡ run_answer (layout_of l.x) l.run) × (l.before ≤ l.position)

abbrev pub decreases-loop-position : goal.decreases-loop-position
decreases-loop-position l = length l.run - l.position
