-- `times::part_at` reads all digits, then tests the bounds; `All-first` says that the machine of the rules comes to the same. The loop's invariant: what is left to read leads to the whole.
use Rattle.times.specs.Laws.Parts.{Going}
use Rattle.times.proofs.part_at.Given as goal

abbrev pub invariant-loop-j : goal.invariant-loop-j
invariant-loop-j l = Going l.k l.i l.w l.n l.j
