-- `utf8::followed`: the loop keeps that the second byte and the tails that were passed stand there, and what the others decide.
use Rattle.utf8.specs.Laws.{Tailed}
use Rattle.utf8.proofs.followed.Given as goal

abbrev pub invariant-loop-k : goal.invariant-loop-k
invariant-loop-k l = Tailed (l.low, l.high) l.tails l.w l.i l.k
