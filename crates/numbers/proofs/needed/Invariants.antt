-- `numbers::needed`: what is left has the same content.
use Rattle.std.proofs.Common.{◌≡◌, ◌≤◌, length}
use Rattle.contents.specs.Integer.{shrink}
use Rattle.numbers.proofs.needed.Given as goal

abbrev pub invariant-loop-rest : goal.invariant-loop-rest
invariant-loop-rest l = record { short : length l.rest ≤ length l.c; same : shrink l.c ≡ shrink l.rest }

abbrev pub decreases-loop-rest : goal.decreases-loop-rest
decreases-loop-rest l = length l.rest
