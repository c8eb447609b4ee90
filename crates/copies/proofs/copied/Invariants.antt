-- `copies::copied`: what is left of the slice is still to be stored; past the end it is counted alone.
use Rattle.std.proofs.Common.{◌≡◌, drop}
use Rattle.stores.specs.Store.{puts}
use Rattle.copies.proofs.copied.Given as goal

abbrev pub invariant-loop-b : goal.invariant-loop-b
invariant-loop-b l = puts l.w l.initial.dst l.o ≡ puts (drop l.b-index l.w) l.dst l.p
