-- `copies::copy`: what is left of the slice is still to be stored, and has room.
use Rattle.std.proofs.Common.{◌≡◌, ◌+◌, length, drop}
use Rattle.stores.specs.Store.{puts}
use Rattle.copies.proofs.copy.Given as goal

abbrev pub invariant-loop-i : goal.invariant-loop-i
invariant-loop-i l = (length l.dst ≡ length l.initial.dst) × (puts l.w l.initial.dst l.o ≡ puts (drop l.i l.w) l.dst (l.o + l.i))
