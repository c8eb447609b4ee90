-- `stores::repeated`: as often as is left.
use Rattle.std.proofs.Common.{◌≡◌, ◌-◌, replicate}
use Rattle.stores.specs.Store.{puts}
use Rattle.stores.proofs.repeated.Given as goal

abbrev pub invariant-loop : goal.invariant-loop
invariant-loop l = puts (replicate l.n l.b) l.initial.dst l.o ≡ puts (replicate (l.n - l.counter) l.b) l.dst l.p
