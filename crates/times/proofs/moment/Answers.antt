-- `times::moment` hands on the number that was read, and 0 where there was none, as `moment_in` does.
use borrow.Author.Rules.{rules}
use Rattle.times.specs.Laws.Whole.{that_moment}
use Rattle.times.proofs.moment.Goals as goal

pub returns : goal.returns
returns c = search (rules, that_moment)
