-- `judges::steps::good_stamp`: by the stamp's state.
use Rattle.judges.specs.Laws.{stamp-at, stamp_none, stamp_not_good}
use borrow.Author.Rules.{rules}
use Rattle.judges.proofs.steps.good_stamp.Goals as goal

pub returns-then-not-g : goal.returns-then-not-g
returns-then-not-g c = search (rules, stamp_none)

pub returns-in-Unchecked : goal.returns-in-Unchecked
returns-in-Unchecked c = search (rules, stamp_not_good)

pub returns-in-Good : goal.returns-in-Good
returns-in-Good c = search (rules, stamp-at)
