-- `stores::repeated`: as often as is left.
use borrow.Author.Rules.{rules}
use Rattle.stores.specs.Laws.Steps.{repeated_on, repeated_end}
use Rattle.stores.proofs.repeated.Goals as goal

pub loop-preserved : goal.loop-preserved
loop-preserved c = search (rules, repeated_on)

pub returns : goal.returns
returns c = search (rules, repeated_end)
