-- `entries::leaf`: the value that was taken is noted, or the name that is refused.
use borrow.Author.Rules.{rules}
use Rattle.entries.specs.Laws.{leaf_refused, leaf_taken}
use Rattle.entries.proofs.leaf.Goals as goal

pub returns-in_err-value : goal.returns-in_err-value
returns-in_err-value c = search (rules, leaf_refused)

pub returns : goal.returns
returns c = search (rules, leaf_taken, c.in_ok-value.was)
