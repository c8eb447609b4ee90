-- `leaves::leaf`: the head, then the rule of its content; its value stands behind what its content begins with.
use Rattle.leaves.specs.Laws.{leaf_refused, leaf_judged, fits_behind}
use borrow.Author.Rules.{rules}
use Rattle.leaves.proofs.leaf.Goals as goal

pub returns-in_err-a : goal.returns-in_err-a
returns-in_err-a c = search (rules, leaf_refused)

pub overflow_add-a : goal.overflow_add-a
overflow_add-a c = search (rules, fits_behind, c.in_ok-a.was)

pub returns : goal.returns
returns c = search (rules, leaf_judged, c.in_ok-a.was)
