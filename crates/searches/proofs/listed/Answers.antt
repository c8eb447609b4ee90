-- `searches::listed`: the loop keeps that what is found from `p` on among the entries left is the whole answer.
use Rattle.searches.specs.Laws.{listed_out, listed_end, listed_on}
use borrow.Author.Rules.{rules}
use Rattle.searches.proofs.listed.Goals as goal

pub returns-then-end-p : goal.returns-then-end-p
returns-then-end-p c = search (rules, listed_end)

pub loop-preserved : goal.loop-preserved
loop-preserved c = search (rules, listed_on)

pub returns : goal.returns
returns c = search (rules, listed_out)
