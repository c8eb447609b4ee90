-- `run_walks::whole`: the loop keeps that what is told from the position on, with the records before it, is the whole answer.
use Rattle.run_walks.specs.Laws.{whole_start, whole_over, whole_refused, whole_on, record_less, record_more}
use borrow.Author.Rules.{rules}
use Rattle.run_walks.proofs.whole.Goals as goal

pub loop-position-init : goal.loop-position-init
loop-position-init c = (search (rules, whole_start), search rules)

pub loop-position-smaller : goal.loop-position-smaller
loop-position-smaller c = search (rules, record_less)

pub loop-position-preserved : goal.loop-position-preserved
loop-position-preserved c = (search (rules, whole_on), search (rules, record_more))

pub returns : goal.returns
returns c = search (rules, whole_over)

pub returns-in-Err : goal.returns-in-Err
returns-in-Err c = search (rules, whole_refused)
