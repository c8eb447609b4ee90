-- `utf8::followed`: the loop keeps that the second byte and the tails that were passed stand there, and what the others decide.
use borrow.Author.Tests.{not-true}
use Rattle.utf8.specs.Laws.{no_size, tailed_first, tailed_next, tailed_bad, tailed_all}
use borrow.Author.Rules.{rules}
use Rattle.utf8.proofs.followed.Goals as goal

pub returns-then-not-stands : goal.returns-then-not-stands
returns-then-not-stands c = search (rules, no_size, not-true)

pub loop-k-init : goal.loop-k-init
loop-k-init c = search (rules, tailed_first)

pub returns-then-not-stands-2 : goal.returns-then-not-stands-2
returns-then-not-stands-2 c = search (rules, tailed_bad, not-true)

pub loop-k-preserved : goal.loop-k-preserved
loop-k-preserved c = search (rules, tailed_next)

pub returns : goal.returns
returns c = search (rules, tailed_all)
