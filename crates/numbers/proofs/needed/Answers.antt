-- `numbers::needed`: what is left has the same content.
use borrow.Author.Rules.{rules}
use Rattle.numbers.specs.Laws.{shrink_on, shrink_stops, shrink_end}
use Rattle.numbers.proofs.needed.Goals as goal

pub loop-rest-preserved : goal.loop-rest-preserved
loop-rest-preserved c = search (rules, shrink_on)

pub returns-then-is_needed : goal.returns-then-is_needed
returns-then-is_needed c = search (rules, shrink_stops)

pub returns-in_default : goal.returns-in_default
returns-in_default c = search (rules, shrink_end)
