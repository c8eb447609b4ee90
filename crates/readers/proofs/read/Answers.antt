-- `readers::read`: a refused record has no place; an accepted one those that were noted.
use Rattle.readers.specs.Laws.{outcome-told, places_refused, places_whole}
use borrow.Author.Rules.{rules}
use Rattle.readers.proofs.read.Goals as goal

pub returns-then-is_err : goal.returns-then-is_err
returns-then-is_err c = record { outcome_value = search (rules, outcome-told); placed = search (rules, places_refused) }

pub returns : goal.returns
returns c = record { outcome_value = search (rules, outcome-told); placed = search (rules, places_whole) }
