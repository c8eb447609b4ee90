-- `faults::read`: an accepted record has no fault; a refused one that of the name behind its table.
use borrow.Author.Rules.{rules}
use Rattle.faults.specs.Laws.{fault_told, fault_nothing, fault_whose, fault_places}
use Rattle.faults.proofs.read.Goals as goal

pub returns-then-is_err : goal.returns-then-is_err
returns-then-is_err c = record { outcome_value = search (rules, fault_told); whose_value = search (rules, fault_whose); placed = search (rules, fault_places) }

pub returns : goal.returns
returns c = record { outcome_value = search (rules, fault_told); whose_value = search (rules, fault_nothing); placed = search (rules, fault_places) }
