-- `run_walks::step`: the end, the fault, or the record.
use Rattle.run_walks.specs.Laws.{end_told, end_held, fault_told, fault_held, record_order, record_told, record_held}
use borrow.Author.Rules.{rules}
use Rattle.run_walks.proofs.step.Goals as goal

pub returns-then-run-position : goal.returns-then-run-position
returns-then-run-position c = record { answer_value = search (rules, end_told); result_value = search (rules, end_held) }

pub overflow_sub-result : goal.overflow_sub-result
overflow_sub-result c = search (rules, record_order)

pub returns-in-Err : goal.returns-in-Err
returns-in-Err c = record { answer_value = search (rules, fault_told); result_value = search (rules, fault_held) }

pub returns-in-Ok : goal.returns-in-Ok
returns-in-Ok c = record { answer_value = search (rules, record_told); result_value = search (rules, record_held) }
