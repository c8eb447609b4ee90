-- `spans::in_record`: behind what stands before the value in the content.
use borrow.Author.Rules.{rules}
use Rattle.leaves.specs.Laws.{fits_behind}
use Rattle.spans.specs.Laws.{record_none, record_there}
use Rattle.spans.proofs.in_record.Goals as goal

pub overflow_add-result : goal.overflow_add-result
overflow_add-result c = search (rules, fits_behind)

pub returns-in-Ok : goal.returns-in-Ok
returns-in-Ok c = search (rules, record_there)

pub returns-in-Err : goal.returns-in-Err
returns-in-Err c = search (rules, record_none)
