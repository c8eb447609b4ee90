-- `walks::record`: the outermost head, then the row.
use Rattle.walks.specs.Laws.{record_refused, record_row}
use borrow.Author.Rules.{rules}
use Rattle.walks.proofs.record.Goals as goal

pub returns-in_err-inside : goal.returns-in_err-inside
returns-in_err-inside c = search (rules, record_refused)

pub returns : goal.returns
returns c = search (rules, record_row, c.in_ok-inside.was)
