-- `sheets::fill`: the record is read, then its sheet is sent.
use Rattle.sheets.specs.Laws.{fill_refused, fill_kept, fill-sent, fill-stored}
use borrow.Author.Rules.{rules}
use Rattle.sheets.proofs.fill.Goals as goal

pub returns-in_err-check : goal.returns-in_err-check
returns-in_err-check c = record { result_value = search (rules, fill_refused, c.in_err-check.was); sheet_after = search (rules, fill_kept, c.in_err-check.was) }

pub returns : goal.returns
returns c = record { result_value = search (rules, fill-sent, c.in_ok-check.was); sheet_after = search (rules, fill-stored, c.in_ok-check.was) }
