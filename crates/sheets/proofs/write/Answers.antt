-- `sheets::write`: the sheet is read, then its record is sent.
use Rattle.sheets.specs.Laws.{write_refused, write_kept, write_sent, write_stored}
use borrow.Author.Rules.{rules}
use Rattle.sheets.proofs.write.Goals as goal

pub returns-in_err-sheet : goal.returns-in_err-sheet
returns-in_err-sheet c = record { result_value = search (rules, write_refused, c.in_err-sheet.was); record_after = search (rules, write_kept, c.in_err-sheet.was) }

pub returns : goal.returns
returns c = record { result_value = search (rules, write_sent, c.in_ok-sheet.was); record_after = search (rules, write_stored, c.in_ok-sheet.was) }
