-- `spans::in_sheet`: where it lies in its section.
use borrow.Author.Rules.{rules}
use Rattle.spans.specs.Laws.{sheet_none, sheet-there}
use Rattle.spans.proofs.in_sheet.Goals as goal

pub returns-in-Ok : goal.returns-in-Ok
returns-in-Ok c = search (rules, sheet-there)

pub returns-in-Err : goal.returns-in-Err
returns-in-Err c = search (rules, sheet_none)
