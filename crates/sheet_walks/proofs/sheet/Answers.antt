-- `sheet_walks::sheet`: the row, then nothing after it.
use Rattle.sheet_walks.specs.Laws.{sheet_refused, sheet_left, sheet-whole}
use borrow.Author.Rules.{rules}
use Rattle.sheet_walks.proofs.sheet.Goals as goal

pub returns-in_err-q : goal.returns-in_err-q
returns-in_err-q c = search (rules, sheet_refused)

pub returns-then-q-s : goal.returns-then-q-s
returns-then-q-s c = search (rules, sheet_left)

pub returns : goal.returns
returns c = search (rules, sheet-whole, c.in_ok-q.was)
