-- `sheets::send`: what was counted says whether it was refused or written.
use Rattle.sheets.specs.Laws.{send_large, send_short, send_all}
use borrow.Author.Rules.{rules}
use Rattle.sheets.proofs.send.Goals as goal

pub returns-then-most-size : goal.returns-then-most-size
returns-then-most-size c = search (rules, send_large)

pub returns-then-dst-size : goal.returns-then-dst-size
returns-then-dst-size c = search (rules, send_short)

pub returns : goal.returns
returns c = search (rules, send_all)
