-- `asked::critical`: number by number.
use Rattle.asked.specs.Laws.{critical-seal, critical_signed}
use borrow.Author.Rules.{rules}
use Rattle.asked.proofs.critical.Goals as goal

pub returns-in_default-eq24 : goal.returns-in_default-eq24
returns-in_default-eq24 c = search (rules, critical-seal)

pub returns-in-Signature-eq37 : goal.returns-in-Signature-eq37
returns-in-Signature-eq37 c = search (rules, critical_signed)
