-- `grounds::read`: by the table, or the refusal.
use Rattle.terms.specs.Laws.Answer.{handed_on}
use Rattle.grounds.specs.Laws.{ground_read, ground_refused}
use borrow.Author.Rules.{rules}
use Rattle.grounds.proofs.read.Goals as goal

pub returns : goal.returns
returns c = let h = c.in_ok-reading.was in search (rules, ground_read)

pub returns-in_err-reading : goal.returns-in_err-reading
returns-in_err-reading c = let h = c.in_err-reading.was in let k = handed_on c.from_residual.result c.in_err-reading.field-0.0 c.from_residual.ensures in rw k (search (rules, ground_refused))
