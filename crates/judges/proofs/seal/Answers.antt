-- `judges::seal`: by the grounds.
use Rattle.terms.specs.Laws.Answer.{handed_on}
use Rattle.judges.specs.Laws.{verdict-read, verdict_refused}
use borrow.Author.Rules.{rules}
use Rattle.judges.proofs.seal.Goals as goal

pub returns : goal.returns
returns c = let h = c.in_ok-grounds.was in search (rules, verdict-read)

pub returns-in_err-grounds : goal.returns-in_err-grounds
returns-in_err-grounds c = let h = c.in_err-grounds.was in let k = handed_on c.from_residual.result c.in_err-grounds.field-0.0 c.from_residual.ensures in rw k (search (rules, verdict_refused))
