-- `values::number`: the number of the part that the field is.
use Rattle.terms.specs.Laws.Answer.{handed_on}
use Rattle.values.specs.Laws.{number-there, number-absent, number_refused}
use borrow.Author.Rules.{rules}
use Rattle.values.proofs.number.Goals as goal

pub returns : goal.returns
returns c = let h = c.in_ok-found.was in search (rules, number-there)

pub returns-in_default : goal.returns-in_default
returns-in_default c = let h = c.in_ok-found.was in search (rules, number-absent)

pub returns-in_err-found : goal.returns-in_err-found
returns-in_err-found c = let h = c.in_err-found.was in let k = handed_on c.from_residual.result c.in_err-found.field-0.0 c.from_residual.ensures in rw k (search (rules, number_refused))
