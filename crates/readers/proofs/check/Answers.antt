-- `readers::check`: what the whole record comes to.
use Rattle.readers.specs.Laws.{outcome-told}
use borrow.Author.Rules.{rules}
use Rattle.readers.proofs.check.Goals as goal

pub returns : goal.returns
returns c = search (rules, outcome-told)
