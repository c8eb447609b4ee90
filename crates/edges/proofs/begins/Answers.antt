-- `edges::begins`: nothing at the end, nothing past the slice, else the byte.
use Rattle.edges.specs.Laws.{begins-not, begins_in}
use borrow.Author.Rules.{rules}
use Rattle.edges.proofs.begins.Goals as goal

pub returns-then-end-at : goal.returns-then-end-at
returns-then-end-at c = search (rules, begins-not)

pub returns : goal.returns
returns c = search (rules, begins_in)
