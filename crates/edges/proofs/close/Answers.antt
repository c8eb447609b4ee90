-- `edges::close`: a byte is left over, or none.
use Rattle.edges.specs.Laws.{close_left, close_end}
use borrow.Author.Rules.{rules}
use Rattle.edges.proofs.close.Goals as goal

pub returns-then-at-end : goal.returns-then-at-end
returns-then-at-end c = search (rules, close_left)

pub returns : goal.returns
returns c = search (rules, close_end)
