-- `fronts::count`: the last four of a number's eight bytes.
use Rattle.fronts.specs.Laws.{count-put}
use borrow.Author.Rules.{rules}
use Rattle.fronts.proofs.count.Goals as goal

pub returns : goal.returns
returns c = search (rules, count-put)
