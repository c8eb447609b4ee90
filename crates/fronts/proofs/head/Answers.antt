-- `fronts::head`: the tag's byte, then the length.
use Rattle.fronts.specs.Laws.{head-put}
use borrow.Author.Rules.{rules}
use Rattle.fronts.proofs.head.Goals as goal

pub returns : goal.returns
returns c = search (rules, head-put)
