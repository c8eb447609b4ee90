-- `pieces::value`: what stands before it, its padding, and its bytes.
use borrow.Author.Rules.{rules}
use Rattle.pieces.specs.Laws.{value-put}
use Rattle.pieces.proofs.value.Goals as goal

pub returns : goal.returns
returns c = search (rules, value-put)
