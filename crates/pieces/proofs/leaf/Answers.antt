-- `pieces::leaf`: the value where it lies in the source.
use borrow.Author.Rules.{rules}
use Rattle.pieces.specs.Laws.{leaf_wrote}
use Rattle.pieces.proofs.leaf.Goals as goal

pub returns : goal.returns
returns c = search (rules, leaf_wrote)
