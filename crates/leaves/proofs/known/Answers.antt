-- `leaves::known`: the primitive item that it is named as.
use Rattle.leaves.specs.Laws.{known_leaf}
use borrow.Author.Rules.{rules}
use Rattle.leaves.proofs.known.Goals as goal

pub returns : goal.returns
returns c = search (rules, known_leaf)
