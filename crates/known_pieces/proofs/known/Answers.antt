-- `known_pieces::known`: past it in the source, and as it is known.
use borrow.Author.Rules.{rules}
use Rattle.pieces.specs.Laws.{known_wrote}
use Rattle.known_pieces.proofs.known.Goals as goal

pub returns : goal.returns
returns c = search (rules, known_wrote)
