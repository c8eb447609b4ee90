-- `flag_pieces::flag`: as the source says.
use borrow.Author.Rules.{rules}
use Rattle.pieces.specs.Laws.{flag_wrote}
use Rattle.flag_pieces.proofs.flag.Goals as goal

pub returns : goal.returns
returns c = search (rules, flag_wrote)
