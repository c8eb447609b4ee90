-- `known_pieces::known_out`: its one content in a record.
use borrow.Author.Rules.{rules}
use Rattle.pieces.specs.Laws.{known_none, known_name, known_version}
use Rattle.known_pieces.proofs.known_out.Goals as goal

pub returns-in-Record-HeaderName : goal.returns-in-Record-HeaderName
returns-in-Record-HeaderName c = search (rules, known_name)

pub returns-in-Record-Version : goal.returns-in-Record-Version
returns-in-Record-Version c = search (rules, known_version)

pub returns-in-Sheet-default : goal.returns-in-Sheet-default
returns-in-Sheet-default c = search (rules, known_none)
