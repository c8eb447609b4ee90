-- `pieces::sign_of`: by the first byte, if there is one.
use borrow.Author.Rules.{rules}
use Rattle.pieces.specs.Laws.{sign_none, sign_low, sign_high}
use Rattle.pieces.proofs.sign_of.Goals as goal

pub returns-in-128-to-255 : goal.returns-in-128-to-255
returns-in-128-to-255 c = search (rules, sign_high)

pub returns-in_default : goal.returns-in_default
returns-in_default c = search (rules, sign_none)

pub returns-in_default-2 : goal.returns-in_default-2
returns-in_default-2 c = search (rules, sign_low)
