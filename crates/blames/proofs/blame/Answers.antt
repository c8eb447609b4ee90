-- `blames::blame`: a table of its own size, and one in which a name is noted, stay as they are.
use borrow.Author.Rules.{rules}
use Rattle.blames.specs.Laws.{blamed_short, blamed-held, blamed-first}
use Rattle.blames.proofs.blame.Goals as goal

pub returns-then-places-le-TABLE_SIZE : goal.returns-then-places-le-TABLE_SIZE
returns-then-places-le-TABLE_SIZE c = search (rules, blamed_short)

pub returns-then-places-ne0 : goal.returns-then-places-ne0
returns-then-places-ne0 c = search (rules, blamed-held)

pub returns : goal.returns
returns c = search (rules, blamed-first)
