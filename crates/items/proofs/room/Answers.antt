-- `items::room`: the content fits behind the header, or 4: as `room_at` says.
use Rattle.terms.specs.Laws.Answer.{pick_lt, pick_ge}
use borrow.Author.Rules.{rules}
use Rattle.items.proofs.room.Goals as goal

pub returns-then-stop-start : goal.returns-then-stop-start
returns-then-stop-start c = search (rules, pick_lt)

pub returns : goal.returns
returns c = search (rules, pick_ge)
