-- `items::open`: the tag by what its byte tells, then the length.
use Rattle.items.specs.Laws.{opening_missing, opening-other, opening_sized}
use Rattle.tags.specs.Laws.{tells-other, found-same, found-other}
use borrow.Author.Rules.{rules}
use Rattle.items.proofs.open.Goals as goal

pub returns-then-stop-at : goal.returns-then-stop-at
returns-then-stop-at c = search (rules, opening_missing)

pub returns-then-ne : goal.returns-then-ne
returns-then-ne c = search (rules, opening-other)

pub returns : goal.returns
returns c = search (rules, opening_sized)
