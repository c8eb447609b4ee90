-- `readers::whole`: the record, then nothing after it.
use Rattle.entries.specs.Laws.{handed}
use Rattle.readers.specs.Laws.{walk_refused, walk_closed}
use borrow.Author.Rules.{rules}
use Rattle.readers.proofs.whole.Goals as goal

pub returns-in_err-next : goal.returns-in_err-next
returns-in_err-next c = search (rules, walk_refused, c.in_err-next.was, handed c.from_residual.result c.in_err-next.field-0.0 c.from_residual.ensures)

pub returns : goal.returns
returns c = search (rules, walk_closed, c.in_ok-next.was)
