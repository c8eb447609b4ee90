-- `asked::items`: number by number.
use Rattle.asked.specs.Laws.{count_list, count-items, count_signed}
use borrow.Author.Rules.{rules}
use Rattle.asked.proofs.items.Goals as goal

pub returns-in_default-eq8 : goal.returns-in_default-eq8
returns-in_default-eq8 c = search (rules, count_list)

pub returns-in_default-eq21 : goal.returns-in_default-eq21
returns-in_default-eq21 c = search (rules, count-items)

pub returns-in-Signature-eq34 : goal.returns-in-Signature-eq34
returns-in-Signature-eq34 c = search (rules, count_signed)
