-- `counts::count`: four bytes, if they are there.
use Rattle.std.proofs.Common.{rules}
use Rattle.counts.specs.Laws.{count_cut, count-there}
use Rattle.counts.proofs.count.Goals as goal

pub returns-in_default : goal.returns-in_default
returns-in_default c = search (rules, count_cut)

pub returns-in-len4-up : goal.returns-in-len4-up
returns-in-len4-up c = search (rules, count-there)
