-- `stores::put`: past the end nothing is stored.
use borrow.Author.Rules.{rules}
use Rattle.stores.specs.Laws.Steps.{put_gone, put-there}
use Rattle.stores.proofs.put.Goals as goal
use Rattle.stores.proofs.put.Goals.{then-o-dst, else-o-dst}

pub returns : goal.returns
returns c = elim c.if-o-dst.branch [ then-o-dst w ↦ search (rules, put-there) | else-o-dst w ↦ search (rules, put_gone) ]
