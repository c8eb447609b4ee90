-- Nothing is known of the item before it is measured, and a new table has room for what is noted of it; when it is stored its notes are known.
use borrow.Author.Rules.{rules}
use Rattle.moves.specs.Laws.{within_large, within_short, within_all}
use Rattle.moves.specs.Laws.Table.{ready_not, ready_put}
use Rattle.moves.proofs.item.Goals as goal
use Rattle.moves.proofs.item.Goals.{then-most-n-via-then-most-n, then-most-n-via-else-most-n+then-dst-n}

pub noted-n-requires : goal.noted-n-requires
noted-n-requires c = search (rules, ready_not)

pub returns-then-most-n : goal.returns-then-most-n
returns-then-most-n c =
    elim c.then-most-n.branch [
      | then-most-n-via-then-most-n w ↦ search (rules, within_large)
      | then-most-n-via-else-most-n+then-dst-n w ↦ search (rules, within_short)
    ]

pub noted-m-requires : goal.noted-m-requires
noted-m-requires c = let n = c.noted-n.ensures.sizes_after in search (rules, ready_put)

pub returns : goal.returns
returns c = search (rules, within_all)
