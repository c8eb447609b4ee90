-- `copies::copy`: what is left of the slice is still to be stored, and has room.
use Rattle.stores.specs.Laws.Steps.{copy_first, copy_on, copy_end}
use borrow.Author.Rules.{rules}
use Rattle.copies.proofs.copy.Goals as goal

pub loop-i-init : goal.loop-i-init
loop-i-init c = (search rules, search (rules, copy_first))

pub loop-i-preserved : goal.loop-i-preserved
loop-i-preserved c = (search rules, search (rules, copy_on))

pub returns : goal.returns
returns c = search (rules, copy_end)
