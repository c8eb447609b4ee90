-- `octets::octets`: the rule asks only whether a byte that is needed is there.
use Rattle.octets.specs.Laws.{octets-rule}
use borrow.Author.Rules.{rules}
use Rattle.octets.proofs.octets.Goals as goal

pub returns : goal.returns
returns c = search (rules, octets-rule)
