-- `octets::bits`: the rule asks the two tests, of what stands before the value and of the value.
use Rattle.octets.specs.Laws.{bits_first}
use borrow.Author.Rules.{rules}
use Rattle.octets.proofs.bits.Goals as goal

pub returns : goal.returns
returns c = search (rules, bits_first)
