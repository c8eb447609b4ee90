-- `numbers::from_eight`: what the machine reads of eight bytes.
use borrow.Author.Rules.{rules}
use Rattle.numbers.specs.Laws.{machine_value}
use Rattle.numbers.proofs.from_eight.Goals as goal

pub returns : goal.returns
returns c = search (rules, machine_value)
