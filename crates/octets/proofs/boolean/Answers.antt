-- `octets::boolean`: the rule asks only whether the content is FF alone.
use Rattle.octets.specs.Laws.{boolean-rule}
use borrow.Author.Rules.{rules}
use Rattle.octets.proofs.boolean.Goals as goal

pub returns : goal.returns
returns c = search (rules, boolean-rule)
