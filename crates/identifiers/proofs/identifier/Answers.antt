-- `identifiers::identifier`: the rule asks only whether the content is an identifier.
use Rattle.identifiers.specs.Laws.{identifier-rule}
use borrow.Author.Rules.{rules}
use Rattle.identifiers.proofs.identifier.Goals as goal

pub returns : goal.returns
returns c = search (rules, identifier-rule)
