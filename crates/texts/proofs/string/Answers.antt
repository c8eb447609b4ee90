-- `texts::string`: the rule asks whether a byte that is needed is there, then whether all are text.
use Rattle.texts.specs.Laws.{string-rule}
use borrow.Author.Rules.{rules}
use Rattle.texts.proofs.string.Goals as goal

pub returns : goal.returns
returns c = search (rules, string-rule)
