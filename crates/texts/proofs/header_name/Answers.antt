-- `texts::header_name`: the rule is that of the string, then the comparison with "ES".
use Rattle.texts.specs.Laws.{header_text, header_rule}
use borrow.Author.Rules.{rules}
use Rattle.texts.proofs.header_name.Goals as goal

pub returns-in_err-ia5 : goal.returns-in_err-ia5
returns-in_err-ia5 c = search (rules, header_text)

pub returns : goal.returns
returns c = search (rules, header_rule, c.in_ok-ia5.was)
