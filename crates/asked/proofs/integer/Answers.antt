-- `asked::integer`: number by number.
use Rattle.asked.specs.Laws.{value_type, value-kind, value_width, value_height, value_none}
use borrow.Author.Rules.{rules}
use Rattle.asked.proofs.integer.Goals as goal

pub returns-in-5 : goal.returns-in-5
returns-in-5 c = search (rules, value_type)

pub returns-in-7 : goal.returns-in-7
returns-in-7 c = search (rules, value-kind)

pub returns-in-19 : goal.returns-in-19
returns-in-19 c = search (rules, value_width)

pub returns-in-20 : goal.returns-in-20
returns-in-20 c = search (rules, value_height)

pub returns-in_default : goal.returns-in_default
returns-in_default c = search (rules, value_none)
