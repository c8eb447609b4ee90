-- `numbers::value_in`: the sign before a content, up to eight bytes, changes no number.
use borrow.Author.Rules.{rules}
use Rattle.numbers.specs.Laws.{some_byte, filled_value}
use Rattle.numbers.proofs.value_in.Goals as goal

pub bounds-c-0 : goal.bounds-c-0
bounds-c-0 c = some_byte _ c.requires.shortest

pub returns : goal.returns
returns c = search (rules, filled_value)
