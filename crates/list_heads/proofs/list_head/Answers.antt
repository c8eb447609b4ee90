-- `list_heads::list_head`: the head, then whether an item stands in it.
use borrow.Author.Tests.{not-true, not-false}
use Rattle.list_heads.specs.Laws.{head_refused, head_none, head_some}
use borrow.Author.Rules.{rules}
use Rattle.list_heads.proofs.list_head.Goals as goal

pub returns-in_err-inside : goal.returns-in_err-inside
returns-in_err-inside c = search (rules, head_refused)

pub returns-then-not-enough : goal.returns-then-not-enough
returns-then-not-enough c = search (rules, not-true, head_none)

pub returns : goal.returns
returns c = search (rules, not-false, head_some)
