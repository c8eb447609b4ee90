-- `lists::signed_custom_critical`: the flag of a custom item.
use Rattle.lists.specs.Laws.{signed_owned}
use borrow.Author.Rules.{rules}
use Rattle.lists.proofs.signed_custom_critical.Goals as goal

pub returns : goal.returns
returns c = search (rules, signed_owned)
