-- `lists::seal_custom_critical`: the flag of a custom item.
use Rattle.lists.specs.Laws.{seal_owned}
use borrow.Author.Rules.{rules}
use Rattle.lists.proofs.seal_custom_critical.Goals as goal

pub returns : goal.returns
returns c = search (rules, seal_owned)
