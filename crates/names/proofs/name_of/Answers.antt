-- `names::name_of`: each number names its field; past them is none.
use Rattle.names.specs.Laws.{Besides, unnamed}
use borrow.Author.Rules.{rules}
use Rattle.names.proofs.name_of.Goals as goal

pub returns-in_default : goal.returns-in_default
unfolding Besides
returns-in_default c = unnamed c.args.number (search rules)
