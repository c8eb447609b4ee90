-- `tags::tag_of` names the tag whose byte was matched; what no arm names is the byte of no tag.
use borrow.Author.Rules.{rules}
use Rattle.tags.specs.Laws.{no_tag}
use Rattle.tags.proofs.tag_of.Goals as goal

pub returns-in_default : goal.returns-in_default
returns-in_default c = search (rules, no_tag)
