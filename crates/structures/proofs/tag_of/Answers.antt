-- `structures::tag_of`: the tag that a build has.
use Rattle.structures.specs.Laws.{tag_leaf, tag_node, tag_list, tag_wrap}
use borrow.Author.Rules.{rules}
use Rattle.structures.proofs.tag_of.Goals as goal

pub returns-in-Leaf : goal.returns-in-Leaf
returns-in-Leaf c = search (rules, tag_leaf)

pub returns-in-Node : goal.returns-in-Node
returns-in-Node c = search (rules, tag_node)

pub returns-in-List : goal.returns-in-List
returns-in-List c = search (rules, tag_list)

pub returns-in-Wrap : goal.returns-in-Wrap
returns-in-Wrap c = search (rules, tag_wrap)
