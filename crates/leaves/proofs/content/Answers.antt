-- `leaves::content`: a bit string behind its first byte, any other content by its value's rule.
use Rattle.leaves.specs.Laws.{bits_content, plain_content}
use borrow.Author.Rules.{rules}
use Rattle.leaves.proofs.content.Goals as goal

pub returns-then-hidden_of-eq0 : goal.returns-then-hidden_of-eq0
returns-then-hidden_of-eq0 c = search (rules, plain_content)

pub returns : goal.returns
returns c = search (rules, bits_content)
