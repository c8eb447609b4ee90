-- `answers::is_content`: the window is compared with the content's bytes.
use Rattle.answers.specs.Laws.{content_says}
use borrow.Author.Rules.{rules}
use Rattle.answers.proofs.is_content.Goals as goal

pub returns : goal.returns
returns c = search (rules, content_says)
