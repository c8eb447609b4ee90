-- `judges::signatures::with_notice`: by the number.
use Rattle.judges.specs.Laws.{noticed, without-notice}
use borrow.Author.Rules.{rules}
use Rattle.judges.proofs.signatures.with_notice.Goals as goal

pub returns-then-takes_notice : goal.returns-then-takes_notice
returns-then-takes_notice c = search (rules, noticed)

pub returns-else-takes_notice : goal.returns-else-takes_notice
returns-else-takes_notice c = search (rules, without-notice)
