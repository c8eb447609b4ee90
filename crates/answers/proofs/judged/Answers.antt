-- `answers::judged`: fine is the item, wrong its refusal.
use Rattle.answers.specs.Laws.{judged_fine, judged-wrong}
use borrow.Author.Rules.{rules}
use Rattle.answers.proofs.judged.Goals as goal

pub returns-in_err-c : goal.returns-in_err-c
returns-in_err-c c = search (rules, judged-wrong)

pub returns : goal.returns
returns c = search (rules, judged_fine)
