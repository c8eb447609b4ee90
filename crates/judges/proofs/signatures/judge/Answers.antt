-- `judges::signatures::judge`: after 18.
use Rattle.judges.specs.Laws.{weighs_judged, weighs_unreal}
use borrow.Author.Rules.{rules}
use Rattle.judges.proofs.signatures.judge.Goals as goal

pub returns-then-not-is_all_real : goal.returns-then-not-is_all_real
returns-then-not-is_all_real c = search (rules, weighs_unreal)

pub returns : goal.returns
returns c = search (rules, weighs_judged)
