-- `octets::ask_two`: the first test's refusal stands; where it is fine the second is asked.
use borrow.Author.Rules.{rules}
use Rattle.contents.specs.Content.{ask, fine}
use Rattle.octets.specs.Laws.{first_refused, first_fine}
use Rattle.octets.proofs.ask_two.Goals as goal

pub returns-in_err-ask : goal.returns-in_err-ask
returns-in_err-ask c = λ a. search (rules, first_refused c.args.first c.args.n (ask c.args.second c.args.m fine) c.args.at a c.ask.result (c.ask.ensures a))

pub returns : goal.returns
returns c = λ a. first_fine _ _ _ _ a _ (c.ask.ensures a) _ _ c.in_ok-ask.was (c.ask-2.ensures a)
