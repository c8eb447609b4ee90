-- `times::time_in` joins date and clock; `time-in` says that the rules' parts in their order are these two.
use borrow.Author.Rules.{rules}
use Rattle.times.specs.Time.{time_in, after}
use Rattle.times.specs.Laws.Whole.{as_read}
use Rattle.times.proofs.time_in.Goals as goal

pub returns-in_err-date : goal.returns-in_err-date
unfolding time_in after
returns-in_err-date c = search (rules, as_read, c.in_err-date.was)

pub returns-in_err-clock : goal.returns-in_err-clock
unfolding time_in after
returns-in_err-clock c = search (rules, as_read, c.in_ok-date.was, c.in_err-clock.was)

pub returns : goal.returns
unfolding time_in after
returns c = search (rules, as_read, c.in_ok-date.was, c.in_ok-clock.was)
