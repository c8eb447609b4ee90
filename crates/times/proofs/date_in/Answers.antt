-- `times::date_in` reads year, month and day at their places, each from its least to its most.
use borrow.Author.Rules.{rules}
use Rattle.times.specs.Laws.Parts.{at_most, at_most_of, part_least}
use Rattle.times.specs.Laws.Months.{month_most}
use Rattle.times.proofs.date_in.Goals as goal

pub month_length-requires : goal.month_length-requires
month_length-requires c = search (rules, part_least, at_most, c.in_ok-month.was)

pub joined-requires : goal.joined-requires
joined-requires c = search (rules, at_most_of, month_most, c.in_ok-year.was, c.in_ok-month.was, c.in_ok-day.was)
