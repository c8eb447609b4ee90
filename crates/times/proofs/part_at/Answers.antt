-- `times::part_at` reads all digits, then tests the bounds; `All-first` says that the machine of the rules comes to the same. The loop's invariant: what is left to read leads to the whole.
use borrow.Author.Rules.{rules}
use Rattle.times.specs.Laws.Parts.{starts, stops, turns, ends, fits_scaled, fits_more, at_most, part_none, part_out, part_in, inside_most}
use Rattle.times.proofs.part_at.Goals as goal

pub loop-j-init : goal.loop-j-init
loop-j-init c = starts

pub returns-in_err-n : goal.returns-in_err-n
returns-in_err-n c = (search (rules, part_none, stops, c.in_err-n.was), search rules)

pub overflow_mul-n : goal.overflow_mul-n
overflow_mul-n c = search (rules, fits_scaled)

pub overflow_add-n : goal.overflow_add-n
overflow_add-n c = search (rules, fits_more, c.in_ok-n.was)

pub loop-j-preserved : goal.loop-j-preserved
loop-j-preserved c = search (rules, turns, at_most, c.in_ok-n.was)

pub returns-then-is_within : goal.returns-then-is_within
returns-then-is_within c = (search (rules, part_in, ends), search (rules, inside_most))

pub returns-else-is_within : goal.returns-else-is_within
returns-else-is_within c = (search (rules, part_out, ends), tt)
