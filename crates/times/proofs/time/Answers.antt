-- `times::time` is right since a time that was read has its Z as the fifteenth byte, and nothing may stand after it.
use borrow.Author.Rules.{rules}
use Rattle.times.specs.Laws.Whole.{other_length, no_time, right_time}
use Rattle.times.proofs.time.Goals as goal
use Rattle.times.proofs.time.Goals.{else-w-eq-TIME_BYTES-via-then-w-eq-TIME_BYTES+else-is_some, else-w-eq-TIME_BYTES-via-else-w-eq-TIME_BYTES}

pub returns-then-is_some : goal.returns-then-is_some
returns-then-is_some c = search (rules, right_time)

pub returns-else-w-eq-TIME_BYTES : goal.returns-else-w-eq-TIME_BYTES
returns-else-w-eq-TIME_BYTES c =
    elim c.else-w-eq-TIME_BYTES.branch [
      | else-w-eq-TIME_BYTES-via-then-w-eq-TIME_BYTES+else-is_some w ↦ search (rules, no_time)
      | else-w-eq-TIME_BYTES-via-else-w-eq-TIME_BYTES w ↦ search (rules, other_length)
    ]
