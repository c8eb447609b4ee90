-- `items::length_at`: the byte after the tag picks the form; 81 and 82 by one law over the form.
use Rattle.items.specs.Laws.{length_missing, length_short, length-other, one_reads, two_reads, long_cut, one_long, one_read, two_long, two_read}
use borrow.Author.Rules.{rules}
use Rattle.items.proofs.length_at.Goals as goal

pub returns-then-left-lt2 : goal.returns-then-left-lt2
returns-then-left-lt2 c = search (rules, length_missing)

pub returns-then-left-lt3 : goal.returns-then-left-lt3
returns-then-left-lt3 c = search (rules, long_cut 0x81 1 one_reads)

pub returns-then-left-lt4 : goal.returns-then-left-lt4
returns-then-left-lt4 c = search (rules, long_cut 0x82 2 two_reads)

pub returns-then-n-lt-AFTER_81 : goal.returns-then-n-lt-AFTER_81
returns-then-n-lt-AFTER_81 c = search (rules, one_long)

pub returns-then-n-lt-AFTER_82 : goal.returns-then-n-lt-AFTER_82
returns-then-n-lt-AFTER_82 c = search (rules, two_long)

pub returns-else-n-lt-AFTER_81 : goal.returns-else-n-lt-AFTER_81
returns-else-n-lt-AFTER_81 c = search (rules, one_read)

pub returns-else-n-lt-AFTER_82 : goal.returns-else-n-lt-AFTER_82
returns-else-n-lt-AFTER_82 c = search (rules, two_read)

pub returns-in-0-to-127 : goal.returns-in-0-to-127
returns-in-0-to-127 c = search (rules, length_short)

pub returns-in_default : goal.returns-in_default
returns-in_default c = search (rules, length-other)
