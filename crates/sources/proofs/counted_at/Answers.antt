-- `sources::counted_at`: where a count ends is in the slice.
use borrow.Author.Rules.{rules}
use Rattle.counts.specs.Laws.{fits_count}
use Rattle.sources.proofs.counted_at.Goals as goal

pub overflow_add-result : goal.overflow_add-result
overflow_add-result c = search (rules, fits_count)
