-- `place_tables::fill`: by the reading, then by the room.
use Rattle.terms.specs.Laws.Answer.{handed_on}
use Rattle.place_tables.specs.Laws.{filled-after, filled-told, refused_kept, refused_told, short_kept, short_told}
use borrow.Author.Rules.{rules}
use Rattle.place_tables.proofs.fill.Goals as goal

pub returns-in_err-size : goal.returns-in_err-size
returns-in_err-size c =
    let h = c.in_err-size.was in
    let k = handed_on c.from_residual.result c.in_err-size.field-0.0 c.from_residual.ensures in
    record { result_value = rw k (search (rules, refused_told)); table_after = search (rules, refused_kept, h) }

pub returns-then-dst-lt-TABLE_SIZE : goal.returns-then-dst-lt-TABLE_SIZE
returns-then-dst-lt-TABLE_SIZE c = let h = c.in_ok-size.was in record { result_value = search (rules, short_told, h); table_after = search (rules, short_kept, h) }

pub returns : goal.returns
returns c = let h = c.in_ok-size.was in record { result_value = search (rules, filled-told, h); table_after = search (rules, filled-after, h) }
