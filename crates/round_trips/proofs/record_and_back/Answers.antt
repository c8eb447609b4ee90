-- `round_trips::record_and_back`: filled, then written from what was filled.
use Rattle.sheets.specs.Laws.{filled-room, filled-cut}
use Rattle.round_trips.specs.Laws.{record_refused, record_kept, record_told, record_returns}
use Rattle.terms.specs.Laws.Answer.{handed_on}
use borrow.Author.Rules.{rules}
use Rattle.round_trips.proofs.record_and_back.Goals as goal

pub returns-in_err-n : goal.returns-in_err-n
returns-in_err-n c = record { result_value = rw (handed_on _ _ c.from_residual.ensures) (search (rules, record_refused, c.in_err-n.was)); sheet_after = search rules; back_after = search (rules, record_kept, c.in_err-n.was) }

pub slice_bounds-write-end : goal.slice_bounds-write-end
slice_bounds-write-end c = search (rules, filled-room, c.in_ok-n.was)

pub slice_bounds-write-end-2 : goal.slice_bounds-write-end-2
slice_bounds-write-end-2 c = search (rules, filled-cut, c.in_ok-n.was)

pub returns : goal.returns
returns c = record { result_value = search (rules, record_told, c.in_ok-n.was); sheet_after = search rules; back_after = search (rules, record_returns, c.in_ok-n.was) }
