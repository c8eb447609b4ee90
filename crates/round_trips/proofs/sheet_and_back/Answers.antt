-- `round_trips::sheet_and_back`: written, then filled from what was written.
use Rattle.round_trips.specs.Laws.{sheet_refused, sheet_kept, sheet-room, sheet-cut, sheet-told, sheet_returns}
use Rattle.terms.specs.Laws.Answer.{handed_on}
use borrow.Author.Rules.{rules}
use Rattle.round_trips.proofs.sheet_and_back.Goals as goal

pub returns-in_err-n : goal.returns-in_err-n
returns-in_err-n c = record { result_value = rw (handed_on _ _ c.from_residual.ensures) (search (rules, sheet_refused, c.in_err-n.was)); record_after = search rules; back_after = search (rules, sheet_kept, c.in_err-n.was) }

pub slice_bounds-fill-end : goal.slice_bounds-fill-end
slice_bounds-fill-end c = search (rules, sheet-room, c.in_ok-n.was)

pub slice_bounds-fill-end-2 : goal.slice_bounds-fill-end-2
slice_bounds-fill-end-2 c = search (rules, sheet-cut, c.in_ok-n.was)

pub returns : goal.returns
returns c = record { result_value = search (rules, sheet-told, c.in_ok-n.was); record_after = search rules; back_after = search (rules, sheet_returns, c.in_ok-n.was) }
