-- There and back: what is written back is what was given. Assumes nothing.
use Rattle.std.specs.Prelude.{ℕ, List}
use Rattle.terms.specs.Numbers.{largest_record}
use Rattle.terms.specs.Answer.{Res, bind}
use Rattle.layouts.specs.Layout.{Members}
use Rattle.layouts.specs.Whole.{fit, fill_sheet, write_record}

-- a record's sheet into `room` bytes, and the record itself into `back`
unfoldable pub record_trip : Members → List ℕ → ℕ → ℕ → Res (List ℕ)
record_trip r w room back = bind (fill_sheet largest_record r w room) λ x. fit back w

-- a sheet's record into `room` bytes, and the sheet itself into `back`
unfoldable pub sheet_trip : Members → List ℕ → ℕ → ℕ → Res (List ℕ)
sheet_trip r x room back = bind (write_record largest_record r x room) λ w. fit back x
