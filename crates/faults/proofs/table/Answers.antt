-- `faults::table`: there are as many numbers in front as the table has.
use Rattle.std.proofs.Common.{sym, arith, length-take-le}
use Rattle.faults.proofs.table.Goals as goal

pub slice_bounds-copy_from_slice-end-2 : goal.slice_bounds-copy_from_slice-end-2
slice_bounds-copy_from_slice-end-2 c = sym (length-take-le 173 c.args.places.now (omega (arith, c.requires)))

pub copy_from_slice-requires : goal.copy_from_slice-requires
copy_from_slice-requires c = sym (length-take-le 173 c.args.places.now (omega (arith, c.requires)))
