-- `identifiers::whole_parts`: the loop keeps that the bytes that are left are whole parts just where all are, `begins` being whether one begins there.
use Rattle.std.proofs.Common.{◌≡◌, true, drop}
use Rattle.contents.specs.Text.{parts_from}
use Rattle.identifiers.proofs.whole_parts.Given as goal

abbrev pub invariant-loop-b : goal.invariant-loop-b
invariant-loop-b l = parts_from true l.w ≡ parts_from l.begins (drop l.b-index l.w)
