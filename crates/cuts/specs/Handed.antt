-- A field as it is looked up: in a record, in a table of places, and as the start and the length of a part. Assumes nothing.
use Rattle.std.specs.Prelude.{ℕ, ◌+◌, List, length, get_or, eqb, leb, Ok, Err, Some, None}
use Rattle.std.proofs.Math.Option.{Option, none, some}
use Rattle.terms.specs.declared.Field.{Field}
use Rattle.terms.specs.Answer.{Res, good, fault, pick, refused}
use Rattle.layouts.specs.Fields.{Entry}
use Rattle.layouts.specs.Places.{slot}
use Rattle.records.specs.declared.Part.{Part}
use Rattle.records.specs.Found.{Found, part}

-- what a plain call answers of what is sought in a record
abbrev pub part_of : Res (Option Entry) → Found Part
part_of (good (some x)) = Ok (Some (part x.place (length x.bytes)))
part_of (good none) = Ok None
part_of (fault n p) = refused n p

-- what stands under a name in a table of places
unfoldable pub part_under : Field → List ℕ → Found Part
part_under f d = pick (eqb (get_or d (slot f) 0) 0) (Ok None) (Ok (Some (part (get_or d (slot f + 1) 0) (get_or d (slot f + 2) 0))))

-- start and length of what an answer names
abbrev pub span_of : Found Part → ℕ × ℕ
span_of (Ok (Some p)) = (p.start, p.length)
span_of (Ok None) = (0, 0)
span_of (Err e) = (0, 0)

-- a start and a length inside `n` bytes; others are those of no bytes, at the start
unfoldable pub within : ℕ → ℕ × ℕ → ℕ × ℕ
within n p = pick (leb (p.0 + p.1) n) p (0, 0)
