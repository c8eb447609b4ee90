-- What the functions over the table answer of a sheet. Assumes nothing.
-- Nobody has to believe this page: it names what `SheetScan` says of the members of a row and of a list's items.
use Rattle.std.specs.Prelude.{ℕ, List, Ok}
use Rattle.layouts.specs.Layout.{Item, leaf, known, maybe, flag}
use Rattle.layouts.specs.SheetScan.{times_scan, sheet_scan, sheet_scan_part}
use Rattle.primitives.specs.Primitive.{leaf_of, known_of}
use Rattle.structures.specs.Structure.{layout_of}
use Rattle.rows.specs.declared.Member.{Member}
use Rattle.rows.specs.declared.Member.TheVariants as member
use Rattle.rows.specs.Row.{choice_of}
use Rattle.terms.specs.Answer.{Answer}

-- a member of a row
unfoldable pub member_walk : Member → List ℕ → ℕ → ℕ → Answer ℕ
member_walk member.Blank s p e = Ok p
member_walk (member.Known w) s p e = sheet_scan_part (known (known_of w)) s p e
member_walk (member.Leaf f l) s p e = sheet_scan (leaf (leaf_of l)) s p e
member_walk (member.Part f x) s p e = sheet_scan (layout_of x) s p e
member_walk (member.Maybe f x) s p e = sheet_scan_part (maybe f (layout_of x)) s p e
member_walk (member.Flag f) s p e = sheet_scan_part (flag f) s p e
member_walk (member.Choice f l c g x y) s p e = sheet_scan_part (choice_of f l c g x y) s p e

-- so many items of a list
unfoldable pub list_walk : Item → ℕ → List ℕ → ℕ → ℕ → Answer ℕ
list_walk i n s p e = times_scan (λ q. sheet_scan i s q e) n p
