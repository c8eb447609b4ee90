-- What the functions over the table answer, and the table of places after each. Assumes nothing.
-- Nobody has to believe this page: it names what `Scan` and `Marks` say of the members of a row.
use Rattle.std.specs.Prelude.{ℕ, ◌-◌, List, Ok}
use Rattle.terms.specs.declared.Field.{Field}
use Rattle.terms.specs.Answer.{Answer}
use Rattle.layouts.specs.Layout.{Item, leaf, Members, known, maybe, flag}
use Rattle.layouts.specs.Scan.{scan, scans, scan_part, record_scan}
use Rattle.layouts.specs.Marks.{tally, many_marks, marks, marks_all, marks_part, record_marks}
use Rattle.primitives.specs.Primitive.{leaf_of, known_of}
use Rattle.structures.specs.Structure.{layout_of}
use Rattle.rows.specs.declared.Member.{Member}
use Rattle.rows.specs.declared.Member.TheVariants as member
use Rattle.rows.specs.Row.{choice_of}

unfoldable pub item_walk : Item → Field → ℕ → List ℕ → ℕ → ℕ → List ℕ → Answer ℕ × List ℕ
item_walk i f k s p e d = (scan i s p e, marks i f k s p e d)

unfoldable pub row_walk : Members → ℕ → List ℕ → ℕ → ℕ → List ℕ → Answer ℕ × List ℕ
row_walk r k s p e d = (scans r s p e, marks_all r k s p e d)

-- a member of a row
unfoldable pub member_walk : Member → ℕ → List ℕ → ℕ → ℕ → List ℕ → Answer ℕ × List ℕ
member_walk member.Blank k s p e d = (Ok p, d)
member_walk (member.Known w) k s p e d = (scan_part (known (known_of w)) s p e, d)
member_walk (member.Leaf f l) k s p e d = item_walk (leaf (leaf_of l)) f k s p e d
member_walk (member.Part f x) k s p e d = item_walk (layout_of x) f k s p e d
member_walk (member.Maybe f x) k s p e d = (scan_part (maybe f (layout_of x)) s p e, marks_part (maybe f (layout_of x)) k s p e d)
member_walk (member.Flag f) k s p e d = (scan_part (flag f) s p e, marks_part (flag f) k s p e d)
member_walk (member.Choice f l c g x y) k s p e d = (scan_part (choice_of f l c g x y) s p e, marks_part (choice_of f l c g x y) k s p e d)

-- the items of a list, at most `n`, of which `k` stand before here
unfoldable pub list_walk : Item → Field → ℕ → ℕ → List ℕ → ℕ → ℕ → List ℕ → Answer ℕ × List ℕ
list_walk i f n k s p e d = (
  tally (λ q. scan i s q e) (n - k) k p e,
  many_marks (λ q. scan i s q e) (λ j q x. marks i f j s q e x) (n - k) k p e d,
)

-- a record of at most `most` bytes
unfoldable pub record_walk : ℕ → Members → List ℕ → ℕ → ℕ → List ℕ → Answer ℕ × List ℕ
record_walk most r s p e d = (record_scan most r s p e, record_marks most r s p e d)
