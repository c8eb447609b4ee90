-- The rows of a screen: the fields of a layout in the order of the record, each with its depth and how it is shown. Assumes nothing.
use Rattle.std.specs.Prelude.{ℕ, suc, Bool, true, false, List, [], ◌∷◌, ◌++◌, get_or, drop, eqb}
use Rattle.terms.specs.declared.Field.{Field}
use Rattle.terms.specs.declared.Field.TheVariants.{SignedPart}
use Rattle.layouts.specs.Layout.{Item, leaf, node, list, wrap, Members, end, ◌▸◌, Member, known, one, maybe, flag, choose}
use Rattle.records.specs.Record.{signature}
use Rattle.screen_rows.specs.declared.Row.{Row}
use Rattle.screen_rows.specs.declared.Shows.{Shows}
use Rattle.screen_rows.specs.declared.Shows.TheVariants.{Structure, Text, Time, Number, Identifier, Bytes, Critical}
use Rattle.screen_rows.specs.declared.Shows.TheVariants as shows

abbrev pub row_for : Field → ℕ → Shows → Row
row_for f d s = record { 0 = f; 1 = d; 2 = s }

abbrev which : Bool → Shows → Shows → Shows
which true x y = x
which false x y = y

-- how a primitive item is shown, by its tag: an INTEGER, an OBJECT IDENTIFIER, a GeneralizedTime, a BIT STRING, an OCTET STRING, or else a text
abbrev shown_by : ℕ → Shows
shown_by t =
    which (eqb t 0x02) Number
    (which (eqb t 0x06) Identifier (which (eqb t 0x18) Time (which (eqb t 0x03) Bytes (which (eqb t 0x04) Bytes Text))))

-- an item under its name, and what stands in it. An item around another one has its name and its line. Of two lists to choose from the list
-- has one line, and the second one's items stand after the first one's.
abbrev mutual
  item_rows : Item → Field → ℕ → List Row
  item_rows (leaf l) f d = row_for f d (shown_by l.tag) ∷ []
  item_rows (node t r) f d = row_for f d Structure ∷ rows_in r (suc d)
  item_rows (list t e n g i) f d = row_for f d shows.List ∷ item_rows i g (suc d)
  item_rows (wrap t i) f d = item_rows i f d

  rows_in : Members → ℕ → List Row
  rows_in end d = []
  rows_in (m ▸ r) d = member_rows m d ++ rows_in r d

  member_rows : Member → ℕ → List Row
  member_rows (known w) d = []
  member_rows (one f i) d = item_rows i f d
  member_rows (maybe f i) d = item_rows i f d
  member_rows (flag f) d = row_for f d Critical ∷ []
  member_rows (choose f l t g i j) d = row_for f d (shown_by l.tag) ∷ (item_rows i g d ++ drop 1 (item_rows j g d))

-- the rows of a signature record
abbrev pub rows : List Row
rows = rows_in signature 0

-- the row of a line; past the last one, the first
abbrev pub row_on : ℕ → Row
row_on n = get_or rows n (row_for SignedPart 0 Structure)

abbrev pub name_on : ℕ → Field
name_on n = (row_on n).0
