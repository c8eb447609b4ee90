-- Reading a sheet by positions: where what follows an item's sections starts, or the refusal. Assumes nothing.
-- Nobody has to believe this page: `Laws.SheetScan` proves that it is `Sheet`, and code is proved against its steps.
use Rattle.std.specs.Prelude.{ℕ, suc, zero, ◌+◌, ◌-◌, Bool, ◌||◌, List, [], ◌∷◌, length, leb, ltb, eqb, Ok, Err}
use Rattle.std.proofs.Math.Seq.{slice}
use Rattle.terms.specs.declared.Reason.TheVariants.{NoItem, TooManyItems, BadSheet}
use Rattle.terms.specs.Answer.{Res, good, fault, pick, same, Answer, refused}
use Rattle.heads.specs.Scan.{seen, span}
use Rattle.heads.specs.declared.Span.{Span}
use Rattle.contents.specs.Integer.{section_bytes, shrink}
use Rattle.contents.specs.Leaves.{Holding, bytes, number, Leaf, rule_of}
use Rattle.contents.specs.Scan.{checked_at}
use Rattle.layouts.specs.Layout.{Item, leaf, node, list, wrap, Members, end, ◌▸◌, Member, known, one, maybe, flag, choose}
use Rattle.layouts.specs.Scan.{then_seen, then_step, judged_at}
use Rattle.layouts.specs.Sheet.{count_bytes, read_count, read_section}

-- ---- counts and sections

abbrev pub counted : Res (ℕ × List ℕ) → Answer ℕ
counted (good n) = Ok n.0
counted (fault n p) = refused n p

unfoldable pub count_at : List ℕ → ℕ → ℕ → Answer ℕ
count_at s p e = counted (read_count (slice p e s) p)

-- the count of a list: 15 and 16 stand at it
abbrev pub within_of : Bool → ℕ → ℕ → Answer ℕ → Answer ℕ
within_of k n p (Ok c) = pick (k || ltb 0 c) (pick (leb c n) (Ok c) (refused TooManyItems p)) (refused NoItem p)
within_of k n p (Err e) = Err e

unfoldable pub list_count_at : Bool → ℕ → List ℕ → ℕ → ℕ → Answer ℕ
list_count_at k n s p e = within_of k n p (count_at s p e)

-- where a section's bytes lie
unfoldable pub section_at : List ℕ → ℕ → ℕ → Answer Span
section_at s p e = seen (read_section (slice p e s) p)

-- where the value in a section lies: of an integer those of its eight bytes that are needed
abbrev pub value_at : Holding → List ℕ → ℕ → ℕ → ℕ → Answer Span
value_at (bytes rule) s p a z = Ok (span a z)
value_at (number allowed) s p a z = pick (eqb (length (slice a z s)) section_bytes) (Ok (span (a + (section_bytes - length (shrink (slice a z s)))) z)) (refused BadSheet p)

-- a primitive item's section, then its value's own rule
unfoldable pub leaf_section_at : Leaf → List ℕ → ℕ → ℕ → Answer Span
leaf_section_at l s p e = then_seen (section_at s p e) λ a z. then_seen (value_at l.holds s p a z) λ b y. judged_at (checked_at (rule_of l.holds) s p b y) b y

-- "critical, of one byte 0 or 1"
unfoldable pub flag_section_at : List ℕ → ℕ → ℕ → Answer ℕ
flag_section_at s p e = then_seen (section_at s p e) λ a z. pick (same (slice a z s) (0 ∷ []) || same (slice a z s) (1 ∷ [])) (Ok z) (refused BadSheet p)

-- ---- every layout

-- so many items, one after another
unfoldable pub times_scan : (ℕ → Answer ℕ) → ℕ → ℕ → Answer ℕ
times_scan f zero p = Ok p
times_scan f (suc n) p = then_step (f p) λ q. times_scan f n q

unfoldable mutual
  pub sheet_scan : Item → List ℕ → ℕ → ℕ → Answer ℕ
  sheet_scan (leaf l) s p e = then_seen (leaf_section_at l s p e) λ a z. Ok z
  sheet_scan (node t r) s p e = sheet_scans r s p e
  sheet_scan (list t k n f i) s p e = then_step (list_count_at k n s p e) λ c. times_scan (λ q. sheet_scan i s q e) c (p + count_bytes)
  sheet_scan (wrap t i) s p e = sheet_scan i s p e

  pub sheet_scans : Members → List ℕ → ℕ → ℕ → Answer ℕ
  sheet_scans end s p e = Ok p
  sheet_scans (m ▸ r) s p e = then_step (sheet_scan_part m s p e) λ q. sheet_scans r s q e

  pub sheet_scan_part : Member → List ℕ → ℕ → ℕ → Answer ℕ
  sheet_scan_part (known k) s p e = Ok p
  sheet_scan_part (one f i) s p e = sheet_scan i s p e
  sheet_scan_part (maybe f i) s p e =
      then_step (count_at s p e) λ c. pick (eqb c 0) (Ok (p + count_bytes)) (pick (eqb c 1) (sheet_scan i s (p + count_bytes) e) (refused BadSheet p))
  sheet_scan_part (flag f) s p e = flag_section_at s p e
  sheet_scan_part (choose f l t g i j) s p e = then_seen (leaf_section_at l s p e) λ a z. pick (t (slice a z s)) (sheet_scan i s z e) (sheet_scan j s z e)

-- a sheet that is the whole slice: 19 at the first byte left over
unfoldable pub whole_sheet_scan : Members → List ℕ → Answer ℕ
whole_sheet_scan r s = then_step (sheet_scans r s 0 (length s)) λ q. pick (ltb q (length s)) (refused BadSheet q) (Ok (length s))
