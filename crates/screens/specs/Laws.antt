-- What a table of places has on a line. Assumes nothing.
use Rattle.std.specs.Prelude.{◌≡◌, ℕ, Bool, not, List, length, get_or, drop, eqb}
use Rattle.std.proofs.Common.{subst}
use Rattle.std.specs.Borrow.{Bor}
use Rattle.layouts.specs.Places.{slot, under}
use Rattle.records.specs.Part.{PartOf}
use Rattle.cuts.specs.Handed.{part_under, span_of, within}
use Rattle.screen_rows.specs.Screen.{row_on, name_on}
use Rattle.screen_rows.specs.declared.Row.{Row}

-- what a table of places has under a row's name is what it has on the line
module _ (n : ℕ) (x : Row) (h : x ≡ row_on n) (d : List ℕ) where
  pub there_on : (b : Bool) → b ≡ not (eqb (get_or d (slot x.0) 0) 0) → b ≡ not (eqb (get_or d (slot (name_on n)) 0) 0)
  there_on b k = subst (λ (y : Row). b ≡ not (eqb (get_or d (slot y.0) 0) 0)) h k

  pub numbers_on : (xs : List ℕ) → xs ≡ drop 1 (under x.0 d) → xs ≡ drop 1 (under (name_on n) d)
  numbers_on xs k = subst (λ (y : Row). xs ≡ drop 1 (under y.0 d)) h k

  pub part_on : (s z : Bor (List ℕ)) → PartOf s z (within (length s.now) (span_of (part_under x.0 d))) → PartOf s z (within (length s.now) (span_of (part_under (name_on n) d)))
  part_on s z k = subst (λ (y : Row). PartOf s z (within (length s.now) (span_of (part_under y.0 d)))) h k
