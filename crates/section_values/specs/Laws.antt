-- The value in a section by its cases. Assumes nothing.
use Rattle.std.specs.Prelude.{◌≡◌, refl, ℕ, ◌+◌, ◌-◌, ◌*◌, ◌^◌, ◌<◌, Bool, true, false, List, length, take, Ok}
use Rattle.std.proofs.Common.{sym, ◌∙◌, arith, length-drop, length-take, Fits}
use Rattle.std.proofs.Math.Path.{ap}
use Rattle.std.proofs.Math.Seq.{slice}
use Rattle.std.specs.Int.{w64}
use borrow.Author.Tests.{eq-eqb, ne_eqb}
use Rattle.terms.specs.declared.Reason.TheVariants.{BadSheet}
use Rattle.terms.specs.Answer.{pick, refused}
use Rattle.terms.specs.Laws.Answer.{never}
use Rattle.heads.specs.Scan.{span}
use Rattle.contents.specs.Integer.{section_bytes, shrink}
use Rattle.contents.specs.Leaves.{Holding, bytes, number}
use Rattle.layouts.specs.SheetScan.{value_at}
use Rattle.primitives.specs.declared.Primitive.{Primitive}
use Rattle.primitives.specs.Primitive.{leaf_of, is_number}

-- ---- the value in a section

module _ (f : Primitive) (s : List ℕ) (p a z : ℕ) (t : Bool) (i : t ≡ is_number (leaf_of f).holds) where
  pub value-bytes : t ≡ false → Ok (span a z) ≡ value_at (leaf_of f).holds s p a z
  value-bytes h = go (leaf_of f).holds (sym i ∙ h)
    where
      go : (x : Holding) → is_number x ≡ false → Ok (span a z) ≡ value_at x s p a z
      go (bytes rule) e = refl
      go (number allowed) e = never (cc)

  module _ (h : t ≡ true) (w : List ℕ) (j : w ≡ slice a z s) where
    pub value-cut : (length w ≡ section_bytes → ⊥) → refused BadSheet p ≡ value_at (leaf_of f).holds s p a z
    unfolding pick
    value-cut k = go (leaf_of f).holds (sym i ∙ h)
      where
        go : (x : Holding) → is_number x ≡ true → refused BadSheet p ≡ value_at x s p a z
        go (bytes rule) e = never (cc)
        go (number allowed) e = rw (← j, ne_eqb (length w) section_bytes k)

    pub value-number : (n : ℕ) → length w ≡ section_bytes → n ≡ length (shrink w) → Ok (span (a + (section_bytes - n)) z) ≡ value_at (leaf_of f).holds s p a z
    unfolding pick
    value-number n k g = go (leaf_of f).holds (sym i ∙ h)
      where
        go : (x : Holding) → is_number x ≡ true → Ok (span (a + (section_bytes - n)) z) ≡ value_at x s p a z
        go (bytes rule) e = never (cc)
        go (number allowed) e = rw (← j, eq-eqb (length w) section_bytes k, g)

-- so there is room for where it starts
pub fits_value : (s w : List ℕ) (a z n : ℕ) → w ≡ slice a z s → length w ≡ section_bytes → length s * 1 < 2 ^ 63 → Fits w64 (a + (section_bytes - n))
fits_value s w a z n j k l =
    let q : length w ≡ length (take z s) - a = ap length j ∙ length-drop a (take z s) in
    record { fits = omega (arith, length-take z s) }
