-- A count and the bytes of a section by positions, a law for each step. Assumes nothing.
use Rattle.std.specs.Prelude.{◌≡◌, ℕ, suc, ◌+◌, ◌-◌, ◌*◌, ◌^◌, ◌≤◌, ◌<◌, length, get_or, take, drop, Ok, Err}
use Rattle.std.proofs.Math.Path.{refl, ap}
use Rattle.std.proofs.Common.{sym, ◌∙◌, arith, length-append, length-drop, length-take, Fits}
use Rattle.std.proofs.Math.Option.{some}
use mathlib.Core.List.{List, [], ◌∷◌}
use Rattle.std.proofs.Math.Seq.{slice, length-take-le}
use Rattle.std.specs.Int.{w8, w64}
use borrow.Author.Tests.{lt-ltb, le-leb, lt-leb}
use Rattle.terms.specs.declared.Reason.TheVariants.{BadSheet}
use Rattle.terms.specs.Answer.{Res, good, fault, pick, bind, need, have, every, Answer, refused, refusal_at}
use Rattle.terms.specs.Digits.{number_from, leading}
use Rattle.terms.specs.Laws.Answer.{never, same_refusal}
use Rattle.terms.specs.declared.Refusal.{Refusal}
use Rattle.layouts.specs.Sheet.{count_bytes, count, read_count, read_section}
use Rattle.layouts.specs.SheetScan.{counted, count_at, section_at}
use Rattle.layouts.proofs.Laws.Scan.{rest_slice}
use Rattle.layouts.proofs.Laws.Sheet.{count_back, length-count}
use Rattle.heads.specs.Scan.{span}

-- ---- a count

-- the number of four bytes
four_bytes : (w : List ℕ) (n : ℕ) → count_bytes ≤ length w → ((k : ℕ) → Fits w8 (get_or w k 0))
    → n ≡ get_or w 0 0 * 16777216 + get_or w 1 0 * 65536 + get_or w 2 0 * 256 + get_or w 3 0 → leading count_bytes w ≡ some (n, drop count_bytes w)
unfolding leading every number_from pick
four_bytes (x ∷ y ∷ z ∷ u ∷ w) n h f i =
    let l : count_bytes ≤ suc (suc (suc (suc (length w)))) = omega arith in
    let m : (((0 * 256 + x) * 256 + y) * 256 + z) * 256 + u ≡ n = omega (arith, i) in
    rw (le-leb count_bytes (suc (suc (suc (suc (length w))))) l, lt-ltb x 256 (f 0).fits, lt-ltb y 256 (f 1).fits, lt-ltb z 256 (f 2).fits, lt-ltb u 256 (f 3).fits, m) refl
four_bytes [] n h f i = absurd (omega arith)
four_bytes (x ∷ []) n h f i = absurd (omega arith)
four_bytes (x ∷ y ∷ []) n h f i = absurd (omega arith)
four_bytes (x ∷ y ∷ z ∷ []) n h f i = absurd (omega arith)

module _ (s w : List ℕ) (p e : ℕ) (i : w ≡ slice p e s) where
  pub count_cut : length w < count_bytes → refused BadSheet p ≡ count_at s p e
  unfolding count_at read_count leading have pick
  count_cut h = rw (← i, lt-leb count_bytes (length w) h)

  pub count-there : (n : ℕ) → count_bytes ≤ length w → ((k : ℕ) → Fits w8 (get_or w k 0)) → n ≡ get_or w 0 0 * 16777216 + get_or w 1 0 * 65536 + get_or w 2 0 * 256 + get_or w 3 0 → Ok n ≡ count_at s p e
  unfolding count_at read_count have
  count-there n h f k = rw (← i, four_bytes w n h f k) refl

-- ---- a section

module _ (s : List ℕ) (p e : ℕ) (c : Answer ℕ) (j : c ≡ count_at s p e) where
  pub section-cut : (r : Refusal) → c ≡ Err r → Err r ≡ section_at s p e
  unfolding count_at section_at read_section bind
  section-cut r h = go (read_count (slice p e s) p) refl (sym j ∙ h)
    where
      go : (x : Res (ℕ × List ℕ)) → read_count (slice p e s) p ≡ x → counted x ≡ Err r → Err r ≡ section_at s p e
      go (good m) o g = never (cc)
      go (fault m x) o g = let a : refusal_at m x ≡ r = same_refusal g in rw o (ap (λ (y : Refusal). Err y) (sym a))

  module _ (n : ℕ) (h : c ≡ Ok n) where
    -- what stands behind the count
    behind : read_count (slice p e s) p ≡ good (n, slice (p + count_bytes) e s)
    unfolding count_at
    behind = go (read_count (slice p e s) p) refl (sym j ∙ h)
      where
        go : (r : Res (ℕ × List ℕ)) → read_count (slice p e s) p ≡ r → counted r ≡ Ok n → read_count (slice p e s) p ≡ good (n, slice (p + count_bytes) e s)
        go (good m) o g =
            let a : m.0 ≡ n = cc in
            let q : m.1 ≡ slice (p + count_bytes) e s = rest_slice p e s (count m.0) m.1 (count_back (slice p e s) p m o) ∙ ap (λ (k : ℕ). slice (p + k) e s) (length-count m.0) in
            o ∙ rw (← a, ← q) refl
        go (fault m x) o g = never (cc)

    count-inside : p + count_bytes + length (slice (p + count_bytes) e s) ≤ length s
    count-inside =
        let w : List ℕ = slice (p + count_bytes) e s in
        let q : length (slice p e s) ≡ length (count n) + length w = ap length (count_back (slice p e s) p (n, w) behind) ∙ length-append (count n) w in
        let r : length (slice p e s) ≡ length (take e s) - p = length-drop p (take e s) in
        omega (arith, length-count n, length-take e s)

    pub fits_count : length s * 1 < 2 ^ 63 → Fits w64 (p + count_bytes)
    fits_count l = record { fits = omega (arith, count-inside) }

    module _ (w : List ℕ) (i : w ≡ slice (p + count_bytes) e s) where
      pub section_past : length w < n → refused BadSheet p ≡ section_at s p e
      unfolding section_at read_section bind need
      section_past k = rw (behind, ← i, lt-leb n (length w) k)

      pub section-there : n ≤ length w → Ok (span (p + count_bytes) (p + count_bytes + n)) ≡ section_at s p e
      unfolding section_at read_section bind need
      section-there k = rw (behind, ← i, le-leb n (length w) k, length-take-le n w k)

      pub fits_section : n ≤ length w → length s * 1 < 2 ^ 63 → Fits w64 (p + count_bytes + n)
      fits_section k l = let m : length w ≡ length (slice (p + count_bytes) e s) = ap length i in record { fits = omega (arith, count-inside) }
