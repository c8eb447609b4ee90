-- The part that is cut out of a record. Assumes nothing.
use Rattle.std.specs.Prelude.{◌≡◌, ℕ, ◌+◌, ◌-◌, ◌≤◌, ◌<◌, length, take, drop}
use Rattle.std.proofs.Math.Path.{ap}
use Rattle.std.proofs.Common.{◌∙◌, arith, le-leb}
use mathlib.Core.List.{List, []}
use Rattle.std.proofs.lemmas.Bool.{lt-leb}
use Rattle.std.specs.Borrow.{Bor}
use Rattle.terms.specs.Answer.{pick}
use Rattle.records.specs.Part.{PartOf}
use Rattle.cuts.specs.Handed.{within}

-- ---- a start and a length inside so many bytes

module _ (n a l : ℕ) where
  pub within-yes : a + l ≤ n → within n (a, l) ≡ (a, l)
  unfolding within pick
  within-yes h = rw (le-leb (a + l) n h)

  within_no : n < a + l → within n (a, l) ≡ (0, 0)
  unfolding within pick
  within_no h = rw (lt-leb (a + l) n h)

-- nothing, at the start, is inside
pub within_nothing : (n : ℕ) → within n (0, 0) ≡ (0, 0)
within_nothing n = within-yes n 0 0 (omega arith)

-- ---- a part that is cut

module _ (s z : Bor (List ℕ)) where
  -- no bytes, at the start
  nothing : z.ref_ptr ≡ s.ref_ptr → z.now ≡ [] → PartOf s z (0, 0)
  nothing h k = record { lies = h ∙ ap (λ (n : ℕ). (s.ref_ptr.0, n)) (omega arith); holds = k }

  module _ (h : z.ref_ptr ≡ s.ref_ptr) (k : z.now ≡ []) where
    -- nothing is cut where the end lies past the record
    pub cut_outside : (a l : ℕ) → length s.now < a + l → PartOf s z (within (length s.now) (a, l))
    cut_outside a l g = rw (within_no (length s.now) a l g) (nothing h k)

  module _ (a l : ℕ) where
    -- what lies inside is cut
    pub cut_inside : a ≤ length s.now → l ≤ length s.now - a → z.ref_ptr ≡ (s.ref_ptr.0, a + s.ref_ptr.1) → z.now ≡ take (a + l - a) (drop a s.now) → PartOf s z (within (length s.now) (a, l))
    cut_inside g g' h k =
        let e : a + l - a ≡ l = omega arith in
        rw (within-yes (length s.now) a l (omega arith)) (record { lies = h ∙ ap (λ (n : ℕ). (s.ref_ptr.0, n)) (omega arith); holds = rw e at k })
