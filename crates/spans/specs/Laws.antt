-- The values in a source, a law for each case. Assumes nothing.
use Rattle.std.specs.Prelude.{◌≡◌, refl, List, length, Ok, Err}
use Prim.Native.Nat.{ℕ, ◌+◌}
use Rattle.terms.specs.declared.Refusal.{Refusal}
use Rattle.terms.specs.Answer.{Answer}
use Rattle.heads.specs.Scan.{head_at}
use Rattle.heads.specs.declared.Span.{Span}
use Rattle.contents.specs.Leaves.{Leaf}
use Rattle.layouts.specs.SheetScan.{section_at, value_at as inSection}
use Rattle.sides.specs.declared.Side.TheVariants as side
use Rattle.sides.specs.Move.{span_of, span_at}

-- ---- a value

module _ (l : Leaf) (s : List ℕ) (p e : ℕ) (x : Answer Span) where
  module _ (t : ℕ) (i : t ≡ l.tag) (j : x ≡ head_at t s p e) where
    pub record_none : (r : Refusal) → x ≡ Err r → (p, p) ≡ span_at side.Record l s p e
    unfolding span_at
    record_none r h = rw (← i, ← j, h) refl

    pub record_there : (v : Span) (n : ℕ) → x ≡ Ok v → n ≡ length l.front → (v.start + n, v.end) ≡ span_at side.Record l s p e
    unfolding span_at
    record_there v n h k = rw (← i, ← j, h, k) refl

  module _ (j : x ≡ section_at s p e) where
    pub sheet_none : (r : Refusal) → x ≡ Err r → (p, p) ≡ span_at side.Sheet l s p e
    unfolding span_at
    sheet_none r h = rw (← j, h) refl

    pub sheet-there : (v : Span) (y : Answer Span) (b z : ℕ) → x ≡ Ok v → y ≡ inSection l.holds s p v.start v.end → (b, z) ≡ span_of p y → (b, z) ≡ span_at side.Sheet l s p e
    unfolding span_at
    sheet-there v y b z h k g = rw (← j, h, ← k) g
