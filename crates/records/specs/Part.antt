-- A part of a lent record: "handed out as a part of the lent record, never a copy" (01, "Handing out"). Assumes nothing.
use Rattle.std.specs.Prelude.{◌≡◌, ℕ, ◌+◌, List, take, drop}
use Rattle.std.specs.Borrow.{Bor}

-- `r` is the part of `s` that has a start and a length: it lies there, and holds these bytes
pub record PartOf (s r : Bor (List ℕ)) (p : ℕ × ℕ) : Type 0 where
  pub lies : r.ref_ptr ≡ (s.ref_ptr.0, s.ref_ptr.1 + p.0)
  pub holds : r.now ≡ take p.1 (drop p.0 s.now)

-- `r` has just these bytes, and lies in `s` at this offset
abbrev pub Lies : Bor (List ℕ) → Bor (List ℕ) → List ℕ → ℕ → Type 0
Lies s r x a = (r.now ≡ x) × (r.ref_ptr ≡ (s.ref_ptr.0, s.ref_ptr.1 + a))
