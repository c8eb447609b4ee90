-- What code answers of what may be absent: what was found, that it is absent, or the record's refusal. Assumes nothing.
use Rattle.std.specs.Prelude.{ℕ, Option, Some, None, Ok, Err}
use Rattle.terms.specs.Numbers.{absent}
use Rattle.terms.specs.Answer.{Answer, Told, told_none, refusal}
use Rattle.records.specs.declared.Part.{Part}

abbrev pub Found : Type 0 → Type 0
Found A = Answer (Option A)

abbrev pub part : ℕ → ℕ → Part
part a n = record { start = a; length = n }

-- in the paper's terms
abbrev pub told_found : {A : Type 0} → (A → Told) → Found A → Told
told_found t (Ok (Some x)) = t x
told_found t (Ok None) = told_none absent
told_found t (Err e) = refusal e.reason e.place
