-- A name's slot. Assumes nothing.
use Rattle.std.specs.Prelude.{◌≡◌, ℕ, ◌*◌, ◌<◌}
use Rattle.std.proofs.Common.{sym, ap, ◌∙◌}
use Rattle.terms.specs.declared.Field.{Field}
use Rattle.terms.specs.Names.{code, names_count, name_of}
use Rattle.terms.specs.Laws.Names.{code_name}
use Rattle.layouts.specs.Places.{slot}

-- a name is numbered by its place among the names
pub slot_name : (f : Field) (n r : ℕ) → f ≡ name_of n → n < names_count → r ≡ 4 * n → r ≡ slot f
unfolding slot
slot_name f n r h k q = q ∙ ap (λ (z : ℕ). 4 * z) (sym (ap code h ∙ code_name n k))
