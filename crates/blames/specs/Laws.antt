-- The name of a field that is refused, by its cases. Assumes nothing.
use Rattle.std.specs.Prelude.{◌≡◌, ℕ, ◌+◌, ◌-◌, ◌<◌, ◌≤◌, List, length, get_or, set}
use Rattle.std.proofs.Math.Path.{ap}
use Rattle.std.proofs.Common.{◌∙◌}
use borrow.Author.Tests.{lt-ltb, le-ltb, eq-eqb, ne_eqb}
use Rattle.terms.specs.declared.Field.{Field}
use Rattle.terms.specs.Answer.{pick}
use Rattle.terms.specs.Names.{code, names_count, name_of}
use Rattle.terms.specs.Laws.Names.{code_name}
use Rattle.layouts.specs.Places.{table_size}
use Rattle.layouts.specs.Marks.{unblamed, blamed}

module _ (f : Field) (d : List ℕ) where
  pub blamed_short : length d ≤ table_size → d ≡ blamed f d
  unfolding blamed unblamed pick
  blamed_short h = rw (le-ltb table_size (length d) h)

  module _ (h : table_size < length d) where
    pub blamed-held : (get_or d table_size 0 ≡ 0 → ⊥) → d ≡ blamed f d
    unfolding blamed unblamed pick
    blamed-held g = rw (lt-ltb table_size (length d) h, ne_eqb (get_or d table_size 0) 0 g)

    pub blamed-first : get_or d table_size 0 ≡ 0 → (n : ℕ) → f ≡ name_of n → n < names_count → set d table_size (n + 1) ≡ blamed f d
    unfolding blamed unblamed pick
    blamed-first g n e b = let q : code f ≡ n = ap code e ∙ code_name n b in rw (lt-ltb table_size (length d) h, eq-eqb (get_or d table_size 0) 0 g, q)
