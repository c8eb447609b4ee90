-- A number past the last name. Assumes nothing.
use Rattle.std.specs.Prelude.{◌≡◌, ℕ, zero, suc, ◌≤◌}
use Rattle.std.proofs.Common.{sym, arith}
use Rattle.std.proofs.Math.ListN.{get_or-eq_default}
use Rattle.terms.specs.declared.Field.TheVariants.{SealInformation}
use Rattle.terms.specs.Names.{names, names_count, name_of}

-- a number that is none of those below a bound is not below it
unfoldable pub Besides : ℕ → ℕ → Type 0
Besides zero n = Unit {0}
Besides (suc k) n = Besides k n × (n ≡ k → ⊥)

past : (k n : ℕ) → Besides k n → k ≤ n
unfolding Besides
past zero n h = omega arith
past (suc k) n h = let l : k ≤ n = past k n h.0 in omega (arith, l, h.1)

pub unnamed : (n : ℕ) → Besides names_count n → SealInformation ≡ name_of n
unnamed n h = sym (get_or-eq_default names SealInformation (past names_count n h))
