-- How long a month is at most. Assumes nothing.
use Rattle.std.specs.Prelude.{◌≡◌, ℕ, suc, zero, ◌-◌, ◌≤◌, Bool, true, false, ◌&&◌, List, [], ◌∷◌, get_or, T, leb, eqb}
use Rattle.std.proofs.Common.{arith, leb→le}
use Rattle.terms.specs.Answer.{pick, every}
use Rattle.terms.specs.Laws.Answer.{and_l, and_r}
use Rattle.contents.specs.Time.{leap, months, month_length}

-- no month has more than 31 days
table_most : (xs : List ℕ) (k : ℕ) → T (every (λ x. leb x 31) xs) → get_or xs k 0 ≤ 31
unfolding every
table_most [] k h = omega arith
table_most (x ∷ xs) zero h = leb→le x 31 (and_l (leb x 31) _ h)
table_most (x ∷ xs) (suc k) h = table_most xs k (and_r (leb x 31) _ h)

pub month_most : {r : ℕ} (y m : ℕ) → r ≡ month_length y m → r ≤ 99
unfolding month_length pick every
month_most y m e = rw e (go (leap y && eqb m 2))
  where
    go : (b : Bool) → pick b 29 (get_or months (m - 1) 0) ≤ 99
    go true = omega arith
    go false = omega (arith, table_most months (m - 1) tt)
