-- The seal's fields on their lines: in the order of the names, two lines further.
use Rattle.std.specs.Prelude.{◌≡◌, ℕ, zero, suc, ◌+◌, ◌<◌, Bool, true, false, ◌&&◌, List, [], ◌∷◌, get_or, drop, T, eqb}
use Rattle.std.proofs.Common.{◌∙◌, arith, eqb→eq}
use denote.Enum.Declared.{tag_of}
use denote.Enum.Bare.{tag_one}
use Rattle.terms.specs.declared.Field.{Field}
use Rattle.terms.specs.contracts.Field.{the_type}
use Rattle.terms.specs.Laws.Answer.{and_l, and_r}
use Rattle.screen_rows.specs.Screen.{rows, row_on, name_on}
use Rattle.screen_rows.specs.declared.Row.{Row}

abbrev number : Field → ℕ
number f = tag_of the_type f

-- so many rows stand in the order of their fields' numbers, from a number on
in_order : ℕ → ℕ → List Row → Bool
in_order zero k xs = true
in_order (suc n) k [] = false
in_order (suc n) k (x ∷ xs) = eqb (number x.0) k && in_order n (suc k) xs

in_order_lem : (n k : ℕ) (xs : List Row) → T (in_order n k xs) → (i : ℕ) → i < n → (x : Row) → number (get_or xs i x).0 ≡ k + i
unfolding in_order
in_order_lem zero k xs t i h x = absurd (omega arith)
in_order_lem (suc n) k [] t i h x = absurd t
in_order_lem (suc n) k (y ∷ xs) t zero h x = eqb→eq (number y.0) k (and_l (eqb (number y.0) k) (in_order n (suc k) xs) t) ∙ omega arith
in_order_lem (suc n) k (y ∷ xs) t (suc i) h x = in_order_lem n (suc k) xs (and_r (eqb (number y.0) k) (in_order n (suc k) xs) t) i (omega arith) x ∙ omega arith

pub behind : (f : Field) → number f < 29 → f ≡ name_on (number f + 2)
unfolding in_order
behind f h =
    let e : number f + 2 ≡ suc (suc (number f)) = omega arith in
    let n : number (get_or (drop 2 rows) (number f) (row_on 0)).0 ≡ 0 + number f = in_order_lem 29 0 (drop 2 rows) tt (number f) h (row_on 0) in
    rw e (tag_one the_type tt f (get_or (drop 2 rows) (number f) (row_on 0)).0 (omega (arith, n)))
