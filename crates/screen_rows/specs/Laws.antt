-- The rows by their lines, and that each name stands on one. Assumes nothing.
use Rattle.std.specs.Prelude.{◌≡◌, ℕ, zero, suc, ◌+◌, ◌≤◌, ◌<◌, Bool, true, ◌&&◌, List, [], ◌∷◌, length, get_or, T, eqb}
use Rattle.std.proofs.Common.{sym, ap, ◌∙◌, arith, eqb→eq}
use Rattle.std.proofs.lemmas.List.{get_or_default}
use Rattle.std.proofs.Math.ListN.{get_or-eq_default}
use Rattle.terms.specs.declared.Field.{Field}
use Rattle.terms.specs.Names.{names_count, same_name}
use Rattle.terms.specs.Answer.{pick}
use Rattle.terms.specs.Laws.Answer.{and_l, and_r}
use Rattle.screen_rows.specs.Screen.{rows, row_on, name_on}
use Rattle.screen_rows.specs.declared.Row.{Row}

-- a row by the line's number; past the last line, the first
pub on_line : (n : ℕ) (x : Row) → n < names_count → get_or rows n x ≡ row_on n
on_line n x h = get_or_default rows n x (row_on 0) h

pub past_last : (n : ℕ) → names_count ≤ n → row_on 0 ≡ row_on n
past_last n h = sym (get_or-eq_default rows (row_on 0) h)

-- the first of some rows that has a name, by how many stand before it
line_in : List Row → Field → ℕ
line_in [] f = 0
line_in (x ∷ xs) f = pick (same_name x.0 f) 0 (suc (line_in xs f))

-- the test that is computed over the rows
in_order : ℕ → List Row → Bool
in_order k [] = true
in_order k (x ∷ xs) = eqb (line_in rows x.0) k && in_order (suc k) xs

in_order_lem : (k : ℕ) (xs : List Row) → T (in_order k xs) → (i : ℕ) → i < length xs → (x : Row) → line_in rows (get_or xs i x).0 ≡ k + i
unfolding in_order
in_order_lem k [] t i h x = absurd (omega arith)
in_order_lem k (y ∷ ys) t zero h x = eqb→eq (line_in rows y.0) k (and_l (eqb (line_in rows y.0) k) (in_order (suc k) ys) t) ∙ omega arith
in_order_lem k (y ∷ ys) t (suc i) h x = in_order_lem (suc k) ys (and_r (eqb (line_in rows y.0) k) (in_order (suc k) ys) t) i (omega arith) x ∙ omega arith

line_name : (n : ℕ) → n < names_count → line_in rows (name_on n) ≡ n
unfolding in_order line_in pick
line_name n h = in_order_lem 0 rows tt n h (row_on 0) ∙ omega arith

-- a name stands on one line
pub line_one : (n m : ℕ) → n < names_count → m < names_count → name_on n ≡ name_on m → n ≡ m
line_one n m h k e = sym (line_name n h) ∙ ap (line_in rows) e ∙ line_name m k
