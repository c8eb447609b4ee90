-- The steps of noting a field. Assumes nothing.
use Rattle.std.specs.Prelude.{◌≡◌, ℕ, ◌+◌, ◌-◌, ◌<◌, ◌≤◌, Bool, true, false, ◌&&◌, List, length, get_or, T, eqb, ltb}
use Rattle.std.proofs.Common.{arith, ltb→lt}
use Rattle.terms.specs.declared.Field.{Field}
use Rattle.terms.specs.Answer.{pick}
use Rattle.terms.specs.Laws.Answer.{and_l, and_r}
use Rattle.layouts.specs.Places.{wanted, slot}
use Rattle.layouts.specs.Marks.{free, filled, noted}

module _ (f : Field) (k a z i : ℕ) (d : List ℕ) (n : ℕ) (b : Bool) (q : n ≡ slot f) (e : b ≡ eqb k (wanted d) && free d n) where
  pub noted-held : b ≡ false → d ≡ noted f k a z i d
  unfolding noted pick
  noted-held g = rw (← q, ← e, g)

  pub noted-free : (x : List ℕ) (l : ℕ) → b ≡ true → l ≡ z - a → x ≡ filled d n a l i → x ≡ noted f k a z i d
  unfolding noted pick
  noted-free x l g m y = rw (← q, ← e, g, ← m) y

-- what is taken lies in the table, each of the four numbers
pub takes_in : (d : List ℕ) (n k : ℕ) (b : Bool) (j : ℕ) → b ≡ eqb k (wanted d) && free d n → b ≡ true → j ≤ 3 → n + j < length d
unfolding free
takes_in d n k b j e g h =
    let t : T (eqb k (wanted d) && free d n) = rw (← e, g) tt in
    let l = ltb→lt (n + 3) (length d) (and_l (ltb (n + 3) (length d)) (eqb (get_or d n 0) 0) (and_r (eqb k (wanted d)) (free d n) t)) in
    omega arith
