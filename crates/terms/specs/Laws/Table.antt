-- Tables of examples: what is asked and what is answered, by one computed test over the table. Assumes nothing.
use Rattle.std.specs.Prelude.{◌≡◌, refl, Bool, true, false, ◌&&◌, List, [], ◌∷◌, T, eqb, ℤ, pos, negsuc}
use Rattle.std.proofs.Common.{ap, ap₂, eqb→eq}
use Rattle.terms.specs.Answer.{Told, gives, refuses}
use Rattle.terms.specs.Laws.Answer.{and_l, and_r}

abbrev pub Row : Type 0
Row = Told × Told

abbrev pub asks : List Row → List Told
asks [] = []
asks (x ∷ xs) = x.0 ∷ asks xs

abbrev pub answers : List Row → List Told
answers [] = []
answers (x ∷ xs) = x.1 ∷ answers xs

-- the test that is computed over a table
unfoldable pub same_number : ℤ → ℤ → Bool
same_number (pos a) (pos b) = eqb a b
same_number (pos a) (negsuc b) = false
same_number (negsuc a) (pos b) = false
same_number (negsuc a) (negsuc b) = eqb a b

unfoldable pub same_numbers : List ℤ → List ℤ → Bool
same_numbers [] [] = true
same_numbers [] (y ∷ ys) = false
same_numbers (x ∷ xs) [] = false
same_numbers (x ∷ xs) (y ∷ ys) = same_number x y && same_numbers xs ys

unfoldable pub same_told : Told → Told → Bool
same_told (gives m xs) (gives n ys) = eqb m n && same_numbers xs ys
same_told (gives m xs) (refuses n ys) = false
same_told (refuses m xs) (gives n ys) = false
same_told (refuses m xs) (refuses n ys) = eqb m n && same_numbers xs ys

unfoldable pub agree : List Row → Bool
agree [] = true
agree (x ∷ xs) = same_told x.0 x.1 && agree xs

-- ---- a table whose test is passed

same_number_eq : (x y : ℤ) → T (same_number x y) → x ≡ y
unfolding same_number
same_number_eq (pos a) (pos b) h = ap pos (eqb→eq a b h)
same_number_eq (pos a) (negsuc b) h = absurd h
same_number_eq (negsuc a) (pos b) h = absurd h
same_number_eq (negsuc a) (negsuc b) h = ap negsuc (eqb→eq a b h)

same_numbers_eq : (xs ys : List ℤ) → T (same_numbers xs ys) → xs ≡ ys
unfolding same_numbers
same_numbers_eq [] [] h = refl
same_numbers_eq [] (y ∷ ys) h = absurd h
same_numbers_eq (x ∷ xs) [] h = absurd h
same_numbers_eq (x ∷ xs) (y ∷ ys) h = ap₂ ◌∷◌ (same_number_eq x y (and_l (same_number x y) (same_numbers xs ys) h)) (same_numbers_eq xs ys (and_r (same_number x y) (same_numbers xs ys) h))

pub same_told_eq : (x y : Told) → T (same_told x y) → x ≡ y
unfolding same_told
same_told_eq (gives m xs) (gives n ys) h = ap₂ gives (eqb→eq m n (and_l (eqb m n) (same_numbers xs ys) h)) (same_numbers_eq xs ys (and_r (eqb m n) (same_numbers xs ys) h))
same_told_eq (gives m xs) (refuses n ys) h = absurd h
same_told_eq (refuses m xs) (gives n ys) h = absurd h
same_told_eq (refuses m xs) (refuses n ys) h = ap₂ refuses (eqb→eq m n (and_l (eqb m n) (same_numbers xs ys) h)) (same_numbers_eq xs ys (and_r (eqb m n) (same_numbers xs ys) h))

-- every answer is the one in its row
pub agreed : (rows : List Row) → T (agree rows) → asks rows ≡ answers rows
unfolding agree
agreed [] h = refl
agreed (x ∷ xs) h = ap₂ ◌∷◌ (same_told_eq x.0 x.1 (and_l (same_told x.0 x.1) (agree xs) h)) (agreed xs (and_r (same_told x.0 x.1) (agree xs) h))
