-- Which rows of numbers are findings (03, 42). Assumes nothing.
use Rattle.std.specs.Prelude.{ℕ, Bool, ◌&&◌, List, length, get_or, eqb, ltb}

abbrev pub numbers_count : ℕ
numbers_count = 19

abbrev pub at : List ℕ → ℕ → ℕ
at xs k = get_or xs k 0

-- a flag is 0 or 1
abbrev pub is_flag : List ℕ → ℕ → Bool
is_flag xs k = ltb (at xs k) 2

unfoldable pub are_flags : List ℕ → ℕ → ℕ → ℕ → Bool
are_flags xs a b c = is_flag xs a && (is_flag xs b && is_flag xs c)

-- "a findings slice of another length, a flag or state outside its values" is not findings
unfoldable pub are_findings : List ℕ → Bool
are_findings xs = eqb (length xs) numbers_count && (are_flags xs 0 1 15 && (are_flags xs 3 4 7 && (are_flags xs 9 10 13 && ltb (at xs 17) 3)))
