-- An answer as one number (03, 42). Assumes nothing.
use Rattle.std.specs.Prelude.{◌≡◌, ℕ, ◌+◌, ◌*◌, ◌%◌, List, [], ◌∷◌, ℤ, pos, negsuc, Option, Some, None, Ok, Err}
use Rattle.terms.specs.Numbers.{reason_number, done, absent}
use Rattle.terms.specs.Answer.{Answer, Told, gives, refuses}

-- "the number in the lowest 8 bits, the place or length above it": its last 56 bits, which every place in what a machine holds has room in
abbrev pub packed : ℕ → ℕ → ℕ
packed n x = (x % 72057594037927936) * 256 + n

-- the values that are told, 0 where there is none
abbrev pub size : ℤ → ℕ
size (pos n) = n
size (negsuc n) = 0

abbrev pub first : List ℤ → ℤ
first [] = pos 0
first (z ∷ zs) = z

abbrev pub second : List ℤ → ℤ
second [] = pos 0
second (z ∷ zs) = first zs

-- a refusal with its place, and of what is told nothing, the first value or the second one
abbrev pub packed_number : Told → ℕ
packed_number (gives n zs) = packed n 0
packed_number (refuses n zs) = packed n (size (first zs))

abbrev pub packed_first : Told → ℕ
packed_first (gives n zs) = packed n (size (first zs))
packed_first (refuses n zs) = packed n (size (first zs))

abbrev pub packed_second : Told → ℕ
packed_second (gives n zs) = packed n (size (second zs))
packed_second (refuses n zs) = packed n (size (first zs))

-- a step of a run, with the position after it
abbrev pub packed_step : Told → ℕ → ℕ
packed_step (gives n zs) p = packed n p
packed_step (refuses n zs) p = packed n (size (first zs))

-- what is handed on as it is: a value, and how many records were read
abbrev pub value_told : Told → ℤ
value_told (gives n zs) = first zs
value_told (refuses n zs) = pos 0

abbrev pub records_told : Told → ℕ
records_told (gives n zs) = size (first zs)
records_told (refuses n zs) = size (second zs)

-- the number of what may be absent
abbrev pub packed_found : Answer (Option ℕ) → ℕ
packed_found (Ok (Some n)) = packed done n
packed_found (Ok None) = packed absent 0
packed_found (Err e) = packed (reason_number e.reason) e.place
