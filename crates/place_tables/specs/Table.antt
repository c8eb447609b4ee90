-- A record's table of places in a destination of numbers. Assumes nothing.
use Rattle.std.specs.Prelude.{◌≡◌, ℕ, List, ◌++◌, length, drop, leb}
use Rattle.terms.specs.Numbers.{done}
use Rattle.terms.specs.declared.Reason.TheVariants.{NoRoom}
use Rattle.terms.specs.Answer.{Res, good, fault, pick, Told, told_one, refusal}
use Rattle.layouts.specs.Layout.{Members, Values}
use Rattle.layouts.specs.Fields.{fields}
use Rattle.layouts.specs.Places.{table_size, Placed}
use Rattle.records.specs.Handing.{read_record}

-- a destination with a table at its start; one that has no room for it is left as it is
unfoldable pub put_table : List ℕ → List ℕ → List ℕ
put_table p d = pick (leb (length p) (length d)) (p ++ drop (length p) d) d

-- the length of an accepted record; 20 where the destination is too short, with the numbers that it has to have
abbrev pub room_for : {A : Type 0} → Res A → ℕ → ℕ → Told
room_for (good v) n k = pick (leb table_size k) (told_one done n) (refusal NoRoom table_size)
room_for (fault n p) l k = refusal n p

unfoldable pub table_answer : Members → List ℕ → List ℕ → Told
table_answer m w d = room_for (read_record m w) (length w) (length d)

-- "filled on acceptance and kept on refusal"
abbrev pub TableIn : (m : Members) → Res (Values m) → ℕ → List ℕ → List ℕ → Type 0
TableIn m (good v) i d d' = (p : List ℕ) × (length p ≡ table_size) × Placed i (fields m v) p × (d' ≡ put_table p d)
TableIn m (fault n p) i d d' = d' ≡ d

unfoldable pub TableAfter : Members → List ℕ → ℕ → List ℕ → List ℕ → Type 0
TableAfter m w i d d' = TableIn m (read_record m w) i d d'
