-- What reading the input came to: how many bytes were read, no more than there is room for. Assumes nothing.
use Rattle.std.specs.Prelude.{◌≡◌, ℕ, ◌<◌, List, length, take, ◌≤◌, Option, Some, None, Result, Ok, Err}
use Rattle.std.specs.Io.{ReadsAtMost}
use Rattle.std.specs.Io.KnownBytes.{Consumes, IsAtEnd}

-- the bytes that were read lie in the buffer, from its start on
abbrev pub Filled : {E : Type 0} → Result ℕ E → List ℕ → Type 0
Filled r buf = ReadsAtMost r buf

-- the bytes in the buffer are those that the reader had next, and where the buffer has room left it has no more
abbrev pub Taken : {E : Type 0} → Option (List ℕ) → Option (List ℕ) → Result ℕ E → List ℕ → Type 0
Taken old new (Ok n) buf = Consumes old new (take n buf) × (n < length buf → IsAtEnd new)
Taken old new (Err _) buf = Unit {0}

-- what a program has of its input: as many bytes as it was given, in the buffer, and those that the reader had next
abbrev pub Given : {E : Type 0} → Option (List ℕ) → Option (List ℕ) → Result (Option ℕ) E → List ℕ → Type 0
Given old new (Ok (Some n)) buf = (n ≤ length buf) × Consumes old new (take n buf) × (n < length buf → IsAtEnd new)
Given old new (Ok None) buf = Unit {0}
Given old new (Err _) buf = Unit {0}
