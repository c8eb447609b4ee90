-- What stands before a value, and what is moved as a destination holds it. Assumes nothing.
-- Nobody has to believe this page: it names what `Move` says of a primitive item, and what `Store` says of what is moved.
use Rattle.std.specs.Prelude.{ℕ, ◌-◌, List, [], length, replicate}
use Rattle.contents.specs.Integer.{section_bytes, sign_of}
use Rattle.contents.specs.Leaves.{Holding, bytes, number, Leaf}
use Rattle.sides.specs.declared.Side.{Side}
use Rattle.sides.specs.declared.Side.TheVariants.{Record, Sheet}
use Rattle.sides.specs.Move.{Moved}
use Rattle.stores.specs.Store.{advance, put}

-- what stands before a value in its section
abbrev pub extension : Holding → List ℕ → List ℕ
extension (bytes rule) v = []
extension (number allowed) v = replicate (section_bytes - length v) (sign_of v)

-- what stands before a value in its content or its section
abbrev pub padding : Side → Leaf → List ℕ → List ℕ
padding Record l v = l.front
padding Sheet l v = extension l.holds v

-- where what follows starts in the source and in the destination, and the destination with the bytes
unfoldable pub wrote : Moved → List ℕ → ℕ → ℕ × ℕ × List ℕ
wrote m d o = (m.0, advance o (length m.1), put d o m.1)
