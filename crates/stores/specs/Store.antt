-- Bytes stored one after another in a destination, as far as it has room. Assumes nothing.
-- Nobody has to believe this page: `Laws.Store` proves that what is stored from the start of a destination with room stands at its front.
use Rattle.std.specs.Prelude.{ℕ, zero, suc, ◌+◌, Bool, ◌&&◌, List, [], ◌∷◌, length, set, leb, ltb}
use Rattle.terms.specs.Answer.{pick}

-- where positions stop: more than any sheet of a record has, and more than a count has room for
abbrev pub cap : ℕ
cap = 4294967296

-- the position after a byte
unfoldable pub bump : ℕ → ℕ
bump o = pick (ltb o cap) (o + 1) o

-- the position after so many bytes
unfoldable pub advance : ℕ → ℕ → ℕ
advance o zero = o
advance o (suc n) = advance (bump o) n

-- a destination with bytes stored from a position on; past its end nothing is stored
unfoldable pub put : List ℕ → ℕ → List ℕ → List ℕ
put d o [] = d
put d o (b ∷ bs) = put (set d o b) (bump o) bs

-- the position after some bytes, and the destination with them
unfoldable pub puts : List ℕ → List ℕ → ℕ → ℕ × List ℕ
puts bs d o = (advance o (length bs), put d o bs)

-- whether so many bytes have room from a position on, before positions stop
unfoldable pub room_for : ℕ → ℕ → ℕ → Bool
room_for size o n = leb size cap && leb (o + n) size
