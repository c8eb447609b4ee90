-- The character at the front of a content by its size. Assumes nothing.
use Rattle.std.specs.Prelude.{ℕ, ◌+◌, Bool, true, false, ◌&&◌, List, [], ◌∷◌, length}
use Rattle.terms.specs.Answer.{pick}
use Rattle.contents.specs.Text.{Range, within, Character, starts, follows}

-- whether a byte of each range stands at the front, one after another
unfoldable pub goes_on : List Range → List ℕ → Bool
goes_on [] c = true
goes_on (r ∷ rs) [] = false
goes_on (r ∷ rs) (b ∷ c) = within b r && goes_on rs c

-- the size of a character whose first byte must be followed by `rs`, where `c` follows; 0 if it is none
unfoldable pub size_with : List Range → List ℕ → ℕ
size_with rs c = pick (goes_on rs c) (length rs + 1) 0

-- the size of the character at the front, 0 if there is none
unfoldable pub character_size : List Character → List ℕ → ℕ
character_size alphabet [] = 0
character_size alphabet (b ∷ c) = pick (starts alphabet b) (size_with (follows alphabet b) c) 0
