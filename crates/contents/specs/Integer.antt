-- INTEGER: two's complement, the highest byte first, in the fewest bytes (01, "Encoding"; X.690, 8.3). Assumes nothing.
use Rattle.std.specs.Prelude.{ℕ, ◌-◌, ◌^◌, ◌<◌, Bool, true, false, not, ◌&&◌, List, [], ◌∷◌, ◌++◌, length, replicate, leb, ltb, eqb, ℤ, pos, negsuc}
use Rattle.std.proofs.Math.Option.{Option, none, some}
use Rattle.std.specs.Int.Signed.{le_z, mag}
use Rattle.terms.specs.Answer.{pick, same}
use Rattle.terms.specs.Digits.{digits, number}

-- the byte that may stand before another without changing the number
unfoldable pub sign : ℕ → ℕ
sign a = pick (ltb a 0x80) 0x00 0xFF

-- the first byte is needed
unfoldable pub shortest : List ℕ → Bool
shortest [] = false
shortest (a ∷ []) = true
shortest (a ∷ b ∷ c) = not (eqb a (sign b))

-- "1 to 8 bytes"
abbrev pub widest : ℕ
widest = 8

-- "An integer is a section of 8 bytes"
abbrev pub section_bytes : ℕ
section_bytes = 8

unfoldable pub well_formed : List ℕ → Bool
well_formed c = shortest c && leb (length c) widest

-- ---- the number of a content

-- every bit turned
unfoldable pub turned : List ℕ → List ℕ
turned [] = []
turned (a ∷ c) = (0xFF - a) ∷ turned c

-- `negsuc n` is -1 - n: two's complement has the bits of n there, each of them turned
unfoldable pub value : List ℕ → ℤ
value [] = pos 0
value (a ∷ c) = pick (ltb a 0x80) (pos (number 256 (a ∷ c))) (negsuc (number 256 (turned (a ∷ c))))

-- ---- the content of a number

unfoldable pub eight : ℤ → List ℕ
eight (pos n) = digits 256 section_bytes n
eight (negsuc n) = turned (digits 256 section_bytes n)

-- bytes that are not needed are taken off the front
unfoldable pub shrink : List ℕ → List ℕ
shrink [] = []
shrink (a ∷ []) = a ∷ []
shrink (a ∷ b ∷ c) = pick (eqb a (sign b)) (shrink (b ∷ c)) (a ∷ b ∷ c)

unfoldable pub content_of : ℤ → List ℕ
content_of z = shrink (eight z)

-- a number that eight bytes hold: `mag z` is z, or -1 - z of a negative z
abbrev pub Fits : ℤ → Type 0
Fits z = mag z < 2 ^ 63

-- ---- the section of a content: eight bytes

unfoldable pub sign_of : List ℕ → ℕ
sign_of [] = 0x00
sign_of (a ∷ c) = sign a

unfoldable pub stretch : List ℕ → List ℕ
stretch c = replicate (section_bytes - length c) (sign_of c) ++ c

unfoldable pub unstretch : List ℕ → Option (List ℕ)
unstretch x = pick (eqb (length x) section_bytes) (some (shrink x)) none

-- ---- which numbers are allowed where

-- "The seal type is any signed 64-bit number."
abbrev pub any : ℤ → Bool
any z = true

abbrev pub from_one : ℤ → ℤ → Bool
from_one most z = le_z (pos 1) z && le_z z most

-- "list kind, INTEGER 1 or 2"
abbrev pub is_kind : ℤ → Bool
is_kind z = from_one (pos 2) z

-- "Kind 1", of the kind's content
abbrev pub says_kind1 : List ℕ → Bool
says_kind1 c = same c (0x01 ∷ [])

-- "width and height in mm, INTEGER 1 to 65,535"
abbrev pub is_millimetres : ℤ → Bool
is_millimetres z = from_one (pos 65535) z
