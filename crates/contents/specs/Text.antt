-- The alphabets of strings, and an identifier's parts (01, "Encoding"). Assumes nothing.
use Rattle.std.specs.Prelude.{ℕ, Bool, true, false, not, ◌&&◌, ◌||◌, List, [], ◌∷◌, length, leb, ltb, eqb}
use Rattle.terms.specs.Answer.{pick}

-- bytes from one to another
abbrev pub Range : Type 0
Range = ℕ × ℕ

unfoldable pub within : ℕ → Range → Bool
within b r = leb r.0 b && leb b r.1

-- a kind of character: where its first byte lies, and each byte after it
pub record Character : Type 0 where
  pub first : Range
  pub rest : List Range

abbrev pub character : ℕ → ℕ → List Range → Character
character low high more = record { first = (low, high); rest = more }

-- whether a character begins with a byte, and what must follow that byte
unfoldable pub starts : List Character → ℕ → Bool
starts [] b = false
starts (x ∷ xs) b = within b x.first || starts xs b

unfoldable pub follows : List Character → ℕ → List Range
follows [] b = []
follows (x ∷ xs) b = pick (within b x.first) x.rest (follows xs b)

-- whole characters, after a character of which `rs` is still to come
unfoldable pub text_from : List Character → List Range → List ℕ → Bool
text_from alphabet [] [] = true
text_from alphabet (r ∷ rs) [] = false
text_from alphabet [] (b ∷ c) = starts alphabet b && text_from alphabet (follows alphabet b) c
text_from alphabet (r ∷ rs) (b ∷ c) = within b r && text_from alphabet rs c

abbrev pub is_text : List Character → List ℕ → Bool
is_text alphabet c = text_from alphabet [] c

-- "IA5String bytes are below 80"
abbrev pub ia5 : List Character
ia5 = character 0x00 0x7F [] ∷ []

-- "PrintableString as X.680": A to Z, a to z, 0 to 9, space, ' ( ), + , - . /, :, =, ?
abbrev pub printable : List Character
printable =
    character 0x41 0x5A [] ∷ character 0x61 0x7A [] ∷ character 0x30 0x39 [] ∷ character 0x20 0x20 []
    ∷ character 0x27 0x29 [] ∷ character 0x2B 0x2F [] ∷ character 0x3A 0x3A [] ∷ character 0x3D 0x3D [] ∷ character 0x3F 0x3F [] ∷ []

-- a byte that goes on with a character of several bytes
abbrev tail : Range
tail = (0x80, 0xBF)

-- "UTF8String as RFC 3629": its section 4, row by row
abbrev pub utf8 : List Character
utf8 =
    character 0x00 0x7F []
    ∷ character 0xC2 0xDF (tail ∷ [])
    ∷ character 0xE0 0xE0 ((0xA0, 0xBF) ∷ tail ∷ [])
    ∷ character 0xE1 0xEC (tail ∷ tail ∷ [])
    ∷ character 0xED 0xED ((0x80, 0x9F) ∷ tail ∷ [])
    ∷ character 0xEE 0xEF (tail ∷ tail ∷ [])
    ∷ character 0xF0 0xF0 ((0x90, 0xBF) ∷ tail ∷ tail ∷ [])
    ∷ character 0xF1 0xF3 (tail ∷ tail ∷ tail ∷ [])
    ∷ character 0xF4 0xF4 ((0x80, 0x8F) ∷ tail ∷ tail ∷ [])
    ∷ []

-- ---- identifiers

-- whole parts; `true`: a part begins here. A part goes on while its bytes are 80 or above.
unfoldable pub parts_from : Bool → List ℕ → Bool
parts_from begins [] = begins
parts_from begins (b ∷ c) = not (begins && eqb b 0x80) && parts_from (ltb b 0x80) c

-- "1 to 64 bytes; no part begins with 80; the last byte is below 80"
unfoldable pub is_identifier : List ℕ → Bool
is_identifier c = leb 1 (length c) && (leb (length c) 64 && parts_from true c)
