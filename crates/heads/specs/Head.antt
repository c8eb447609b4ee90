-- An item's head: its tag and its length (01, "Encoding"; X.690, 8.1). Assumes nothing.
use Rattle.std.specs.Prelude.{ℕ, ◌+◌, ◌^◌, Bool, List, [], ◌∷◌, ◌++◌, length, take, drop, leb, ltb, eqb}
use Rattle.terms.specs.declared.Reason.TheVariants.{ItemMissing, OtherTag, BadLength, PastEnd, TooLarge}
use Rattle.terms.specs.Answer.{Res, good, fault, pick, bind, need, have}
use Rattle.terms.specs.Digits.{digits, leading}

-- ---- the forms of a length

-- a first byte, and how many bytes follow it
pub record Form : Type 0 where
  pub octet : ℕ
  pub bytes : ℕ

-- "81 and one byte from 128; 82 and two from 256. Nothing else."
abbrev pub forms : List Form
forms = record { octet = 0x81; bytes = 1 } ∷ record { octet = 0x82; bytes = 2 } ∷ []

-- ---- writing

-- by the first form that has room
unfoldable pub spell : List Form → ℕ → List ℕ
spell [] n = []
spell (f ∷ fs) n = pick (ltb n (256 ^ f.bytes)) (f.octet ∷ digits 256 f.bytes n) (spell fs n)

-- "one byte below 128"
unfoldable pub octets : List Form → ℕ → List ℕ
octets fs n = pick (ltb n 128) (n ∷ []) (spell fs n)

unfoldable pub tlv : ℕ → List ℕ → List ℕ
tlv t c = t ∷ octets forms (length c) ++ c

-- how many bytes stand before a content of `n` bytes
abbrev pub before : ℕ → ℕ
before n = 1 + length (octets forms n)

-- ---- reading, by some forms

-- a length that was read: the bytes of tag and length together, those of the content, and what stands after the length
pub record Size : Type 0 where
  pub header : ℕ
  pub content : ℕ
  pub rest : List ℕ

abbrev pub sized : ℕ → ℕ → List ℕ → Size
sized h n w = record { header = h; content = n; rest = w }

unfoldable pub unspell : List Form → ℕ → ℕ → List ℕ → Res Size
unspell [] p a w = fault BadLength p
unspell (f ∷ fs) p a w = pick (eqb a f.octet) (bind (have (leading f.bytes w) BadLength p) λ z. good (sized (2 + f.bytes) z.0 z.1)) (unspell fs p a w)

-- a length, shortest or not
unfoldable pub any_size : List Form → ℕ → List ℕ → Res Size
any_size fs p [] = fault BadLength p
any_size fs p (a ∷ w) = pick (ltb a 128) (good (sized 2 a w)) (unspell fs p a w)

-- it has the bytes that are written for it
unfoldable pub is_shortest : List Form → Size → Bool
is_shortest fs z = eqb z.header (1 + length (octets fs z.content))

-- "length missing, cut or not a form above"
unfoldable pub size : List Form → ℕ → List ℕ → Res Size
size fs p w = bind (any_size fs p w) λ z. need (is_shortest fs z) BadLength p (good z)

-- an item's tag and length, at the start of a window whose offset is `b`: 1, 2, 3
unfoldable pub opening : List Form → ℕ → List ℕ → ℕ → Res Size
opening fs t [] b = fault ItemMissing b
opening fs t (x ∷ w) b = need (eqb x t) OtherTag b (size fs b w)

-- an item cut off a window: its content, what stands after it, and the offset of its content
pub record Cut : Type 0 where
  pub content : List ℕ
  pub rest : List ℕ
  pub start : ℕ

abbrev pub cut_off : List ℕ → List ℕ → ℕ → Cut
cut_off c w s = record { content = c; rest = w; start = s }

unfoldable pub cut : ℕ → Size → Res Cut
cut b z = need (leb z.content (length z.rest)) PastEnd b (good (cut_off (take z.content z.rest) (drop z.content z.rest) (b + z.header)))

unfoldable pub head : List Form → ℕ → List ℕ → ℕ → Res Cut
head fs t w b = bind (opening fs t w b) λ z. cut b z

-- the outermost item, of at most `most` bytes: 17 stands between 3 and 4
unfoldable pub outermost : List Form → ℕ → ℕ → List ℕ → ℕ → Res Cut
outermost fs most t w b = bind (opening fs t w b) λ z. need (leb (z.header + z.content) most) TooLarge b (cut b z)
