-- The steps of reading a head by positions: the length, and tag and length together. Assumes nothing.
use Rattle.std.specs.Prelude.{ℕ, ◌+◌, ◌-◌, List, [], ◌∷◌, get_or, Option, Some, None, Ok}
use Rattle.std.proofs.Math.Seq.{slice}
use Rattle.terms.specs.Answer.{Res, good, fault, Answer, refused}
use Rattle.heads.specs.Head.{forms, Size, size, opening}
use Rattle.items.specs.declared.Form.{Form}
use Rattle.items.specs.declared.Form.TheVariants.{Short, OneByte, TwoBytes}
use Rattle.items.specs.declared.Opening.{Opening}

-- by the bytes of tag and length together: 2, 3 or 4
abbrev pub form_of : ℕ → Form
form_of h = get_or (Short ∷ OneByte ∷ []) (h - 2) TwoBytes

-- the bytes of tag and length together, and those of the content
abbrev pub spelled : ℕ → ℕ → Opening
spelled h n = record { form = form_of h; header = h; content = n }

abbrev pub length_of : Res Size → Option Opening
length_of (good z) = Some (spelled z.header z.content)
length_of (fault n p) = None

-- the length of the item whose tag stands at `p`
unfoldable pub length_at : List ℕ → ℕ → ℕ → Option Opening
length_at s p e = length_of (size forms p (slice (p + 1) e s))

abbrev pub opened : Res Size → Answer Opening
opened (good z) = Ok (spelled z.header z.content)
opened (fault n p) = refused n p

unfoldable pub opening_at : ℕ → List ℕ → ℕ → ℕ → Answer Opening
opening_at t s p e = opened (opening forms t (slice p e s) p)
