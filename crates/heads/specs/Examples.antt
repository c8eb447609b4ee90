-- The outermost item's bound, evaluated: 3, then 17 by the declared size, then 4. Assumes nothing.
use Rattle.std.specs.Prelude.{◌≡◌, refl, List, [], ◌∷◌, ℕ}
use Rattle.terms.specs.Answer.{Res, fault, pick, bind, need, have, every}
use Rattle.terms.specs.Digits.{digits, number_from, leading}
use Rattle.terms.specs.Numbers.{largest_record}
use Rattle.terms.specs.declared.Reason.TheVariants.{BadLength, PastEnd, TooLarge}
use Rattle.heads.specs.Head.{forms, Cut, spell, octets, unspell, any_size, is_shortest, size, opening, cut, outermost}

-- what is opened to evaluate
evaluate : Unit {0}
unfolding pick bind need have every digits number_from leading spell octets unspell any_size is_shortest size opening cut outermost
evaluate = tt

-- a SEQUENCE of a declared length, of which nothing more is there
abbrev declared : List ℕ → Res Cut
declared length = outermost forms largest_record 0x30 (0x30 ∷ length) 0

spelled_first : declared (0x82 ∷ 0x00 ∷ 0xFF ∷ []) ≡ fault BadLength 0
unfolding evaluate
spelled_first = refl

too_large-before-past_end : declared (0x82 ∷ 0xFF ∷ 0xFC ∷ []) ≡ fault TooLarge 0
unfolding evaluate
too_large-before-past_end = refl

largest_is_past_end : declared (0x82 ∷ 0xFF ∷ 0xFB ∷ []) ≡ fault PastEnd 0
unfolding evaluate
largest_is_past_end = refl
