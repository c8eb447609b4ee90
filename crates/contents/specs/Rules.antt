-- The rules of values, with 01's order of refusals in each: "6 before 7, .. 14 and 9 before 8". Assumes nothing.
use Rattle.std.specs.Prelude.{Bool, List, [], ◌∷◌, ℕ, ℤ}
use Rattle.terms.specs.declared.Reason.{Reason}
use Rattle.terms.specs.declared.Reason.TheVariants.{BadInteger, NotAllowed, BadCharacter, BadIdentifier, BadBoolean, NoBytes}
use Rattle.terms.specs.Answer.{enough, same}
use Rattle.contents.specs.Content.{Check, fine, wrong, ask}
use Rattle.contents.specs.Integer.{well_formed, value}
use Rattle.contents.specs.Text.{Character, is_text, is_identifier}

-- 6, then 7 by a test of the number
unfoldable pub integer_rule : (ℤ → Bool) → List ℕ → Check
integer_rule allowed c = ask (well_formed c) BadInteger (ask (allowed (value c)) NotAllowed fine)

-- 14 where a byte is needed, then 9
unfoldable pub string_rule : List Character → Bool → List ℕ → Check
string_rule alphabet empty c = ask (enough empty c) NoBytes (ask (is_text alphabet c) BadCharacter fine)

unfoldable pub octets_rule : Bool → List ℕ → Check
octets_rule empty c = ask (enough empty c) NoBytes fine

unfoldable pub identifier_rule : List ℕ → Check
identifier_rule c = ask (is_identifier c) BadIdentifier fine

-- "left out when false, else 01 01 FF"
abbrev pub yes_byte : List ℕ
yes_byte = 0xFF ∷ []

unfoldable pub boolean_rule : List ℕ → Check
boolean_rule c = ask (same c yes_byte) BadBoolean fine

-- one rule after another
unfoldable pub also : Check → Check → Check
also fine k = k
also (wrong n x) k = wrong n x

-- a content that has to be one known content, after its own rule
unfoldable pub only_rule : (List ℕ → Check) → List ℕ → Reason → List ℕ → Check
only_rule rule k n c = also (rule c) (ask (same c k) n fine)
