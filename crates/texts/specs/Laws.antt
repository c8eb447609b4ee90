-- What each content's rule answers of a window by the tests that the code made. Assumes nothing.
use Rattle.std.specs.Prelude.{◌≡◌, refl, ℕ, Bool, ◌||◌, List, length, ltb, Ok, Err}
use Rattle.std.proofs.Math.Bool.{false}
use Rattle.std.proofs.Common.{sym, ◌∙◌}
use Rattle.std.proofs.Math.Seq.{slice}
use Rattle.terms.specs.Answer.{same, Answer}
use Rattle.terms.specs.declared.Reason.TheVariants.{NotEs, BadCharacter, NoBytes}
use Rattle.terms.specs.Laws.Answer.{never}
use Rattle.contents.specs.Content.{Check, fine, wrong, ask}
use Rattle.contents.specs.Text.{Character, is_text, ia5}
use Rattle.contents.specs.Rules.{string_rule, also, only_rule}
use Rattle.contents.specs.Leaves.{header_name, known_rule}
use Rattle.contents.specs.Scan.{checked, checked_at}
use Rattle.terms.specs.declared.Refusal.{Refusal}
use Rattle.octets.specs.Laws.{enough_by}

-- a rule that goes before another: its refusal stands, or it is fine
fault_first : (c d : Check) (p a : ℕ) (r : Refusal) (y : Answer (Unit {0})) → y ≡ checked c p a → y ≡ Err r → y ≡ checked (also c d) p a
unfolding also
fault_first fine d p a r y e f = never (cc)
fault_first (wrong m x) d p a r y e f = e

fine_first : (c d : Check) (p a : ℕ) (u : Unit {0}) (y : Answer (Unit {0})) → y ≡ checked c p a → y ≡ Ok u → also c d ≡ d
unfolding also
fine_first fine d p a u y e f = refl
fine_first (wrong m x) d p a u y e f = never (cc)

-- `y` is what was answered of the window `w`
module _ (s w : List ℕ) (p a z : ℕ) (win : w ≡ slice a z s) (y : Answer (Unit {0})) where
  pub string-rule : (alphabet : List Character) (e t may : Bool) → e ≡ may || ltb 0 (length w) → t ≡ is_text alphabet w → ((k : ℕ) → y ≡ checked (ask e NoBytes (ask t BadCharacter fine)) p k) → y ≡ checked_at (string_rule alphabet may) s p a z
  unfolding checked_at string_rule
  string-rule alphabet e t may g h i = rw (← win, enough_by may w, ← g, ← h) (i a)

  pub header_rule : (x : Answer (Unit {0})) (t : Bool) → x ≡ checked_at (string_rule ia5 false) s p a z → x ≡ Ok tt → t ≡ same w header_name.content → ((k : ℕ) → y ≡ checked (ask t NotEs fine) p k) → y ≡ checked_at (known_rule header_name) s p a z
  unfolding checked_at only_rule
  header_rule x t e f g h = rw (fine_first (string_rule ia5 false (slice a z s)) (ask (same (slice a z s) header_name.content) NotEs fine) p a tt x e f, ← win, ← g) (h a)

-- the header's name: the string's refusal stands
pub header_text : (s : List ℕ) (p a z : ℕ) (r : Refusal) (y : Answer (Unit {0})) → y ≡ checked_at (string_rule ia5 false) s p a z → y ≡ Err r → Err r ≡ checked_at (known_rule header_name) s p a z
unfolding checked_at only_rule
header_text s p a z r y e f = sym f ∙ fault_first _ _ p a r y e f
