-- What the rule of identifiers answers of a window, by the tests that the code made. Assumes nothing.
use Rattle.std.specs.Prelude.{◌≡◌, ℕ, ◌+◌, ◌≤◌, ◌<◌, Bool, true, false, not, ◌&&◌, List, length, get_or, drop, ltb, eqb}
use Rattle.std.proofs.Math.Path.{sym}
use Rattle.std.proofs.Common.{◌∙◌, add-one, drop_of_length-le, ne_eqb}
use Rattle.std.proofs.Math.Bool.{and-false}
use Rattle.std.proofs.Math.Seq.{slice, drop-cons}
use Rattle.terms.specs.declared.Reason.TheVariants.{BadIdentifier}
use Rattle.contents.specs.Content.{fine, ask}
use Rattle.contents.specs.Text.{parts_from, is_identifier}
use Rattle.contents.specs.Rules.{identifier_rule}
use Rattle.contents.specs.Scan.{checked, checked_at}
use Rattle.terms.specs.Answer.{Answer}

-- `y` is what was answered of the window `w`
module _ (s w : List ℕ) (p a z : ℕ) (win : w ≡ slice a z s) (y : Answer (Unit {0})) where
  pub identifier-rule : (t : Bool) → t ≡ is_identifier w → ((k : ℕ) → y ≡ checked (ask t BadIdentifier fine) p k) → y ≡ checked_at identifier_rule s p a z
  unfolding checked_at identifier_rule
  identifier-rule t g h = rw (← win, ← g) (h a)

-- `g` is whether a part begins at `i`
module _ (w : List ℕ) (i : ℕ) (g : Bool) (is : parts_from true w ≡ parts_from g (drop i w)) where
  pub parts_end : length w ≤ i → g ≡ parts_from true w
  unfolding parts_from
  parts_end h = sym (is ∙ rw (drop_of_length-le w h))

  parts_byte : i < length w → parts_from true w ≡ (not (g && eqb (get_or w i 0) 0x80) && parts_from (ltb (get_or w i 0) 0x80) (drop (i + 1) w))
  unfolding parts_from
  parts_byte h = is ∙ rw (add-one, drop-cons w i 0)

  pub parts-bad : i < length w → g ≡ true → get_or w i 0 ≡ 0x80 → false ≡ parts_from true w
  parts-bad h e f = sym (parts_byte h ∙ rw (e, f))

  pub parts_inside : i < length w → g ≡ false → parts_from true w ≡ parts_from (ltb (get_or w i 0) 0x80) (drop (i + 1) w)
  parts_inside h e = parts_byte h ∙ rw e

  pub parts_other : i < length w → (get_or w i 0 ≡ 0x80 → ⊥) → parts_from true w ≡ parts_from (ltb (get_or w i 0) 0x80) (drop (i + 1) w)
  parts_other h e = parts_byte h ∙ rw (ne_eqb (get_or w i 0) 0x80 e, and-false g)
