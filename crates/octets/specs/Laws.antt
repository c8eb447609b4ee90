-- What the rules of octets, bits and the BOOLEAN answer of a window, by the tests that the code made. Assumes nothing.
use Rattle.std.specs.Prelude.{◌≡◌, refl, nat_eq, Ok, Err, ℕ, zero, suc, ◌+◌, Bool, true, false, ◌&&◌, ◌||◌, List, [], ◌∷◌, length, take, drop, ltb, eqb}
use Rattle.std.proofs.Common.{sym, ap, ◌∙◌, arith, lt-ltb, ne_eqb}
use Rattle.std.proofs.Math.Seq.{slice, drop-drop}
use Rattle.terms.specs.Answer.{pick, never_empty, enough, same, Answer, refused}
use Rattle.std.specs.Cmp.Lexicographic.{pointwise}
use Rattle.terms.specs.Laws.Answer.{never}
use Rattle.terms.specs.declared.Reason.{Reason}
use Rattle.terms.specs.declared.Refusal.{Refusal}
use Rattle.terms.specs.declared.Reason.TheVariants.{BadBits, BadBoolean, NoBytes}
use Rattle.contents.specs.Content.{Check, fine, ask, place_of}
use Rattle.contents.specs.Rules.{octets_rule, yes_byte, boolean_rule}
use Rattle.contents.specs.Leaves.{bit_string}
use Rattle.contents.specs.Scan.{checked, checked_at, behind_at}

-- a byte that is needed is there just where the length is not 0
pub enough_by : (may : Bool) (w : List ℕ) → enough may w ≡ may || ltb 0 (length w)
unfolding enough
enough_by true w = refl
enough_by false [] = refl
enough_by false (b ∷ w) = rw (lt-ltb 0 (suc (length w)) (omega arith))

-- of two tests, the first before the second
module _ (t : Bool) (n : Reason) (c : Check) (p a : ℕ) (y : Answer (Unit {0})) (is : y ≡ checked (ask t n fine) p a) where
  pub first_refused : (r : Refusal) → y ≡ Err r → Err r ≡ checked (ask t n c) p a
  unfolding ask
  first_refused r e = go t (sym is ∙ e)
    where
      go : (u : Bool) → checked (ask u n fine) p a ≡ Err r → Err r ≡ checked (ask u n c) p a
      go true f = never (cc)
      go false f = sym f

  pub first_fine : (u : Unit {0}) (x : Answer (Unit {0})) → y ≡ Ok u → x ≡ checked c p a → x ≡ checked (ask t n c) p a
  unfolding ask
  first_fine u x e h = go t (sym is ∙ e)
    where
      go : (v : Bool) → checked (ask v n fine) p a ≡ Ok u → x ≡ checked (ask v n c) p a
      go true f = h
      go false f = never (cc)

-- bits: a first byte that is to be 00, and another after it
first_by : (w : List ℕ) (p a : ℕ)
    → checked (ask (same (take 1 w) (0x00 ∷ [])) BadBits (ask (ltb 1 (length w)) NoBytes fine)) p a ≡ pick (same (take 1 w) (0x00 ∷ [])) (checked (octets_rule never_empty (drop 1 w)) p a) (refused BadBits p)
unfolding octets_rule enough same ask pick place_of
first_by [] p a = refl
first_by (b ∷ w) p a = rw (after w) (first (eqb b 0x00) _)
  where
    first : (t : Bool) (k : Check) → checked (ask (t && true) BadBits k) p a ≡ pick (t && true) (checked k p a) (refused BadBits p)
    first true k = refl
    first false k = refl

    after : (x : List ℕ) → ltb 1 (suc (length x)) ≡ enough never_empty x
    after [] = refl
    after (y ∷ x) = lt-ltb 1 (suc (suc (length x))) (omega arith)

-- whether a window's first byte is 00, and whether the window begins with 00, is one question
begins_by : (w : List ℕ) → pointwise nat_eq (0x00 ∷ []) (take 1 w) ≡ same (take 1 w) (0x00 ∷ [])
unfolding same
begins_by [] = refl
begins_by (b ∷ w) = ap (λ (t : Bool). t && true) (zero_first b)
  where
    zero_first : (x : ℕ) → eqb 0 x ≡ eqb x 0
    zero_first zero = refl
    zero_first (suc x) = ne_eqb 0 (suc x) (λ e. omega arith) ∙ sym (ne_eqb (suc x) 0 (λ e. omega arith))

-- the same, by what the window begins with
bits_by : (w : List ℕ) (p a : ℕ)
    → checked (ask (pointwise nat_eq (0x00 ∷ []) (take 1 w)) BadBits (ask (ltb 1 (length w)) NoBytes fine)) p a ≡ pick (same (take 1 w) (0x00 ∷ [])) (checked (octets_rule never_empty (drop 1 w)) p a) (refused BadBits p)
bits_by w p a = rw (begins_by w) (first_by w p a)

-- `y` is what was answered of the window `w`
module _ (s w : List ℕ) (p a z : ℕ) (win : w ≡ slice a z s) (y : Answer (Unit {0})) where
  pub octets-rule : (e may : Bool) → e ≡ may || ltb 0 (length w) → ((k : ℕ) → y ≡ checked (ask e NoBytes fine) p k) → y ≡ checked_at (octets_rule may) s p a z
  unfolding checked_at octets_rule
  octets-rule e may g h = rw (← win, enough_by may w, ← g) (h a)

  pub boolean-rule : (t : Bool) → t ≡ same w yes_byte → ((k : ℕ) → y ≡ checked (ask t BadBoolean fine) p k) → y ≡ checked_at boolean_rule s p a z
  unfolding checked_at boolean_rule
  boolean-rule t g h = rw (← win, ← g) (h a)

  -- bits, by what the window begins with
  pub bits_rule : (t : Bool) → t ≡ pointwise nat_eq (0x00 ∷ []) (take 1 w) → ((k : ℕ) → y ≡ checked (ask t BadBits (ask (ltb 1 (length w)) NoBytes fine)) p k) → y ≡ behind_at bit_string.front (octets_rule never_empty) s p a z
  unfolding behind_at checked_at
  bits_rule t e h = rw (← drop-drop 1 a (take z s), ← win) (h (a + 1) ∙ rw e (bits_by w p (a + 1)))

  -- bits, by the window's first byte
  pub bits_first : (t : Bool) → t ≡ same (take 1 w) (0x00 ∷ []) → ((k : ℕ) → y ≡ checked (ask t BadBits (ask (ltb 1 (length w)) NoBytes fine)) p k) → y ≡ behind_at bit_string.front (octets_rule never_empty) s p a z
  bits_first t e = bits_rule t (e ∙ sym (begins_by w))
