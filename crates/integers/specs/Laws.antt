-- The rule of an integer by its number, with premises as code has them. Assumes nothing.
use Rattle.std.specs.Prelude.{◌≡◌, ℕ, Bool, true, false, List, ℤ, Option, Some, None, Ok}
use Rattle.std.proofs.Common.{sym, ◌∙◌}
use Rattle.std.proofs.Math.Seq.{slice}
use Rattle.terms.specs.declared.Reason.TheVariants.{BadInteger, NotAllowed}
use Rattle.terms.specs.Answer.{same, refused}
use Rattle.contents.specs.Content.{ask, place_of}
use Rattle.contents.specs.Rules.{integer_rule, also, only_rule}
use Rattle.contents.specs.Leaves.{known_rule, version}
use Rattle.contents.specs.Scan.{checked_at}
use Rattle.numbers.specs.Number.{number_at}
use Rattle.numbers.specs.Laws.{number_well, number_ill}
use Rattle.integers.specs.Allowed.{allowed_of}
use Rattle.integers.specs.declared.Allowed.{Allowed}

-- ---- the rule, by what was read

module _ (s : List ℕ) (p a z : ℕ) (x : Option ℤ) (is : x ≡ number_at s a z) (k : Allowed) where
  pub integer-bad : x ≡ None → refused BadInteger p ≡ checked_at (integer_rule (allowed_of k)) s p a z
  unfolding checked_at integer_rule number_at ask place_of
  integer-bad e = rw (number_ill (slice a z s) (sym is ∙ e))

  pub integer_good : (v : ℤ) (t : Bool) → x ≡ Some v → t ≡ allowed_of k v → t ≡ true → Ok tt ≡ checked_at (integer_rule (allowed_of k)) s p a z
  unfolding checked_at integer_rule number_at ask
  integer_good v t e f g = let w = number_well (slice a z s) v (sym is ∙ e) in rw (w.0, w.1, ← f, g)

  pub integer-other : (v : ℤ) (t : Bool) → x ≡ Some v → t ≡ allowed_of k v → t ≡ false → refused NotAllowed p ≡ checked_at (integer_rule (allowed_of k)) s p a z
  unfolding checked_at integer_rule number_at ask place_of
  integer-other v t e f g = let w = number_well (slice a z s) v (sym is ∙ e) in rw (w.0, w.1, ← f, g)

module _ (s : List ℕ) (p a z : ℕ) (x : Option ℤ) (is : x ≡ number_at s a z) where
  pub version-bad : x ≡ None → refused BadInteger p ≡ checked_at (known_rule version) s p a z
  unfolding checked_at only_rule also integer_rule number_at ask place_of
  version-bad e = rw (number_ill (slice a z s) (sym is ∙ e))

  pub version_good : (v : ℤ) (c : List ℕ) (t : Bool) → c ≡ slice a z s → x ≡ Some v → t ≡ same c version.content → t ≡ true → Ok tt ≡ checked_at (known_rule version) s p a z
  unfolding checked_at only_rule also integer_rule number_at ask
  version_good v c t win e f g = let w = number_well (slice a z s) v (sym is ∙ e) in rw (w.0, ← win, ← f, g)

  pub version-other : (v : ℤ) (c : List ℕ) (t : Bool) → c ≡ slice a z s → x ≡ Some v → t ≡ same c version.content → t ≡ false → refused NotAllowed p ≡ checked_at (known_rule version) s p a z
  unfolding checked_at only_rule also integer_rule number_at ask place_of
  version-other v c t win e f g = let w = number_well (slice a z s) v (sym is ∙ e) in rw (w.0, ← win, ← f, g)
