-- Around an item: whether one begins here, where what follows it starts, what is left over; with premises as code has them. Assumes nothing.
use Rattle.std.specs.Prelude.{◌≡◌, ℕ, ◌≤◌, ◌<◌, false, List, length, get_or, ltb, eqb, ◌⊎◌, Ok, Err}
use Rattle.std.proofs.Common.{sym, inl, inr, lt-ltb, le-ltb}
use Rattle.std.proofs.Math.ListN.{get_or-eq_default}
use Rattle.terms.specs.declared.Reason.TheVariants.{LeftOver}
use Rattle.terms.specs.Laws.Answer.{test, is_true, is_false, pick_lt, pick_ge}
use Rattle.terms.specs.declared.Refusal.{Refusal}
use Rattle.terms.specs.Answer.{Answer, refused}
use Rattle.heads.specs.Scan.{past_of, begins_at, close_at}
use Rattle.heads.specs.declared.Span.{Span}
use Rattle.tags.specs.Tag.{tag_byte}
use Rattle.tags.specs.declared.Tag.{Tag}
use Rattle.tags.specs.Laws.{not_zero}

module _ (t : Tag) (s : List ℕ) (p e : ℕ) where
  pub begins-not : (e ≤ p) ⊎ (length s ≤ p) → false ≡ begins_at (tag_byte t) s p e
  unfolding begins_at
  begins-not (inl h) = rw (le-ltb p e h)
  begins-not (inr k) = test (ltb p e) (λ h. rw (is_true (ltb p e) h, get_or-eq_default s 0 k) (sym (not_zero t))) (λ h. rw (is_false (ltb p e) h))

  pub begins_in : (b : ℕ) → p < e → b ≡ tag_byte t → eqb (get_or s p 0) b ≡ begins_at (tag_byte t) s p e
  unfolding begins_at
  begins_in b h i = rw (lt-ltb p e h, i)

module _ (p e : ℕ) where
  pub close_left : p < e → refused LeftOver p ≡ close_at p e
  unfolding close_at
  close_left h = pick_lt p e _ _ h

  pub close_end : e ≤ p → Ok e ≡ close_at p e
  unfolding close_at
  close_end h = pick_ge p e _ _ h
