-- Critical and counts by a table of places. Assumes nothing.
use Rattle.std.specs.Prelude.{◌≡◌, ℕ, Bool, List, Ok, Err}
use Rattle.std.proofs.Common.{ap, ◌∙◌}
use Rattle.terms.specs.declared.Field.{Field}
use Rattle.terms.specs.declared.Field.TheVariants.{SealCustomItem, SealCustomCritical, SignedCustomItem, SignedCustomCritical}
use Rattle.terms.specs.Numbers.{done, largest_record}
use Rattle.terms.specs.Answer.{pick, told_one, Answer}
use Rattle.terms.specs.declared.Refusal.{Refusal}
use Rattle.layouts.specs.Layout.{Members}
use Rattle.layouts.specs.Fields.{Entry, is_field, first}
use Rattle.layouts.specs.Places.{Placed}
use Rattle.layouts.specs.Whole.{accept, told_outcome}
use Rattle.records.specs.Handing.{told_record, fields_of, fields_in, seek, tell, told_critical, critical_answer, told_is, told_items}
use Rattle.records.specs.Found.{Found}
use Rattle.fields.specs.Laws.{sought_told, sought-read, placed_in}
use Rattle.tallies.specs.Tally.{critical_under, count_under}
use Rattle.tallies.specs.Laws.{count-told, critical-told}

-- in a record that was read
module _ (r : Members) (w : List ℕ) (m : Members) (g : m ≡ r) (o : Answer ℕ) (t : told_outcome o ≡ told_record largest_record m w) where
  pub count_refused : (q : Entry → Bool) (e : Refusal) → o ≡ Err e → told_items (Err e) ≡ tell (λ x. told_one done x.items) (seek r q w)
  count_refused q e i = sought_told r w m g o t e i q (λ x. told_one done x.items)

  pub count-read : (f : Field) (k l : ℕ) (d : List ℕ) (y : Found ℕ) → o ≡ Ok l → Placed k (fields_of m (accept largest_record m w)) d → y ≡ count_under f d
      → told_items y ≡ tell (λ x. told_one done x.items) (seek r (is_field f k) w)
  count-read f k l d y i p e = rw (sought-read r w m g o t l i (is_field f k)) (ap told_items e ∙ count-told f d (first (is_field f k) (fields_in r w)) ((placed_in r w m g o t k d p).1 f))

  pub critical_refused : (xs : List Entry) (f : Field) (k : ℕ) (q : Entry → Bool) (e : Refusal) → o ≡ Err e → told_is (Err e) ≡ tell (told_critical f k xs) (seek r q w)
  critical_refused xs f k q e i = sought_told r w m g o t e i q (told_critical f k xs)

  pub critical-read : (item flag : Field) (k l : ℕ) (d : List ℕ) (y : Found Bool) → o ≡ Ok l → Placed k (fields_of m (accept largest_record m w)) d → y ≡ critical_under item flag d
      → told_is y ≡ tell (told_critical flag k (fields_in r w)) (seek r (is_field item k) w)
  critical-read item flag k l d y i p e = rw (sought-read r w m g o t l i (is_field item k)) (ap told_is e ∙ critical-told item flag k (fields_in r w) d (placed_in r w m g o t k d p))

-- a critical's owner is the item that it stands in
abbrev Owned : Field → Field → Type 0
Owned item flag = (r : Members) (w : List ℕ) (k : ℕ) (y : Found Bool) → told_is y ≡ tell (told_critical flag k (fields_in r w)) (seek r (is_field item k) w) → told_is y ≡ critical_answer r flag k w

pub seal_owned : Owned SealCustomItem SealCustomCritical
unfolding pick
seal_owned r w k y h = h

pub signed_owned : Owned SignedCustomItem SignedCustomCritical
unfolding pick
signed_owned r w k y h = h
