-- A record that is the whole input: what is told of it, and where its fields stand. Assumes nothing.
use Rattle.std.specs.Prelude.{◌≡◌, ℕ, Bool, List, [], length, true, false, is_err, Ok, Err}
use Rattle.std.proofs.Math.Path.{refl, ap}
use Rattle.std.proofs.Common.{sym, ◌∙◌}
use Rattle.terms.specs.Answer.{Res, good, fault, answered, Answer}
use Rattle.terms.specs.Laws.Answer.{never}
use Rattle.terms.specs.declared.Refusal.{Refusal}
use Rattle.heads.specs.Scan.{close_at}
use Rattle.layouts.specs.Layout.{Members, Values}
use Rattle.layouts.specs.Scan.{whole_scan}
use Rattle.layouts.proofs.Laws.Scan.{whole, whole-accept}
use Rattle.layouts.specs.Whole.{accept, told_outcome}
use Rattle.records.specs.Handing.{told_record, fields_of}
use Rattle.layouts.specs.Places.{Placed}
use Rattle.layouts.specs.Marks.{notes, record_marks}
use Rattle.layouts.proofs.Laws.Places.{blank, placed}
use Rattle.layouts.proofs.Laws.Passing.{accepted_placed}
use Rattle.walks.specs.Walk.{record_walk}
use Rattle.entries.specs.Laws.{answers, tables}
use Rattle.readers.specs.Whole.{whole_walk}

told : {A : Type 0} (n : ℕ) (x : Res A) → told_outcome (whole n x) ≡ answered (λ v. n) x
told n (good a) = refl
told n (fault m p) = refl

-- what the whole scan gives is the answer
answer : (most : ℕ) (r : Members) (s : List ℕ) (y : Answer ℕ) → y ≡ whole_scan most r s → told_outcome y ≡ told_record most r s
answer most r s y h = ap told_outcome (h ∙ whole-accept most r s) ∙ told (length s) (accept most r s)

-- where it is refused there is no field
no_field : (most : ℕ) (r : Members) (s : List ℕ) (k : ℕ) → is_err (whole_scan most r s) ≡ true → Placed k (fields_of r (accept most r s)) (blank k)
unfolding notes
no_field most r s k h = go (accept most r s) (ap is_err (sym (whole-accept most r s)) ∙ h)
  where
    go : (x : Res (Values r)) → is_err (whole (length s) x) ≡ true → Placed k (fields_of r x) (blank k)
    go (good v) g = never (cc)
    go (fault m p) g = placed k []

-- where it is accepted the table has its fields
each-field : (most : ℕ) (r : Members) (s : List ℕ) (k : ℕ) → is_err (whole_scan most r s) ≡ false → Placed k (fields_of r (accept most r s)) (record_marks most r s 0 (length s) (blank k))
each-field most r s k h = go (accept most r s) refl (ap is_err (sym (whole-accept most r s)) ∙ h)
  where
    go : (x : Res (Values r)) → accept most r s ≡ x → is_err (whole (length s) x) ≡ false → Placed k (fields_of r x) (record_marks most r s 0 (length s) (blank k))
    go (good v) e g = accepted_placed most r s v e k
    go (fault n p) e g = never (cc)

-- ---- a record, then nothing after it

module _ (most : ℕ) (r : Members) (s d d' : List ℕ) (x : Answer ℕ) (w : (x, d') ≡ record_walk most r s 0 (length s) d) where
  pub walk_refused : (e : Refusal) → x ≡ Err e → (Err e, d') ≡ whole_walk most r s d
  unfolding record_walk whole_walk whole_scan
  walk_refused e b = let h = answers w in let t = tables w in rw (← h, ← t, b) refl

  pub walk_closed : (q : ℕ) (z : Answer ℕ) → x ≡ Ok q → z ≡ close_at q (length s) → (z, d') ≡ whole_walk most r s d
  unfolding record_walk whole_walk whole_scan
  walk_closed q z b c = let h = answers w in let t = tables w in rw (← h, ← t, b, c) refl

-- ---- what is told of it

module _ (most : ℕ) (r : Members) (s d d' : List ℕ) (x : Answer ℕ) (w : (x, d') ≡ whole_walk most r s d) where
  pub outcome-told : told_outcome x ≡ told_record most r s
  unfolding whole_walk
  outcome-told = answer most r s x (answers w)

  -- `f` is whether it is refused
  module _ (k : ℕ) (b : d ≡ blank k) (f : Bool) (g : f ≡ is_err x) where
    pub places_refused : (t : List ℕ) → f ≡ true → t ≡ blank k → Placed k (fields_of r (accept most r s)) t
    unfolding whole_walk
    places_refused t c i = rw i (no_field most r s k (ap is_err (sym (answers w)) ∙ sym g ∙ c))

    pub places_whole : f ≡ false → Placed k (fields_of r (accept most r s)) d'
    unfolding whole_walk
    places_whole c = rw (tables w, b) (each-field most r s k (ap is_err (sym (answers w)) ∙ sym g ∙ c))
