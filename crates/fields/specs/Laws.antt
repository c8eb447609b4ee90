-- A field of a record by the table of places, and the part that is handed out. Assumes nothing.
use Rattle.std.specs.Prelude.{◌≡◌, ℕ, ◌+◌, ◌≤◌, Bool, List, get_or, eqb, Ok, Err, Some, None}
use Rattle.std.proofs.Math.Path.{refl}
use Rattle.std.proofs.Common.{sym, ap, ◌∙◌, subst}
use Rattle.std.proofs.Math.Option.{Option, none, some}
use Rattle.std.proofs.Math.ListN.{length}
use Rattle.std.specs.Borrow.{Bor}
use Rattle.terms.specs.declared.Field.{Field}
use Rattle.terms.specs.Numbers.{largest_record}
use Rattle.terms.specs.Answer.{Res, good, fault, bind, pick, answered, Answer, Told, refusal}
use Rattle.terms.specs.Laws.Told.{told_refusal}
use Rattle.terms.specs.Laws.Answer.{never, good_inj}
use Rattle.terms.specs.declared.Refusal.{Refusal}
use Rattle.layouts.specs.Layout.{Members, Values, Oks}
use Rattle.layouts.specs.Fields.{Entry, fields, is_field, first, Stands}
use Rattle.layouts.proofs.Laws.Fields.{First, fields_stand, stands_within, stands_cut, first-sought, first_holds}
use Rattle.layouts.specs.Places.{under, numbers_of, Placed}
use Rattle.layouts.specs.Whole.{accept, record_of, told_outcome}
use Rattle.layouts.proofs.Laws.Whole.{accept_back}
use Rattle.records.specs.Handing.{told_record, read_record, fields_of, fields_in, seek, tell, told_place, told_part, handed_out}
use Rattle.records.specs.Part.{PartOf}
use Rattle.records.specs.declared.Part.{Part}
use Rattle.records.specs.Found.{Found, part}
use Rattle.cuts.specs.Handed.{part_of, part_under, span_of, within}
use Rattle.cuts.specs.Laws.{within_nothing}
pub use Rattle.cuts.specs.Laws.{within-yes}

-- ---- what is told of a field

pub told_part_lem : (e : Res (Option Entry)) → told_part (part_of e) ≡ tell told_place e
told_part_lem (good (some x)) = refl
told_part_lem (good none) = refl
told_part_lem (fault n p) = refl

-- what was sought, by the answer
module _ (e : Res (Option Entry)) (y : Found Part) (h : told_part y ≡ tell told_place e) where
  pub is-there : (p : Part) → y ≡ Ok (Some p) → (x : Entry) × (e ≡ good (some x)) × (x.place ≡ p.start) × (length x.bytes ≡ p.length)
  is-there p i = go e (rw i at h)
    where
      go : (e : Res (Option Entry)) → told_part (Ok (Some p)) ≡ tell told_place e → (x : Entry) × (e ≡ good (some x)) × (x.place ≡ p.start) × (length x.bytes ≡ p.length)
      go (good (some x)) k = (x, refl, cc, cc)
      go (good none) k = never (cc)
      go (fault n q) k = never (cc)

  pub is_absent : y ≡ Ok None → e ≡ good none
  is_absent i = go e (rw i at h)
    where
      go : (e : Res (Option Entry)) → told_part (Ok None) ≡ tell told_place e → e ≡ good none
      go (good (some x)) k = never (cc)
      go (good none) k = refl
      go (fault n q) k = never (cc)

  pub is_refused : (r : Refusal) → y ≡ Err r → e ≡ fault r.reason r.place
  is_refused r i = go e (rw i at h)
    where
      go : (e : Res (Option Entry)) → told_part (Err r) ≡ tell told_place e → e ≡ fault r.reason r.place
      go (good (some x)) k = never (cc)
      go (good none) k = never (cc)
      go (fault n q) k = told_refusal (λ x. 0) r (fault n q) k

  pub refused_told : (r : Refusal) → y ≡ Err r → (t : Entry → Told) → refusal r.reason r.place ≡ tell t e
  refused_told r i t = sym (ap (tell t) (is_refused r i))

-- and where it lies
span_is : (y : Found Part) (e : Res (Option Entry)) → told_part y ≡ tell told_place e → span_of y ≡ span_of (part_of e)
span_is (Ok (Some p)) (good (some x)) h = cc
span_is (Ok (Some p)) (good none) h = never (cc)
span_is (Ok (Some p)) (fault n q) h = never (cc)
span_is (Ok None) (good (some x)) h = never (cc)
span_is (Ok None) (good none) h = refl
span_is (Ok None) (fault n q) h = refl
span_is (Err r) (good (some x)) h = never (cc)
span_is (Err r) (good none) h = refl
span_is (Err r) (fault n q) h = refl

-- a field that is sought is one of the record's, and lies in it
module _ (r : Members) (q : Entry → Bool) (w : List ℕ) where
  pub sought_in : (x : Entry) → seek r q w ≡ good (some x) → (v : Values r) × (w ≡ record_of r v) × Oks r v × First q (fields r v) x
  unfolding seek bind
  sought_in x e = go (read_record r w) refl e
    where
      go : (y : Res (Values r)) → read_record r w ≡ y → (bind y λ v. good (first q (fields r v))) ≡ good (some x) → (v : Values r) × (w ≡ record_of r v) × Oks r v × First q (fields r v) x
      go (good v) g h = let b = accept_back largest_record r w v g in (v, b.0, b.1, rw (good_inj h) at (first-sought q (fields r v)))
      go (fault n p) g h = never (cc)

  sought_stands : (x : Entry) → seek r q w ≡ good (some x) → Stands w x
  sought_stands x e = let (v, b, o, f) = sought_in x e in first_holds (Stands w) q (fields r v) x (rw (← b) at (fields_stand r v)) f

  sought-within : (x : Entry) → seek r q w ≡ good (some x) → x.place + length x.bytes ≤ length w
  sought-within x e = stands_within w x (sought_stands x e)

  -- so that the part that an answer names is the one that is handed out
  span_handed : (e : Res (Option Entry)) → seek r q w ≡ e → within (length w) (span_of (part_of e)) ≡ handed_out e
  span_handed (good (some x)) h = within-yes (length w) x.place (length x.bytes) (sought-within x h)
  span_handed (good none) h = within_nothing (length w)
  span_handed (fault n p) h = within_nothing (length w)

pub part_handed : (s z : Bor (List ℕ)) (r : Members) (q : Entry → Bool) (y : Found Part) → told_part y ≡ tell told_place (seek r q s.now) → PartOf s z (within (length s.now) (span_of y))
    → PartOf s z (handed_out (seek r q s.now))
part_handed s z r q y h k = subst (PartOf s z) (ap (within (length s.now)) (span_is y (seek r q s.now) h) ∙ span_handed r q s.now (seek r q s.now) refl) k

-- a part that an answer names holds the field's bytes
pub part_bytes : (s z : Bor (List ℕ)) (r : Members) (q : Entry → Bool) (x : Entry) → seek r q s.now ≡ good (some x) → PartOf s z (within (length s.now) (x.place, length x.bytes)) → z.now ≡ x.bytes
part_bytes s z r q x e h = let k = rw (within-yes (length s.now) x.place (length x.bytes) (sought-within r q s.now x e)) at h in k.holds ∙ stands_cut s.now x (sought_stands r q s.now x e)

-- ---- a field by the table

-- the numbers under a name are those of the field that is asked for
pub numbers_part : (f : Field) (d : List ℕ) (o : Option Entry) → under f d ≡ numbers_of o → part_under f d ≡ part_of (good o)
unfolding part_under pick under
numbers_part f d o h = rw (ap (λ (x : List ℕ). get_or x 0 0) h, ap (λ (x : List ℕ). get_or x 1 0) h, ap (λ (x : List ℕ). get_or x 2 0) h) (go o)
  where
    go : (o : Option Entry) → pick (eqb (get_or (numbers_of o) 0 0) 0) (Ok None) (Ok (Some (part (get_or (numbers_of o) 1 0) (get_or (numbers_of o) 2 0)))) ≡ part_of (good o)
    go none = refl
    go (some x) = refl

-- the part that a table of places leads to is the one that is handed out
pub table_handed : (s z : Bor (List ℕ)) (r : Members) (f : Field) (k : ℕ) (d : List ℕ) → Placed k (fields_in r s.now) d → PartOf s z (within (length s.now) (span_of (part_under f d)))
    → PartOf s z (handed_out (seek r (is_field f k) s.now))
unfolding seek bind first
table_handed s z r f k d p h =
    subst (PartOf s z) (ap (within (length s.now)) (go (read_record r s.now) (numbers_part f d (first (is_field f k) (fields_in r s.now)) (p.1 f))) ∙ span_handed r (is_field f k) s.now (seek r (is_field f k) s.now) refl) h
  where
    go : (x : Res (Values r)) → part_under f d ≡ part_of (good (first (is_field f k) (fields_of r x))) → span_of (part_under f d) ≡ span_of (part_of (bind x λ v. good (first (is_field f k) (fields r v))))
    go (good v) e = ap span_of e
    go (fault n q) e = ap span_of e

-- what is sought in a record that was read
module _ (r : Members) (w : List ℕ) (m : Members) (g : m ≡ r) (o : Answer ℕ) (t : told_outcome o ≡ told_record largest_record m w) where
  pub sought_refused : (f : Refusal) → o ≡ Err f → (q : Entry → Bool) → seek r q w ≡ fault f.reason f.place
  unfolding seek bind
  sought_refused f i q = ap (λ (x : Res (Values r)). bind x λ v. good (first q (fields r v))) (told_refusal (λ v. length w) f (read_record r w) (rw (g, i) at t))

  pub sought_told : (f : Refusal) → o ≡ Err f → (q : Entry → Bool) (tells : Entry → Told) → refusal f.reason f.place ≡ tell tells (seek r q w)
  sought_told f i q tells = sym (ap (tell tells) (sought_refused f i q))

  pub sought-read : (l : ℕ) → o ≡ Ok l → (q : Entry → Bool) → seek r q w ≡ good (first q (fields_in r w))
  unfolding seek bind
  sought-read l i q = go (read_record r w) (rw (g, i) at t)
    where
      go : (x : Res (Values r)) → told_outcome (Ok l) ≡ answered (λ v. length w) x → (bind x λ v. good (first q (fields r v))) ≡ good (first q (fields_of r x))
      go (good v) e = refl
      go (fault n p) e = never (cc)

  pub was_read : (l : ℕ) → o ≡ Ok l → (v : Values r) × (read_record r w ≡ good v)
  was_read l i = go (read_record r w) refl (rw (g, i) at t)
    where
      go : (x : Res (Values r)) → read_record r w ≡ x → told_outcome (Ok l) ≡ answered (λ v. length w) x → (v : Values r) × (read_record r w ≡ good v)
      go (good v) h e = (v, h)
      go (fault n p) h e = never (cc)

  pub placed_in : (k : ℕ) (d : List ℕ) → Placed k (fields_of m (accept largest_record m w)) d → Placed k (fields_in r w) d
  placed_in k d p = rw g at p

  pub find_refused : (q : Entry → Bool) (f : Refusal) → o ≡ Err f → told_part (Err f) ≡ tell told_place (seek r q w)
  find_refused q f i = sought_told f i q told_place

  pub find_under : (f : Field) (k l : ℕ) (d : List ℕ) (y : Found Part) → o ≡ Ok l → Placed k (fields_of m (accept largest_record m w)) d → y ≡ part_under f d
      → told_part y ≡ tell told_place (seek r (is_field f k) w)
  find_under f k l d y i p e =
      rw (sought-read l i (is_field f k)) (ap told_part (e ∙ numbers_part f d (first (is_field f k) (fields_in r w)) ((placed_in k d p).1 f)) ∙ told_part_lem (good (first (is_field f k) (fields_in r w))))
