-- What a refusal is about, by the number behind the table of places; and the table alone. Assumes nothing.
use Rattle.std.specs.Prelude.{◌≡◌, refl, ℕ, Bool, suc, ◌+◌, ◌-◌, ◌≤◌, ◌<◌, List, length, get_or, set, take, replicate, true, false, is_err, Ok, Err}
use Rattle.std.proofs.Common.{sym, ap, ◌∙◌, arith, length-set, take-suc, take-suc-set, ne_eqb}
use Rattle.std.proofs.lemmas.List.{length-replicate}
use Rattle.std.proofs.Math.ListN.{get_or-eq_default}
use Rattle.std.proofs.Math.Seq.{take-length}
use Rattle.terms.specs.declared.Reason.{Reason}
use Rattle.terms.specs.declared.Field.{Field}
use Rattle.terms.specs.declared.Field.TheVariants.{SealInformation}
use Rattle.terms.specs.Names.{names, names_count, name_of}
use Rattle.terms.specs.Numbers.{largest_record}
use Rattle.terms.specs.Answer.{pick, Answer, refused}
use Rattle.terms.specs.declared.Refusal.{Refusal}
use Rattle.layouts.specs.Layout.{Members}
use Rattle.layouts.specs.Scan.{whole_scan}
use Rattle.layouts.specs.Marks.{record_marks}
use Rattle.terms.specs.Laws.Answer.{never}
use Rattle.layouts.specs.Places.{table_size, wanted_at, Placed}
use Rattle.layouts.specs.Whole.{told_outcome}
use Rattle.layouts.specs.About.{record_about}
use Rattle.layouts.specs.Passed.{record_passed}
use Rattle.layouts.proofs.Laws.About.{whose_by, Fresh, about-told, about_nothing}
use Rattle.layouts.proofs.Laws.Passed.{Front, passed_placed}
use Rattle.layouts.proofs.Laws.Places.{blank}
use Rattle.layouts.specs.declared.Whose.{Whose}
use Rattle.layouts.specs.declared.Whose.TheVariants.{Nothing, Record, Field as field}
use Rattle.records.specs.Handing.{record_answer}
use Rattle.entries.specs.Laws.{answers, tables}
use Rattle.readers.specs.Whole.{whole_walk}
use Rattle.readers.specs.Laws.{outcome-told}

-- ---- a table, and a number more

abbrev pub room_for : ℕ → List ℕ
room_for k = set (replicate (table_size + 1) 0) wanted_at k

room-length : (k : ℕ) → length (room_for k) ≡ table_size + 1
room-length k = length-set (replicate (table_size + 1) 0) wanted_at k ∙ length-replicate {A = ℕ} (table_size + 1) 0

room_fresh : (k : ℕ) → Fresh (room_for k)
room_fresh k = let l = room-length k in (omega arith, refl)

room-front : (k : ℕ) → Front (room_for k) (blank k)
room-front k = let l = room-length k in (omega arith, refl)

-- ---- names by their numbers

pub name_past : (n : ℕ) → names_count ≤ n → SealInformation ≡ name_of n
name_past n h = sym (get_or-eq_default names SealInformation h)

pub whose_record : (n : ℕ) → n ≡ 0 → Record ≡ whose_by Record n
unfolding whose_by pick
whose_record n h = rw h

pub whose_field : (n : ℕ) (f : Field) → (n ≡ 0 → ⊥) → f ≡ name_of (n - 1) → field f ≡ whose_by Record n
unfolding whose_by pick
whose_field n f h e = rw (ne_eqb n 0 h, e)

-- ---- a record

module _ (r m : Members) (i : m ≡ r) (s : List ℕ) (k : ℕ) (d d' : List ℕ) (b : d ≡ room_for k) (x : Answer ℕ) (w : (x, d') ≡ whole_walk largest_record m s d) where
  pub fault_told : told_outcome x ≡ record_answer r s
  fault_told = rw (← i) (outcome-told largest_record m s d d' x w)

  pub fault_nothing : (f : Bool) → f ≡ is_err x → f ≡ false → Nothing ≡ record_about largest_record r s
  unfolding whole_walk
  fault_nothing f g h = rw (← i) (go x (answers w) (sym g ∙ h))
    where
      go : (y : Answer ℕ) → y ≡ whole_scan largest_record m s → is_err y ≡ false → Nothing ≡ record_about largest_record m s
      go (Ok n) g e = about_nothing largest_record m s n (sym g)
      go (Err o) g e = never (cc)

  pub fault_whose : (f : Bool) (y : Whose) → f ≡ is_err x → f ≡ true → y ≡ whose_by Record (get_or d' table_size 0) → y ≡ record_about largest_record r s
  unfolding whole_walk
  fault_whose f y g h e = rw (← i, e, tables w, b) (go x (answers w) (sym g ∙ h))
    where
      go : (z : Answer ℕ) → z ≡ whole_scan largest_record m s → is_err z ≡ true → whose_by Record (get_or (record_marks largest_record m s 0 (length s) (room_for k)) table_size 0) ≡ record_about largest_record m s
      go (Ok n) g q = never (cc)
      go (Err o) g q = about-told largest_record m s (room_for k) (room_fresh k) o (sym g)

  pub fault_places : (t : List ℕ) → t ≡ take table_size d' → Placed k (record_passed largest_record r s) t
  unfolding whole_walk
  fault_places t e = rw (← i, e, tables w, b) (passed_placed largest_record m s k (room_for k) (room-front k))
