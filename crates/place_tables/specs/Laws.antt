-- A table put into a destination number by number, and what a reading leaves there. Assumes nothing.
use Rattle.std.specs.Prelude.{◌≡◌, ℕ, ◌<◌, ◌≤◌, List, Ok, Err}
use Rattle.std.proofs.Math.Path.{refl}
use Rattle.std.proofs.Math.ListN.{length}
use borrow.Author.Tests.{le-leb, lt-leb}
use Rattle.terms.specs.Numbers.{largest_record}
use Rattle.terms.specs.declared.Reason.TheVariants.{NoRoom}
use Rattle.terms.specs.Answer.{good, fault, pick, Answer, refusal_at}
use Rattle.terms.specs.declared.Refusal.{Refusal}
use Rattle.terms.specs.Laws.Told.{told_refusal}
use Rattle.layouts.specs.Layout.{Members, Values}
use Rattle.layouts.specs.Places.{table_size, Placed}
use Rattle.layouts.specs.Whole.{accept, told_outcome}
use Rattle.records.specs.declared.Record.{Record}
use Rattle.records.specs.Handing.{layout_of, told_record, read_record, fields_of}
use Rattle.records.specs.Laws.Handing.{fields_in_lem}
use Rattle.fields.specs.Laws.{was_read, placed_in}
use Rattle.place_tables.specs.Table.{put_table, table_answer, TableAfter}

-- ---- of a record

module _ (x : Record) (w : List ℕ) (m : Members) (i : m ≡ layout_of x) (o : Answer ℕ) (t : told_outcome o ≡ told_record largest_record m w) (k : ℕ) (d : List ℕ) where
  refused_with : (r : Refusal) → o ≡ Err r → read_record (layout_of x) w ≡ fault r.reason r.place
  refused_with r h = told_refusal (λ v. length w) r (read_record (layout_of x) w) (rw (i, h) at t)

  pub refused_told : (r : Refusal) → o ≡ Err r → told_outcome (Err r) ≡ table_answer (layout_of x) w d
  unfolding table_answer
  refused_told r h = rw (refused_with r h) refl

  pub refused_kept : (r : Refusal) → o ≡ Err r → TableAfter (layout_of x) w k d d
  unfolding TableAfter
  refused_kept r h = rw (refused_with r h) refl

  module _ (l : ℕ) (h : o ≡ Ok l) (p : List ℕ) (s : length p ≡ table_size) (pl : Placed k (fields_of m (accept largest_record m w)) p) where
    long : l ≡ length w
    long = let (v, a) = was_read (layout_of x) w m i o t l h in go v a (rw (i, h) at t)
      where
        go : (v : Values (layout_of x)) → read_record (layout_of x) w ≡ good v → told_outcome (Ok l) ≡ told_record largest_record (layout_of x) w → l ≡ length w
        go v a g = let q : told_outcome (Ok l) ≡ told_outcome (Ok (length w)) = rw a at g in cc

    pub short_told : (r : Refusal) → r ≡ refusal_at NoRoom table_size → length d < table_size → told_outcome (Err r) ≡ table_answer (layout_of x) w d
    unfolding table_answer pick
    short_told r e q = let (v, a) = was_read (layout_of x) w m i o t l h in rw (a, lt-leb table_size (length d) q, e) refl

    pub short_kept : length d < table_size → TableAfter (layout_of x) w k d d
    unfolding TableAfter put_table pick
    short_kept q =
        let (v, a) = was_read (layout_of x) w m i o t l h in
        let f = fields_in_lem (layout_of x) w v a in
        rw a (p, s, rw f at (placed_in (layout_of x) w m i o t k p pl), rw (s, lt-leb table_size (length d) q))

    pub filled-told : table_size ≤ length d → told_outcome (Ok l) ≡ table_answer (layout_of x) w d
    unfolding table_answer pick
    filled-told q = let (v, a) = was_read (layout_of x) w m i o t l h in rw (a, le-leb table_size (length d) q, long)

    pub filled-after : (d' : List ℕ) → d' ≡ put_table p d → TableAfter (layout_of x) w k d d'
    unfolding TableAfter
    filled-after d' e =
        let (v, a) = was_read (layout_of x) w m i o t l h in
        let f = fields_in_lem (layout_of x) w v a in
        rw a (p, s, rw f at (placed_in (layout_of x) w m i o t k p pl), e)
