-- There and back, by the two calls. Assumes nothing.
use Rattle.std.specs.Prelude.{◌≡◌, ℕ, ◌≤◌, take, T, leb, Ok, Err}
use Rattle.std.proofs.Math.Path.{refl, sym, ap}
use Rattle.std.proofs.Common.{◌∙◌, leb→le, le→leb}
use mathlib.Core.List.{List}
use Rattle.std.proofs.Math.ListN.{length}
use Rattle.terms.specs.Numbers.{largest_record}
use Rattle.terms.specs.declared.Reason.TheVariants.{NoRoom, TooLarge}
use Rattle.terms.specs.Answer.{Res, good, fault, bind, answered, Answer}
use Rattle.terms.specs.Laws.Answer.{good_inj, and_r, by_bind, by_need, bind_eq, need_eq}
use Rattle.terms.specs.declared.Refusal.{Refusal}
use Rattle.layouts.specs.Layout.{node}
use Rattle.layouts.specs.Sheet.{sheets}
use Rattle.layouts.specs.Whole.{sequence, record_of, fit, fill_sheet, write_record, stored, told_outcome}
use Rattle.layouts.proofs.Laws.Reading.{clear, clears, spare}
use Rattle.layouts.proofs.Laws.Whole.{accept_back, accept-there, sheet_back, sheet-taken}
use Rattle.records.specs.declared.Record.{Record}
use Rattle.records.specs.declared.Record.TheVariants.{Seal, Signature}
use Rattle.records.specs.Handing.{layout_of, fill_answer, fill_after, write_answer, write_after}
use Rattle.records.specs.Laws.Record.{seal-clear, signature-clear, record_spelled}
use Rattle.terms.specs.Laws.Told.{told_refusal}
use Rattle.sheets.specs.Laws.{sent_good, front_is, front-room, sheet-there}
use Rattle.round_trips.specs.Trip.{record_trip, sheet_trip}

-- ---- what was sent, by the answer

sent_refused : (y : Res (List ℕ)) (r : Refusal) → told_outcome (Err r) ≡ answered (λ x. length x) y → y ≡ fault r.reason r.place
sent_refused y r h = told_refusal (λ x. length x) r y h

-- what fits is there, and not longer than the room
fit_good : (room : ℕ) (x z : List ℕ) → fit room x ≡ good z → (x ≡ z) × (length z ≤ room)
unfolding fit
fit_good room x z h = by_need (leb (length x) room) NoRoom (length x) (good x) z h λ t e. let q = good_inj e in (q, rw q at (leb→le (length x) room t))

-- ---- a record and back

both_clear : (x : Record) → T (clear (node sequence (layout_of x)))
both_clear Seal = seal-clear
both_clear Signature = signature-clear

-- the sheet of an accepted record writes the record
sheet_writes : (x : Record) (w : List ℕ) (room back : ℕ) (z : List ℕ) → fill_sheet largest_record (layout_of x) w room ≡ good z
    → (length z ≤ room) × (write_record largest_record (layout_of x) z back ≡ fit back w)
unfolding fill_sheet write_record
sheet_writes x w room back z h =
    by_bind _ _ _ h λ v e₁ e₂.
    let (q, l) = fit_good room (sheets (layout_of x) v) z e₂ in
    let (a, o, m) = accept_back largest_record (layout_of x) w v e₁ in
    let t = sheet-taken largest_record (layout_of x) (both_clear x) record_spelled w v e₁ in
    let m' : length (record_of (layout_of x) v) ≤ largest_record = rw (← a) m in
    (l, bind_eq _ (rw q at t) ∙ need_eq (leb (length (record_of (layout_of x) v)) largest_record) TooLarge 0 _ (le→leb _ _ m') ∙ ap (fit back) (sym a))

module _ (x : Record) (w d : List ℕ) (o : Answer ℕ) (t : told_outcome o ≡ fill_answer (layout_of x) w d) (d₁ : List ℕ) (k : d₁ ≡ fill_after (layout_of x) w d) where
  module _ (r : Refusal) (h : o ≡ Err r) (e : List ℕ) where
    unfilled : fill_sheet largest_record (layout_of x) w (length d) ≡ fault r.reason r.place
    unfolding fill_answer
    unfilled = sent_refused _ r (rw h at t)

    pub record_refused : told_outcome (Err r) ≡ answered (λ y. length y) (record_trip (layout_of x) w (length d) (length e))
    unfolding record_trip bind
    record_refused = rw unfilled refl

    pub record_kept : e ≡ stored (record_trip (layout_of x) w (length d) (length e)) e
    unfolding record_trip bind stored
    record_kept = rw unfilled

  module _ (n : ℕ) (h : o ≡ Ok n) where
    trip_is : (e : List ℕ) → write_record largest_record (layout_of x) (take n d₁) (length e) ≡ record_trip (layout_of x) w (length d) (length e)
    unfolding fill_after record_trip
    trip_is e =
        let (z, g, l) = sheet-there (layout_of x) w d o t n h in
        ap (λ (u : List ℕ). write_record largest_record (layout_of x) u (length e)) (front_is _ d d₁ n z g l k) ∙ (sheet_writes x w (length d) (length e) z g).1 ∙ sym (bind_eq _ g)

    module _ (e : List ℕ) where
      pub record_told : (y : Answer ℕ) → told_outcome y ≡ write_answer (layout_of x) (take n d₁) e → told_outcome y ≡ answered (λ y. length y) (record_trip (layout_of x) w (length d) (length e))
      unfolding write_answer
      record_told y u = u ∙ ap (answered (λ y. length y)) (trip_is e)

      pub record_returns : (e₁ : List ℕ) → e₁ ≡ write_after (layout_of x) (take n d₁) e → e₁ ≡ stored (record_trip (layout_of x) w (length d) (length e)) e
      unfolding write_after
      record_returns e₁ u = u ∙ ap (λ (z : Res (List ℕ)). stored z e) (trip_is e)

-- ---- a sheet and back

-- the record of a sheet fills the sheet
record_fills : (x : Record) (s : List ℕ) (room back : ℕ) (z : List ℕ) → write_record largest_record (layout_of x) s room ≡ good z
    → fill_sheet largest_record (layout_of x) z back ≡ fit back s
unfolding fill_sheet write_record clear
record_fills x s room back z h =
    by_bind _ _ _ h λ v e₁ e₂.
    by_need (leb (length (record_of (layout_of x) v)) largest_record) TooLarge 0 _ z e₂ λ t e₃.
    let (q, l) = fit_good room (record_of (layout_of x) v) z e₃ in
    let (a, o) = sheet_back largest_record (layout_of x) s v e₁ in
    let u = accept-there largest_record (layout_of x) (and_r (leb (spare (layout_of x)) 16) (clears (layout_of x)) (both_clear x)) record_spelled v o (leb→le _ _ t) in
    bind_eq _ (rw q at u) ∙ ap (fit back) (sym a)

module _ (x : Record) (s d : List ℕ) (o : Answer ℕ) (t : told_outcome o ≡ write_answer (layout_of x) s d) (d₁ : List ℕ) (k : d₁ ≡ write_after (layout_of x) s d) where
  module _ (r : Refusal) (h : o ≡ Err r) (e : List ℕ) where
    unwritten : write_record largest_record (layout_of x) s (length d) ≡ fault r.reason r.place
    unfolding write_answer
    unwritten = sent_refused _ r (rw h at t)

    pub sheet_refused : told_outcome (Err r) ≡ answered (λ y. length y) (sheet_trip (layout_of x) s (length d) (length e))
    unfolding sheet_trip bind
    sheet_refused = rw unwritten refl

    pub sheet_kept : e ≡ stored (sheet_trip (layout_of x) s (length d) (length e)) e
    unfolding sheet_trip bind stored
    sheet_kept = rw unwritten

  module _ (n : ℕ) (h : o ≡ Ok n) where
    written : (z : List ℕ) × (write_record largest_record (layout_of x) s (length d) ≡ good z) × (n ≡ length z)
    unfolding write_answer
    written = sent_good _ n (rw h at t)

    -- what was written stands in the record
    pub sheet-room : n ≤ length d₁
    unfolding write_after
    sheet-room = let (z, g, l) = written in front-room _ d d₁ n z g l k

    pub sheet-cut : n ≡ length (take n d₁)
    unfolding write_after
    sheet-cut = let (z, g, l) = written in l ∙ ap length (sym (front_is _ d d₁ n z g l k))

    back_is : (e : List ℕ) → fill_sheet largest_record (layout_of x) (take n d₁) (length e) ≡ sheet_trip (layout_of x) s (length d) (length e)
    unfolding write_after sheet_trip
    back_is e =
        let (z, g, l) = written in
        ap (λ (u : List ℕ). fill_sheet largest_record (layout_of x) u (length e)) (front_is _ d d₁ n z g l k) ∙ record_fills x s (length d) (length e) z g ∙ sym (bind_eq _ g)

    module _ (e : List ℕ) where
      pub sheet-told : (y : Answer ℕ) → told_outcome y ≡ fill_answer (layout_of x) (take n d₁) e → told_outcome y ≡ answered (λ y. length y) (sheet_trip (layout_of x) s (length d) (length e))
      unfolding fill_answer
      sheet-told y u = u ∙ ap (answered (λ y. length y)) (back_is e)

      pub sheet_returns : (e₁ : List ℕ) → e₁ ≡ fill_after (layout_of x) (take n d₁) e → e₁ ≡ stored (sheet_trip (layout_of x) s (length d) (length e)) e
      unfolding fill_after
      sheet_returns e₁ u = u ∙ ap (λ (z : Res (List ℕ)). stored z e) (back_is e)

-- ---- what came back stands in its destination

module _ (o : Answer ℕ) (y : Res (List ℕ)) (t : told_outcome o ≡ answered (λ x. length x) y) (e e₁ : List ℕ) (k : e₁ ≡ stored y e) (n : ℕ) (h : o ≡ Ok n) where
  returned : (z : List ℕ) × (y ≡ good z) × (n ≡ length z)
  returned = sent_good y n (rw h at t)

  pub returned_room : n ≤ length e₁
  returned_room = let (z, g, l) = returned in front-room y e e₁ n z g l k

  pub returned_cut : n ≡ length (take n e₁)
  returned_cut = let (z, g, l) = returned in l ∙ ap length (sym (front_is y e e₁ n z g l k))
