-- What the project promises its user, over the definitions of the rules. Read this page first. What stands in quotes is from the three
-- demands, with which docs/PROMISES.md begins, or from document 01. Assumes nothing.
-- A record is a seal or a signature record: `seal` and `signature` are the layouts of document 01, `v` is a record's field values.
use Rattle.std.specs.Prelude.{◌≡◌, refl, Bool, false, not, ◌&&◌, ◌⊎◌, List, [], ◌∷◌, ◌++◌, map, ℕ, ◌+◌, ◌≤◌, ◌<◌, length, get_or, take, drop, ℤ, T, leb}
use Rattle.std.proofs.Common.{sym, ap, ◌∙◌, subst, arith, le→leb}
use Rattle.std.proofs.Math.Option.{none, some}
use Rattle.std.proofs.lemmas.Bool.{lt-leb}
use Rattle.std.specs.Borrow.{Bor}
use Rattle.terms.specs.declared.Reason.{Reason}
use Rattle.terms.specs.declared.Field.{Field}
use Rattle.terms.specs.declared.Field.TheVariants.{SignedPart, SealInformation}
use Rattle.terms.specs.Numbers.{largest_record, done, run_end}
use Rattle.terms.specs.declared.Reason.TheVariants.{TooLarge, NoRoom, UnrealTime}
use Rattle.terms.specs.Answer.{Res, good, fault, Got, got, bind, need, every, answered, bit, Told, gives, told_one, told_two, told_none, refusal}
use Rattle.terms.specs.Laws.Answer.{good_inj, and_r, bind_eq, need_eq}
use Rattle.terms.specs.Digits.{is_byte}
use Rattle.contents.specs.Integer.{value, content_of, well_formed, Fits, eight, stretch}
use Rattle.contents.proofs.Laws.Integer.{value-content_of, content_of-value, content_of-well_formed, eight-stretch}
use Rattle.layouts.specs.Layout.{node, Members, Values, Oks, All}
use Rattle.layouts.specs.Sheet.{sheets}
use Rattle.layouts.specs.Whole.{sequence, record_of, Allowed, record_at, accept_sheet, fill_sheet, write_record}
use Rattle.layouts.specs.Fields.{Entry, fields, Stands, is_field, first}
use Rattle.layouts.specs.Places.{under, numbers_of, Placed}
use Rattle.layouts.specs.About.{record_about}
use Rattle.layouts.specs.Passed.{record_passed}
use Rattle.layouts.specs.declared.Whose.TheVariants.{Nothing}
use Rattle.layouts.proofs.Laws.About as About
use Rattle.layouts.proofs.Laws.Passing as Passing
use Rattle.layouts.proofs.Laws.Stand as Stand
use Rattle.layouts.proofs.Laws.Reading.{clear, clears, spare}
use Rattle.layouts.proofs.Laws.Whole.{Wrote, Kept}
use Rattle.layouts.proofs.Laws.Whole as Whole
use Rattle.layouts.proofs.Laws.Fields.{None, First, fields_stand, stands_cut, first-sought, first_holds}
use Rattle.records.specs.Record.{seal_information, seal, signed_part, signature}
use Rattle.records.specs.Part.{PartOf, Lies}
use Rattle.records.specs.Handing.{read_record, record_answer, fields_in, seek, handed_out, fill_answer, fill_after, write_answer, write_after, is_among, told_place, part_names, field_answer, is_listed, match_answer, integer_names, value_answer, is_owner, told_critical, critical_answer, list_names, count_answer, signed_bytes, information_of, signed_part_of, seal_of}
use Rattle.records.specs.Laws.Record as Record
use Rattle.records.specs.Laws.Handing.{Tells}
use Rattle.records.specs.Laws.Handing as Handing
use Rattle.runs.specs.Run.{run_of, Ran, whole, stopped, read_run, run_answer, Reader, at, made, here_at, top, one_more, step_after, step_answer, refusal_after}
use Rattle.runs.proofs.Laws.Run as Runs
use Rattle.verdicts.specs.Verdict.{verdict_number, Step, first_failing, Facts, facts_of, stamped, Rulebook, signature_rules, seal_rules, maker_out, judged, verdict, told_verdict}
use Rattle.verdicts.specs.Findings.{all_real}
use Rattle.verdicts.proofs.Laws.Verdict.{FirstFailing, is_of_stamp, unstamped_steps, takes_notice}
use Rattle.verdicts.proofs.Laws.Verdict as Verdict
use Rattle.verdicts.specs.declared.Findings.{Findings}

-- The layouts that the promises are about: what may be missing in them cannot be mistaken for what follows, what is known is inside its
-- rule, and no list is too long to count. The two that document 01 gives are such.
abbrev pub Clear : Members → Type 0
Clear r = T (clear (node sequence r))

pub the-seal : Clear seal
the-seal = Record.seal-clear

pub the-signature : Clear signature
the-signature = Record.signature-clear

-- a value inside the rules, whose record is not too large
abbrev pub Right : (r : Members) → Values r → Type 0
Right r v = Allowed largest_record r v

module _ (r : Members) (k : Clear r) where
  inner : T (clears r)
  unfolding clear
  inner = and_r (leb (spare r) 16) (clears r) k

  -- ---- demand 2: "Read and write exactly the DER records inside the rules."

  -- what is accepted is a right value's bytes and nothing else
  pub accepted_is_right : (w : List ℕ) (v : Values r) → read_record r w ≡ good v → (w ≡ record_of r v) × Right r v
  accepted_is_right w v e = let a = Whole.accept_back largest_record r w v e in (a.0, (a.1, rw (← a.0) a.2))

  -- and every right value's bytes are accepted, as that value
  pub right_is_accepted : (v : Values r) → Right r v → read_record r (record_of r v) ≡ good v
  right_is_accepted v a = Whole.accept-there largest_record r inner Record.record_spelled v a.0 a.1

  -- a value has one record only
  pub one_record : (w x : List ℕ) (v : Values r) → read_record r w ≡ good v → read_record r x ≡ good v → w ≡ x
  one_record w x v e g = (accepted_is_right w v e).0 ∙ sym (accepted_is_right x v g).0

  -- and a record one value only
  pub one_value : (u v : Values r) → Right r u → Right r v → record_of r u ≡ record_of r v → u ≡ v
  one_value u v a b e = good_inj (sym (right_is_accepted u a) ∙ ap (read_record r) e ∙ right_is_accepted v b)

  -- bytes past the first 65,536 change no answer: a program whose buffer holds so many answers for the whole input,
  module _ (w z : List ℕ) (h : largest_record < length w) where
    more : read_record r (w ++ z) ≡ read_record r w
    more = Whole.accept-more largest_record r w z h (omega arith)

    pub later_bytes_change_nothing : record_answer r (w ++ z) ≡ record_answer r w
    later_bytes_change_nothing = ap (answered (λ v. length (w ++ z))) more ∙ go (read_record r w) refl
      where
        go : (x : Res (Values r)) → read_record r w ≡ x → answered (λ v. length (w ++ z)) x ≡ answered (λ v. length w) x
        go (good v) e = let l : length w ≤ largest_record = (Whole.accept_back largest_record r w v e).2 in absurd (omega arith)
        go (fault n p) e = refl

    -- with a sheet,
    pub later_bytes_change_no_sheet : (d : List ℕ) → (fill_answer r (w ++ z) d ≡ fill_answer r w d) × (fill_after r (w ++ z) d ≡ fill_after r w d)
    unfolding fill_answer fill_after fill_sheet
    later_bytes_change_no_sheet d = (rw more, rw more)

    -- and on a screen, which says what a refusal is about and shows the fields that were passed
    pub later_bytes_change_no_screen : (record_about largest_record r (w ++ z) ≡ record_about largest_record r w) × (record_passed largest_record r (w ++ z) ≡ record_passed largest_record r w)
    later_bytes_change_no_screen = (About.about-more largest_record r w z h (omega arith), Passing.passed-more largest_record r w z h (omega arith))

  -- "Each field handed out is that field's own bytes in the caller's record."
  pub fields_stand_there : (w : List ℕ) (v : Values r) → read_record r w ≡ good v → All (Stands w) (fields r v)
  fields_stand_there w v e = subst (λ (s : List ℕ). All (Stands s) (fields r v)) (sym (accepted_is_right w v e).0) (fields_stand r v)

  -- what is told of an accepted record: of the field that is asked for, and absent exactly where the value has none such
  module _ (w : List ℕ) (v : Values r) (e : read_record r w ≡ good v) where
    abbrev Told-of : (Entry → Bool) → (Entry → Told) → Told → Type 0
    Told-of p tell t = Tells w (fields r v) p tell t

    -- "handed out as a part of the lent record, .. in a list by index, absent past the last"
    pub part_is_the_field : (f : Field) (i : ℕ) → Told-of (is_among part_names f i) told_place (field_answer r f i w)
    part_is_the_field f i = Handing.told-first r w v e (fields_stand_there w v e) (is_among part_names f i) told_place

    -- "given record and digest, the first equal entry in the record"
    pub match_is_the_first_equal : (given : List ℕ) → Told-of (is_listed given) told_place (match_answer r given w)
    match_is_the_first_equal given = Handing.told-first r w v e (fields_stand_there w v e) (is_listed given) told_place

    pub equal_is_the_given : (given : List ℕ) (x : Entry) → T (is_listed given x) → x.bytes ≡ given
    equal_is_the_given given x t = Handing.listed_is given x t

    -- "Integers and critical come as values."
    pub value_is_the_field's : (f : Field) → Told-of (is_among integer_names f 0) (λ x. gives done (value x.bytes ∷ [])) (value_answer r f w)
    value_is_the_field's f = Handing.told-first r w v e (fields_stand_there w v e) (is_among integer_names f 0) _

    pub critical_is_the_item's : (f : Field) (i : ℕ) → Told-of (is_owner f i) (told_critical f i (fields r v)) (critical_answer r f i w)
    critical_is_the_item's f i = rw (Handing.fields_in_lem r w v e) (Handing.told-first r w v e (fields_stand_there w v e) (is_owner f i) (told_critical f i (fields r v)))

    -- "Absent and present-with-no-items are different field values."
    pub count_is_the_list's : (f : Field) → Told-of (is_among list_names f 0) (λ x. told_one done x.items) (count_answer r f w)
    count_is_the_list's f = Handing.told-first r w v e (fields_stand_there w v e) (is_among list_names f 0) _

  -- a refused record answers every question with its refusal
  pub refused_is_told : (w : List ℕ) (n : Reason) (p : ℕ) → read_record r w ≡ fault n p → (f : Field) (i : ℕ) (given : List ℕ)
      → (field_answer r f i w ≡ refusal n p) × (match_answer r given w ≡ refusal n p) × (value_answer r f w ≡ refusal n p) × (critical_answer r f i w ≡ refusal n p) × (count_answer r f w ≡ refusal n p)
  refused_is_told w n p e f i given = Handing.refused_told r w n p e f i given

  -- a refusal is about the record or a field of it; where a record is accepted there is nothing
  pub refused_is_about_something : (w : List ℕ) (n : Reason) (p : ℕ) → read_record r w ≡ fault n p → record_about largest_record r w ≡ Nothing → ⊥
  refused_is_about_something w n p e = About.refused_about largest_record r w n p e

  pub accepted_is_about_nothing : (w : List ℕ) (v : Values r) → read_record r w ≡ good v → record_about largest_record r w ≡ Nothing
  accepted_is_about_nothing w v e = About.accepted-about largest_record r w v e

  -- and the fields that were passed, of a refused record those before the fault, are their own bytes in the caller's record; of an
  -- accepted one they are all its fields
  pub passed_stand_there : (w : List ℕ) → All (Stands w) (record_passed largest_record r w)
  passed_stand_there w = Stand.passed_stand largest_record r w

  pub accepted_passes_all : (w : List ℕ) (v : Values r) → read_record r w ≡ good v → record_passed largest_record r w ≡ fields r v
  accepted_passes_all w v e = Passing.accepted-passed largest_record r w v e

  -- a part that is handed out is the field's own bytes, and lies where they lie in the caller's record; of a refused record, or where no such field
  -- is there, it has no bytes and lies at the record's start. `z` is a part of `s` by a contract: of an accessor, or of the matching entry
  module _ (s z : Bor (List ℕ)) where
    abbrev HandedOut : (Entry → Bool) → Type 0
    HandedOut p = PartOf s z (handed_out (seek r p s.now))

    pub part_is_its_own_bytes : (v : Values r) → read_record r s.now ≡ good v → (p : Entry → Bool) → HandedOut p → ((x : Entry) × First p (fields r v) x × Lies s z x.bytes x.place) ⊎ (None p (fields r v) × Lies s z [] 0)
    part_is_its_own_bytes v e p h = Handing.handed_first r s z p h v e (fields_stand_there s.now v e)

    pub refused_hands_out_nothing : (n : Reason) (q : ℕ) → read_record r s.now ≡ fault n q → (p : Entry → Bool) → HandedOut p → Lies s z [] 0
    refused_hands_out_nothing n q e p h = Handing.handed_refused r s z p h n q e

  -- what a reader's table of places tells stands there too: its second and third number are the field's start and length
  pub placed_stands_there : (w : List ℕ) (v : Values r) → read_record r w ≡ good v → (i : ℕ) (d : List ℕ) → Placed i (fields_in r w) d → (f : Field) (x : Entry) → first (is_field f i) (fields r v) ≡ some x
      → take (get_or (under f d) 2 0) (drop (get_or (under f d) 1 0) w) ≡ x.bytes
  placed_stands_there w v e i d h f x q =
      let u : under f d ≡ numbers_of (some x) = h.1 f ∙ ap (λ (y : List Entry). numbers_of (first (is_field f i) y)) (Handing.fields_in_lem r w v e) ∙ ap numbers_of q in
      rw u (stands_cut w x (first_holds (Stands w) (is_field f i) (fields r v) x (fields_stand_there w v e) (rw q at (first-sought (is_field f i) (fields r v)))))

  -- ---- sheets

  -- what is taken for a sheet is a right value's sheet and nothing else, and the sheet of every accepted record is taken
  pub sheet_is_right : (x : List ℕ) (v : Values r) → accept_sheet r x ≡ good v → (x ≡ sheets r v) × Oks r v
  sheet_is_right x v e = Whole.sheet_back largest_record r x v e

  pub right_is_a_sheet : (w : List ℕ) (v : Values r) → read_record r w ≡ good v → accept_sheet r (sheets r v) ≡ good v
  right_is_a_sheet w v e = Whole.sheet-taken largest_record r k Record.record_spelled w v e

  -- "On any refusal the destination keeps all its bytes; on success only the reported number of first bytes changes."
  -- What a caller with the destination `d` is answered and finds in it, in every case: a sheet that is filled from a record,
  module _ (w d : List ℕ) where
    abbrev Filled : List ℕ → Type 0
    Filled x = Wrote d x (fill_answer r w d) (fill_after r w d)

    abbrev NotFilled : Reason → ℕ → Type 0
    NotFilled n p = Kept d n p (fill_answer r w d) (fill_after r w d)

    pub refused_record_fills_nothing : (n : Reason) (p : ℕ) → read_record r w ≡ fault n p → NotFilled n p
    unfolding fill_answer fill_after fill_sheet bind
    refused_record_fills_nothing n p e = Whole.refused_kept d _ n p (rw e)

    module _ (v : Values r) (e : read_record r w ≡ good v) where
      pub record_fills_its_sheet : length (sheets r v) ≤ length d → Filled (sheets r v)
      unfolding fill_answer fill_after fill_sheet
      record_fills_its_sheet h = Whole.fits_wrote d (sheets r v) _ (bind_eq _ e) h

      -- "A reader that fills a sheet gives 20 after all else."
      pub sheet-without-room : length d < length (sheets r v) → NotFilled NoRoom (length (sheets r v))
      unfolding fill_answer fill_after fill_sheet
      sheet-without-room h = Whole.short_kept d (sheets r v) _ (bind_eq _ e) h

  -- and a record that is written from a sheet
  module _ (x d : List ℕ) where
    abbrev Written : List ℕ → Type 0
    Written w = Wrote d w (write_answer r x d) (write_after r x d)

    abbrev NotWritten : Reason → ℕ → Type 0
    NotWritten n p = Kept d n p (write_answer r x d) (write_after r x d)

    pub refused_sheet_writes_nothing : (n : Reason) (p : ℕ) → accept_sheet r x ≡ fault n p → NotWritten n p
    unfolding write_answer write_after write_record bind
    refused_sheet_writes_nothing n p e = Whole.refused_kept d _ n p (rw e)

    -- "A writer reads the whole sheet first, then 17, then 20."
    module _ (v : Values r) (e : accept_sheet r x ≡ good v) where
      pub too_large_a_record : largest_record < length (record_of r v) → NotWritten TooLarge 0
      unfolding write_answer write_after write_record need
      too_large_a_record h = Whole.refused_kept d _ TooLarge 0 (bind_eq _ e ∙ rw (lt-leb (length (record_of r v)) largest_record h))

      module _ (l : length (record_of r v) ≤ largest_record) where
        pub sheet_writes_its_record : length (record_of r v) ≤ length d → Written (record_of r v)
        unfolding write_answer write_after write_record
        sheet_writes_its_record h = Whole.fits_wrote d (record_of r v) _ (bind_eq _ e ∙ need_eq _ _ _ _ (le→leb _ _ l)) h

        pub record_without_room : length d < length (record_of r v) → NotWritten NoRoom (length (record_of r v))
        unfolding write_answer write_after write_record
        record_without_room h = Whole.short_kept d (record_of r v) _ (bind_eq _ e ∙ need_eq _ _ _ _ (le→leb _ _ l)) h

  -- "Record → sheet → record and sheet → record → sheet give the same bytes.": each way succeeds wherever there is room
  pub record_sheet_record : (w : List ℕ) (v : Values r) → read_record r w ≡ good v → (d d' : List ℕ) → length (sheets r v) ≤ length d → length w ≤ length d'
      → (x : List ℕ) × Filled w d x × Written x d' w
  record_sheet_record w v e d d' h h' =
      let a = accepted_is_right w v e in
      let l : length (record_of r v) ≤ length d' = rw (← a.0) h' in
      (sheets r v, record_fills_its_sheet w d v e h, rw (← a.0) at (sheet_writes_its_record (sheets r v) d' v (right_is_a_sheet w v e) a.1.1 l))

  pub sheet_record_sheet : (x : List ℕ) (v : Values r) → accept_sheet r x ≡ good v → length (record_of r v) ≤ largest_record → (d d' : List ℕ) → length (record_of r v) ≤ length d → length x ≤ length d'
      → (w : List ℕ) × Written x d w × Filled w d' x
  sheet_record_sheet x v e l d d' h h' =
      let a = sheet_is_right x v e in
      let b : length (sheets r v) ≤ length d' = rw (← a.0) h' in
      (record_of r v, sheet_writes_its_record x d v e l h, rw (← a.0) at (record_fills_its_sheet (record_of r v) d' v (right_is_accepted v (a.1, l)) b))

  -- ---- demand 3: "Accepted records end to end, none or many"

  -- "a run reads back exactly its list": every list of right values makes a run that reads as that list, and every accepted run is the bytes of such a list
  pub run_reads_back : (vs : List (Values r)) → All (Right r) vs → (read_run r (run_of r vs) ≡ whole vs) × (run_answer r (run_of r vs) ≡ told_one done (length vs))
  run_reads_back vs ok = (Runs.run_there r inner vs ok, Runs.run_counted r inner vs ok)

  pub every_run_is_a_list : (w : List ℕ) (n : ℕ) → run_answer r w ≡ told_one done n → (vs : List (Values r)) × (length vs ≡ n) × (w ≡ run_of r vs) × All (Right r) vs
  every_run_is_a_list w n e = Runs.counted_back r w n e

  -- "two lists of values never give the same bytes"
  pub two_lists_differ : (us vs : List (Values r)) → All (Right r) us → All (Right r) vs → run_of r us ≡ run_of r vs → us ≡ vs
  two_lists_differ us vs p q e = Runs.run_injective r inner us vs p q e

  -- a refused run: the records before the fault are what stands there, and the run reader stops at the same fault
  pub refused_run_stops : (w : List ℕ) (vs : List (Values r)) (n : Reason) (p : ℕ) → read_run r w ≡ stopped vs n p
      → (rest : List ℕ) × (w ≡ run_of r vs ++ rest) × All (Right r) vs × (here_at r w (length (run_of r vs)) ≡ fault n p)
  refused_run_stops w vs n p e = Runs.run_stops r w vs n p e

  -- the run reader, at every position: the end at the end and past it, else what stands there, read as a record
  pub reader_ends : (s : List ℕ) (p : ℕ) → length s ≤ p → here_at r s p ≡ good none
  reader_ends s p h = Runs.here_end r s p h

  pub reader_reads : (s : List ℕ) (p : ℕ) → p < length s → here_at r s p ≡ (bind (record_at largest_record r (drop p s) p) λ a. good (some a))
  reader_reads s p h = Runs.here-inside r s p h

  -- it takes a right record where one stands, and what it takes is one
  pub reader_takes_a_record : (s p : List ℕ) (v : Values r) (w : List ℕ) → Right r v → s ≡ p ++ (record_of r v ++ w) → here_at r s (length p) ≡ good (some (got v w (length p + length (record_of r v))))
  reader_takes_a_record s p v w ok e = Runs.here-there r inner s p v w ok e

  pub reader_takes_only_records : (s : List ℕ) (p : ℕ) (a : Got (Values r)) → here_at r s p ≡ good (some a) → (drop p s ≡ record_of r a.value ++ a.rest) × Right r a.value × (a.after ≡ p + length (record_of r a.value))
  reader_takes_only_records s p a e = Runs.here_back r s p a e

  -- it hands a record out where it stands, and goes on behind it with one more handed out; at the end and at a fault it stays
  pub reader_goes_on : (s p : List ℕ) (v : Values r) (w : List ℕ) (x : Reader) → Right r v → s ≡ p ++ (record_of r v ++ w) → x.position ≡ length p
      → (step_answer r s x ≡ told_two done x.position (length (record_of r v))) × (step_after r s x ≡ at (x.position + length (record_of r v)) (one_more x.handed))
  reader_goes_on s p v w x ok e h = Runs.step_takes r s x (got v w (x.position + length (record_of r v))) (length (record_of r v)) (rw h (reader_takes_a_record s p v w ok e)) refl

  pub reader_stays_at_the_end : (s : List ℕ) (x : Reader) → length s ≤ x.position → (step_answer r s x ≡ told_none run_end) × (step_after r s x ≡ x)
  reader_stays_at_the_end s x h = Runs.step-ends r s x (reader_ends s x.position h)

  pub reader_stays_at_a_fault : (s : List ℕ) (x : Reader) (n : Reason) (p : ℕ) → here_at r s x.position ≡ fault n p → (step_answer r s x ≡ refusal_after n p x.handed) × (step_after r s x ≡ x)
  reader_stays_at_a_fault s x n p h = Runs.step-faults r s x n p h

  -- a run step by step, from a reader that was made: it hands out exactly the records of the list, in order, each with its place; the parts that it hands out
  -- read as the list's values, one by one; and then it gives one answer for ever, with as many handed out as the list has
  abbrev pub StepsThrough : List ℕ → List (Values r) → Told → Type 0
  StepsThrough w vs t = Runs.Walked r w vs t × (map (read_record r) (Runs.parts r (length vs) w made) ≡ map (λ v. good v) vs)

  each-part-reads : (vs : List (Values r)) → All (Right r) vs → map (read_record r) (map (λ v. record_of r v) vs) ≡ map (λ v. good v) vs
  each-part-reads [] ok = refl
  each-part-reads (v ∷ vs) ok = rw (right_is_accepted v ok.0, each-part-reads vs ok.1) refl

  steps_through : (w : List ℕ) (vs : List (Values r)) (t : Told) → All (Right r) vs → Runs.Walked r w vs t → StepsThrough w vs t
  steps_through w vs t ok h = (h, ap (map (read_record r)) h.1 ∙ each-part-reads vs ok)

  -- over a run of right values the last answer is the end. No lent run has more than 2 ^ 64 - 1 bytes.
  pub reader_steps_through : (vs : List (Values r)) → All (Right r) vs → length (run_of r vs) ≤ top → StepsThrough (run_of r vs) vs (told_none run_end)
  reader_steps_through vs ok h = steps_through (run_of r vs) vs (told_none run_end) ok (Runs.run_walked r inner vs ok h)

  -- stepping through agrees with reading whole: the end after the records of an accepted run, and of a refused one the fault after the records before it
  abbrev pub Agrees : List ℕ → Ran (Values r) → Type 0
  Agrees w (whole vs) = StepsThrough w vs (told_none run_end)
  Agrees w (stopped vs n p) = StepsThrough w vs (refusal_after n p (length vs))

  pub stepping_agrees : (w : List ℕ) → length w ≤ top → Agrees w (read_run r w)
  stepping_agrees w h = go (read_run r w) refl
    where
      go : (x : Ran (Values r)) → read_run r w ≡ x → Agrees w x
      go (whole vs) e = let b = Runs.run_back r w vs e in subst (λ (s : List ℕ). StepsThrough s vs (told_none run_end)) (sym b.0) (reader_steps_through vs b.1 (rw (← b.0) h))
      go (stopped vs n p) e = steps_through w vs (refusal_after n p (length vs)) (refused_run_stops w vs n p e).2 (Runs.stop_walked r inner w vs n p e h)

-- "no record is the beginning of a longer one": of whichever kind the two are
pub no_beginning : (r q : Members) (w x : List ℕ) (u : Values r) (v : Values q) → read_record r w ≡ good u → read_record q x ≡ good v → (rest : List ℕ) → w ++ rest ≡ x → rest ≡ []
no_beginning r q w x u v e g rest h = Record.no_beginning r q w x u v e g rest h

-- "Signed bytes are the signed part, or the seal information, with its own tag and length."
pub signed-bytes : (v : Values signature) → signed_bytes SignedPart signature v ≡ record_of signed_part (signed_part_of v)
signed-bytes v = Record.signed_signature v

pub sealed_bytes : (v : Values seal) → signed_bytes SealInformation seal v ≡ record_of seal_information (information_of v)
sealed_bytes v = Record.signed_seal v

-- "equal signed bytes mean equal fields, the seal included"
pub equal_signed_bytes : (w x : List ℕ) (u v : Values signature) → read_record signature w ≡ good u → read_record signature x ≡ good v
    → signed_bytes SignedPart signature u ≡ signed_bytes SignedPart signature v → (signed_part_of u ≡ signed_part_of v) × (seal_of u ≡ seal_of v)
equal_signed_bytes w x u v e g h = Record.equal_signature w x u v e g h

pub equal_sealed_bytes : (w x : List ℕ) (u v : Values seal) → read_record seal w ≡ good u → read_record seal x ≡ good v
    → signed_bytes SealInformation seal u ≡ signed_bytes SealInformation seal v → information_of u ≡ information_of v
equal_sealed_bytes w x u v e g h = Record.equal_seal w x u v e g h

-- "a signature's sheet begins with its seal's"
pub sheet_begins_with_the_seal's : (v : Values signature) → (rest : List ℕ) × (sheets signature v ≡ sheets seal (seal_of v) ++ rest)
sheet_begins_with_the_seal's v = Record.sheet-begins v

-- ---- demand 2: "The verdict is the first step of the standard that fails on the findings, or valid."

-- the same of both verdicts, and of any table of steps
module _ (b : Rulebook) (w : List ℕ) (f : Findings) (original signer : List ℕ) where
  -- "after refusals of the record, then 18"
  pub verdict_of_a_refused : (n : Reason) (p : ℕ) → read_record b.layout w ≡ fault n p → told_verdict (verdict b w f original signer) ≡ refusal n p
  unfolding verdict
  verdict_of_a_refused n p e = rw (e, Verdict.weigh_refused b n p f original signer)

  module _ (v : Values b.layout) (e : read_record b.layout w ≡ good v) where
    abbrev facts : Facts
    facts = facts_of b.layout v f original signer

    -- the first failing row of the table
    abbrev answer : Step Facts
    answer = first_failing b.steps b.passed facts

    pub verdict_of_unreal_times : T (not (all_real f)) → told_verdict (verdict b w f original signer) ≡ refusal UnrealTime 0
    unfolding verdict
    verdict_of_unreal_times h = rw (e, Verdict.weigh-unreal b v f original signer h)

    -- else the number of the first failing row, and the notice where the row carries it and the maker is out of force now and at signing
    pub verdict_is_the_first : T (all_real f)
        → (told_verdict (verdict b w f original signer) ≡ told_one (verdict_number answer.verdict) (bit (answer.carries && maker_out facts))) × FirstFailing b.steps b.passed facts answer
    unfolding verdict judged
    verdict_is_the_first h = (rw (e, Verdict.weigh-judged b v f original signer h), Verdict.first-failing b.steps b.passed facts)

-- "With no stamp in the record 32 to 34 never arise.": the answer has none of these numbers, and is the first failing row of the table without their rows
pub no_stamp_no_step_h : (x : Facts) → stamped x ≡ false
    → (is_of_stamp (verdict_number (first_failing signature_rules.steps signature_rules.passed x).verdict) ≡ false)
    × FirstFailing unstamped_steps signature_rules.passed x (first_failing signature_rules.steps signature_rules.passed x)
no_stamp_no_step_h x h =
    (Verdict.unstamped_number x h, rw (Verdict.unstamped_answer x h) (Verdict.first-failing unstamped_steps signature_rules.passed x))

-- "A notice goes with 0 and 26 to 34"; the seal verdict "gives no notice"
pub notice_goes_with : (x : Facts) → (first_failing signature_rules.steps signature_rules.passed x).carries ≡ takes_notice (verdict_number (first_failing signature_rules.steps signature_rules.passed x).verdict)
notice_goes_with x = Verdict.signature-notice x

pub no_notice_with_a_seal : (x : Facts) → (first_failing seal_rules.steps seal_rules.passed x).carries ≡ false
no_notice_with_a_seal x = Verdict.seal-notice x

-- ---- integers: "One to eight two's-complement bytes become i64 and return", for every i64, both ends included

pub integer-there : (z : ℤ) → Fits z → T (well_formed (content_of z)) × (value (content_of z) ≡ z)
integer-there z h = (content_of-well_formed z, value-content_of z h)

pub integer_back : (c : List ℕ) → T (every is_byte c) → T (well_formed c) → (content_of (value c) ≡ c) × Fits (value c)
integer_back c h k = content_of-value c h k

-- "An integer is a section of 8 bytes.": those of its number, big-endian, in two's complement
pub integer-section : (c : List ℕ) → T (every is_byte c) → T (well_formed c) → stretch c ≡ eight (value c)
integer-section c h k = sym (eight-stretch c h k)
