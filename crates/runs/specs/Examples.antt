-- Runs of record S and steps of a run reader over them, evaluated. The expected answers are document 01's. Assumes nothing.
use Rattle.std.specs.Prelude.{◌≡◌, refl, ℕ, List, [], ◌∷◌, ◌++◌, set, take, pos, Ok, Some, None}
use Rattle.terms.specs.Numbers.{reason_number, done, run_end}
use Rattle.terms.specs.declared.Reason.{Reason}
use Rattle.terms.specs.declared.Reason.TheVariants.{OtherTag, PastEnd, BadCharacter, TooLarge}
use Rattle.terms.specs.Answer.{Told, gives, refuses, told_one, told_two, told_none}
use Rattle.terms.specs.Laws.Table.{Row, asks, answers, agreed}
use Rattle.records.specs.Record.{seal, signature}
use Rattle.records.specs.Samples.{record_s, record_d}
use Rattle.records.specs.Examples.{evaluate, seal_s}
use Rattle.records.specs.Found.{part}
use Rattle.runs.specs.Run.{and_then, onward, run_from, read_run, run_answer, Reader, at, made, here_in, here_at, one_more, step_after, step_answer, step_part, handed_record, told_stepped, told_counted, stopped_at}

evaluate_run : Unit {0}
unfolding evaluate and_then onward run_from read_run run_answer here_in here_at one_more step_after step_answer step_part
evaluate_run = tt

-- a refusal's number and place, and the records before it
abbrev after : Reason → ℕ → ℕ → Told
after n p k = refuses (reason_number n) (pos p ∷ pos k ∷ [])

-- S twice: 330 bytes
abbrev SS : List ℕ
SS = record_s ++ record_s

-- ---- whole runs

-- "In a run, the answer also has the number of records before the fault, places count from the run's start, a record's end is no fault 5, and 17 has that
-- record's first offset. No bytes are a run of no records."
abbrev runs : List Row
runs =
    (run_answer signature [], told_one done 0)
    ∷ (run_answer signature record_s, told_one done 1)
    ∷ (run_answer signature SS, told_one done 2)
    ∷ (run_answer signature (record_d ++ record_s ++ record_d), told_one done 3)
    ∷ (run_answer seal (seal_s ++ seal_s), told_one done 2)
    -- a fault in the first record, and where the second and the third must begin
    ∷ (run_answer signature (0x00 ∷ []), after OtherTag 0 0)
    ∷ (run_answer signature (record_s ++ 0x00 ∷ []), after OtherTag 165 1)
    ∷ (run_answer signature (SS ++ 0x00 ∷ []), after OtherTag 330 2)
    -- a second record that is cut, one whose seal id is bad, one that is too large
    ∷ (run_answer signature (record_s ++ take 164 record_s), after PastEnd 165 1)
    ∷ (run_answer signature (record_s ++ set record_s 26 0x80), after BadCharacter 189 1)
    ∷ (run_answer signature (record_s ++ 0x30 ∷ 0x82 ∷ 0xFF ∷ 0xFC ∷ []), after TooLarge 165 1)
    -- a fault before good records
    ∷ (run_answer signature (set record_s 26 0x80 ++ record_s), after BadCharacter 24 0)
    ∷ []

whole-runs : asks runs ≡ answers runs
unfolding evaluate_run
whole-runs = agreed runs tt

-- ---- the run reader

-- what a reader holds
abbrev holds : Reader → Told
holds x = told_two done x.position x.handed

abbrev says : List ℕ → Reader → Told
says s x = step_answer signature s x

abbrev then : List ℕ → Reader → Reader
then s x = step_after signature s x

-- "A run reader holds the lent run, a position and the number of records handed out, both 0 when it is made, and hands out one record at a time; at the end,
-- or at a fault, it stays and repeats that answer."
abbrev steps : List Row
steps =
    (holds made, told_two done 0 0)
    ∷ (says SS made, told_two done 0 165)
    ∷ (holds (then SS made), told_two done 165 1)
    ∷ (says SS (then SS made), told_two done 165 165)
    ∷ (holds (then SS (then SS made)), told_two done 330 2)
    -- the end, and once more
    ∷ (says SS (at 330 2), told_none run_end)
    ∷ (holds (then SS (at 330 2)), told_two done 330 2)
    ∷ (says SS (then SS (at 330 2)), told_none run_end)
    ∷ (says [] made, told_none run_end)
    ∷ (holds (then [] made), told_two done 0 0)
    -- a fault, and once more
    ∷ (says (record_s ++ 0x00 ∷ []) (at 165 1), after OtherTag 165 1)
    ∷ (holds (then (record_s ++ 0x00 ∷ []) (at 165 1)), told_two done 165 1)
    ∷ (says (record_s ++ 0x00 ∷ []) (then (record_s ++ 0x00 ∷ []) (at 165 1)), after OtherTag 165 1)
    ∷ (says (set record_s 26 0x80) made, after BadCharacter 24 0)
    ∷ (holds (then (set record_s 26 0x80) made), told_two done 0 0)
    -- a fault in the second record does not hold the first one back
    ∷ (says (record_s ++ 0x00 ∷ []) made, told_two done 0 165)
    ∷ []

-- "At any other position it reads as if a record began there, past the end as at the end; its number of records before the fault is the one it holds, and
-- a number at its type's top stays."
abbrev elsewhere : List Row
elsewhere =
    -- inside S: its length's first byte, and its signed part, which begins with no signed part
    (says SS (at 1 5), after OtherTag 1 5)
    ∷ (holds (then SS (at 1 5)), told_two done 1 5)
    ∷ (says SS (at 3 9), after OtherTag 6 9)
    ∷ (holds (then SS (at 3 9)), told_two done 3 9)
    -- where a record begins, with a number that is not its own
    ∷ (says SS (at 165 7), told_two done 165 165)
    ∷ (holds (then SS (at 165 7)), told_two done 330 8)
    -- past the end, also by one byte and at the largest position
    ∷ (says SS (at 331 2), told_none run_end)
    ∷ (holds (then SS (at 331 2)), told_two done 331 2)
    ∷ (says SS (at 18446744073709551615 0), told_none run_end)
    ∷ (holds (then SS (at 18446744073709551615 0)), told_two done 18446744073709551615 0)
    -- the number is a u64: at its top it stays, the position moves on; and one below it
    ∷ (says SS (at 165 18446744073709551615), told_two done 165 165)
    ∷ (holds (then SS (at 165 18446744073709551615)), told_two done 330 18446744073709551615)
    ∷ (holds (then SS (at 165 18446744073709551614)), told_two done 330 18446744073709551615)
    ∷ (says SS (at 1 18446744073709551615), after OtherTag 1 18446744073709551615)
    ∷ []

reader_steps : asks (steps ++ elsewhere) ≡ answers (steps ++ elsewhere)
unfolding evaluate_run
reader_steps = agreed (steps ++ elsewhere) tt

-- the code's answers in numbers: 0 for what is there, 255 for the end of a run (03, 42), a refusal with its own and the records before it
abbrev tellings : List Row
tellings =
    (told_stepped (Ok (Some (part 165 254))), gives 0 (pos 165 ∷ pos 254 ∷ []))
    ∷ (told_stepped (Ok None), gives 255 [])
    ∷ (told_stepped (stopped_at OtherTag 165 1), refuses 2 (pos 165 ∷ pos 1 ∷ []))
    ∷ (told_counted (Ok 2), gives 0 (pos 2 ∷ []))
    ∷ (told_counted (stopped_at OtherTag 165 1), refuses 2 (pos 165 ∷ pos 1 ∷ []))
    ∷ []

told-answers : asks tellings ≡ answers tellings
unfolding evaluate_run
told-answers = agreed tellings tt

-- the part handed out: the record, else "empty, at the run's start" (03, 37)
parts : step_part signature SS 0 ∷ step_part signature SS 165 ∷ step_part signature SS 330 ∷ step_part signature SS 1 ∷ [] ≡ (0, 165) ∷ (165, 165) ∷ (0, 0) ∷ (0, 0) ∷ []
unfolding evaluate_run
parts = refl

handings : handed_record (Ok (Some (part 165 254))) ∷ handed_record (Ok None) ∷ handed_record (stopped_at OtherTag 165 1) ∷ [] ≡ (165, 254) ∷ (0, 0) ∷ (0, 0) ∷ []
handings = refl
