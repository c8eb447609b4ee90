-- A run: accepted records end to end, none or many (01, "Refusal numbers" and "Handing out"). Assumes nothing.
use Rattle.std.specs.Prelude.{ℕ, suc, zero, ◌+◌, ◌-◌, ◌^◌, List, [], ◌∷◌, length, drop, pos, ltb, Ok, Err, Some, None, Result, Option as Maybe}
use Rattle.std.proofs.Math.Option.{Option, none, some}
use Rattle.terms.specs.declared.Reason.{Reason}
use Rattle.terms.specs.Numbers.{reason_number, done, run_end, largest_record}
use Rattle.terms.specs.Answer.{Res, good, fault, Got, pick, bind, Told, refuses, told_one, told_two, told_none}
use Rattle.layouts.specs.Layout.{Members, Values, each}
use Rattle.layouts.specs.Whole.{record_of, record_at}
use Rattle.runs.specs.declared.Moved.{Moved}
use Rattle.runs.specs.declared.Stopped.{Stopped}
use Rattle.records.specs.declared.Part.{Part}

-- the bytes of a list of records
abbrev pub run_of : (r : Members) → List (Values r) → List ℕ
run_of r vs = each (λ v. record_of r v) vs

-- a refusal with the number of records before it
abbrev pub refusal_after : Reason → ℕ → ℕ → Told
refusal_after n p k = refuses (reason_number n) (pos p ∷ pos k ∷ [])

-- ---- a whole run

-- the records of a run; or those before the fault, with its reason and its place from the run's start
pub data Ran (A : Type 0) : Type 0 where
  whole : List A → Ran A
  stopped : List A → Reason → ℕ → Ran A

unfoldable pub and_then : {A : Type 0} → A → Ran A → Ran A
and_then a (whole xs) = whole (a ∷ xs)
and_then a (stopped xs n p) = stopped (a ∷ xs) n p

unfoldable pub onward : {A : Type 0} → Res (Got A) → (Got A → Ran A) → Ran A
onward (good a) k = k a
onward (fault n p) k = stopped [] n p

-- records from the front of a window to its end; `k` counts down, and never cuts a run short (`Laws.Run.enough`)
unfoldable pub run_from : ℕ → (r : Members) → List ℕ → ℕ → Ran (Values r)
run_from zero r w b = whole []
run_from (suc k) r [] b = whole []
run_from (suc k) r (x ∷ w) b = onward (record_at largest_record r (x ∷ w) b) λ a. and_then a.value (run_from k r a.rest a.after)

-- "No bytes are a run of no records." "a record's end is no fault 5"
unfoldable pub read_run : (r : Members) → List ℕ → Ran (Values r)
read_run r w = run_from (length w) r w 0

-- "In a run, the answer also has the number of records before the fault"
abbrev pub told_ran : {A : Type 0} → Ran A → Told
told_ran (whole vs) = told_one done (length vs)
told_ran (stopped vs n p) = refusal_after n p (length vs)

unfoldable pub run_answer : Members → List ℕ → Told
run_answer r w = told_ran (read_run r w)

-- ---- the run reader

-- it holds a position and the number of records handed out
pub record Reader : Type 0 where
  pub position : ℕ
  pub handed : ℕ

abbrev pub at : ℕ → ℕ → Reader
at p n = record { position = p; handed = n }

-- "both 0 when it is made"
abbrev pub made : Reader
made = at 0 0

-- what stands at a position: a record, none at the end, or a fault
unfoldable pub here_in : (r : Members) → List ℕ → ℕ → Res (Option (Got (Values r)))
here_in r [] p = good none
here_in r (x ∷ w) p = bind (record_at largest_record r (x ∷ w) p) λ a. good (some a)

-- "At any other position it reads as if a record began there, past the end as at the end"
unfoldable pub here_at : (r : Members) → List ℕ → ℕ → Res (Option (Got (Values r)))
here_at r s p = here_in r (drop p s) p

-- its number's type: u64
abbrev pub top : ℕ
top = 2 ^ 64 - 1

-- "a number at its type's top stays"
unfoldable pub one_more : ℕ → ℕ
one_more n = pick (ltb n top) (n + 1) n

-- "at the end, or at a fault, it stays and repeats that answer"
abbrev pub after_here : {A : Type 0} → Res (Option (Got A)) → Reader → Reader
after_here (good (some a)) x = at a.after (one_more x.handed)
after_here (good none) x = x
after_here (fault n p) x = x

unfoldable pub step_after : (r : Members) → List ℕ → Reader → Reader
step_after r s x = after_here (here_at r s x.position) x

abbrev pub told_here : {A : Type 0} → Res (Option (Got A)) → Reader → Told
told_here (good (some a)) x = told_two done x.position (a.after - x.position)
told_here (good none) x = told_none run_end
told_here (fault n p) x = refusal_after n p x.handed

unfoldable pub step_answer : (r : Members) → List ℕ → Reader → Told
step_answer r s x = told_here (here_at r s x.position) x

-- "hands out one record at a time": start and length of the part; at the end and at a fault "empty, at the run's start" (03, 37)
abbrev pub part_here : {A : Type 0} → Res (Option (Got A)) → ℕ → ℕ × ℕ
part_here (good (some a)) p = (p, a.after - p)
part_here (good none) p = (0, 0)
part_here (fault n q) p = (0, 0)

unfoldable pub step_part : Members → List ℕ → ℕ → ℕ × ℕ
step_part r s p = part_here (here_at r s p) p

-- ---- what the code's answers say in the paper's terms

-- what a step answers: where the record lies that it hands out, none at the end; or why it stops
abbrev pub Stepped : Type 0
Stepped = Result (Maybe Part) Stopped

abbrev pub stopped_at : {A : Type 0} → Reason → ℕ → ℕ → Result A Stopped
stopped_at n p k = Err (record { refusal = record { reason = n; place = p }; before = k })

abbrev pub told_stepped : Stepped → Told
told_stepped (Ok (Some p)) = told_two done p.start p.length
told_stepped (Ok None) = told_none run_end
told_stepped (Err e) = refusal_after e.refusal.reason e.refusal.place e.before

-- what a reader holds after a step
abbrev pub held : Moved → Reader
held m = at m.position m.handed

-- start and length of what an answer names
abbrev pub handed_record : Stepped → ℕ × ℕ
handed_record (Ok (Some p)) = (p.start, p.length)
handed_record (Ok None) = (0, 0)
handed_record (Err e) = (0, 0)

-- and what a whole run answers
abbrev pub Counted : Type 0
Counted = Result ℕ Stopped

abbrev pub told_counted : Counted → Told
told_counted (Ok n) = told_one done n
told_counted (Err e) = refusal_after e.refusal.reason e.refusal.place e.before
