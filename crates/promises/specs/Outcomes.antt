-- The contract of a reader, an accessor, a writer or a judge says what its answer tells in the paper's terms. These are the proofs that this admits one
-- answer only: two answers that tell the same are the same. Assumes nothing.
use Rattle.std.specs.Prelude.{◌≡◌, refl, Bool, true, false, List, [], ◌∷◌, ℕ, suc, zero, ◌-◌, length, get_or, eqb, ℤ, pos, negsuc, Ok, Err, Some, None}
use Rattle.std.proofs.Common.{sym, ap, ◌∙◌}
use Rattle.std.specs.Borrow.{Bor}
use Rattle.terms.specs.Laws.Told.{reason_of, reason_back}
use Rattle.terms.specs.Answer.{Told, gives, refuses, told_one, bit, Answer, refused}
use Rattle.layouts.specs.Fields.{Entry}
use Rattle.layouts.specs.Places.{table_size, Placed}
use Rattle.layouts.proofs.Laws.Places.{placed_once}
use Rattle.layouts.specs.Whole.{told_outcome}
use Rattle.records.specs.Part.{PartOf}
use Rattle.records.specs.Handing.{told_part, told_number, told_is, told_items}
use Rattle.records.specs.declared.Part.{Part}
use Rattle.records.specs.Found.{Found, part}
use Rattle.runs.specs.Run.{held, Stepped, Counted, told_stepped, told_counted, stopped_at}
use Rattle.runs.specs.declared.Moved.{Moved}
use Rattle.verdicts.specs.declared.Verdict.{Verdict}
use Rattle.verdicts.specs.declared.Verdict.TheVariants.{Valid, SignatureBad, SignerUnlisted, SealBad, MakerBad, MakerOutOfForce, OutsidePeriod, SealWithdrawn, SignerBad, OutsideDates, SignerRevoked, DigestDiffers, StampBad, AfterStamp, SignerOutAtStamp}
use Rattle.verdicts.specs.declared.Judgement.{Judgement}
use Rattle.verdicts.specs.Verdict.{verdict_number, judgement, told_verdict}

-- an answer that can be had back from what it tells is told by no other
one_answer : {A : Type 0} (told : A → Told) (back : Told → A) → ((x : A) → back (told x) ≡ x) → (x y : A) → told x ≡ told y → x ≡ y
one_answer told back h x y e = sym (h x) ∙ ap back e ∙ h y

-- the natural number at an index of the values
abbrev nat : ℕ → List ℤ → ℕ
nat i [] = 0
nat zero (pos n ∷ xs) = n
nat zero (negsuc n ∷ xs) = 0
nat (suc i) (x ∷ xs) = nat i xs

-- a verdict by its number
abbrev verdict_of : ℕ → Verdict
verdict_of n = get_or (Valid ∷ SignatureBad ∷ SignerUnlisted ∷ SealBad ∷ MakerBad ∷ MakerOutOfForce ∷ OutsidePeriod ∷ SealWithdrawn ∷ SignerBad ∷ OutsideDates ∷ SignerRevoked ∷ DigestDiffers ∷ StampBad ∷ AfterStamp ∷ SignerOutAtStamp ∷ []) (n - 20) Valid

verdict_of_back : (v : Verdict) → verdict_of (verdict_number v) ≡ v
verdict_of_back Valid = refl
verdict_of_back SignatureBad = refl
verdict_of_back SignerUnlisted = refl
verdict_of_back SealBad = refl
verdict_of_back MakerBad = refl
verdict_of_back MakerOutOfForce = refl
verdict_of_back OutsidePeriod = refl
verdict_of_back SealWithdrawn = refl
verdict_of_back SignerBad = refl
verdict_of_back OutsideDates = refl
verdict_of_back SignerRevoked = refl
verdict_of_back DigestDiffers = refl
verdict_of_back StampBad = refl
verdict_of_back AfterStamp = refl
verdict_of_back SignerOutAtStamp = refl

abbrev outcome : Told → Answer ℕ
outcome (gives n xs) = Ok (nat 0 xs)
outcome (refuses n xs) = refused (reason_of n) (nat 0 xs)

outcome_back : (x : Answer ℕ) → outcome (told_outcome x) ≡ x
outcome_back (Ok n) = refl
outcome_back (Err e) = ap (λ r. refused r e.place) (reason_back e.reason)

pub one_outcome : (x y : Answer ℕ) → told_outcome x ≡ told_outcome y → x ≡ y
one_outcome = one_answer told_outcome outcome outcome_back

-- of a contract that is an equation, and of one that says the bytes of a lent buffer after the call beside it
pub one_equation : {A : Type 0} (x y z : A) → x ≡ z → y ≡ z → x ≡ y
one_equation x y z e h = e ∙ sym h

pub one_outcome_and_bytes : (x y : Answer ℕ) (t : Told) (d d' z : List ℕ) → (told_outcome x ≡ t) × (d ≡ z) → (told_outcome y ≡ t) × (d' ≡ z) → (x ≡ y) × (d ≡ d')
one_outcome_and_bytes x y t d d' z h k = (one_outcome x y (one_equation _ _ t h.0 k.0), one_equation d d' z h.1 k.1)

-- of a part of a lent record: where it lies and what it holds
pub one_part_of : (s r r' : Bor (List ℕ)) (p : ℕ × ℕ) → PartOf s r p → PartOf s r' p → (r.ref_ptr ≡ r'.ref_ptr) × (r.now ≡ r'.now)
one_part_of s r r' p h k = (one_equation _ _ _ h.lies k.lies, one_equation _ _ _ h.holds k.holds)

-- of the table of places beside it: four numbers for each of 43 names, the index that was wanted, and no other
pub one_table : (i : ℕ) (xs : List Entry) (d d' : List ℕ) → length d ≡ table_size → length d' ≡ table_size → Placed i xs d → Placed i xs d' → d ≡ d'
one_table = placed_once

abbrev lies : Told → Found Part
lies (gives n []) = Ok None
lies (gives n (x ∷ xs)) = Ok (Some (part (nat 0 (x ∷ xs)) (nat 0 xs)))
lies (refuses n xs) = refused (reason_of n) (nat 0 xs)

lies_back : (x : Found Part) → lies (told_part x) ≡ x
lies_back (Ok (Some p)) = refl
lies_back (Ok None) = refl
lies_back (Err e) = ap (λ r. refused r e.place) (reason_back e.reason)

pub one_part : (x y : Found Part) → told_part x ≡ told_part y → x ≡ y
one_part = one_answer told_part lies lies_back

abbrev integer : Told → Found ℤ
integer (gives n []) = Ok None
integer (gives n (x ∷ xs)) = Ok (Some x)
integer (refuses n xs) = refused (reason_of n) (nat 0 xs)

integer_back : (x : Found ℤ) → integer (told_number x) ≡ x
integer_back (Ok (Some z)) = refl
integer_back (Ok None) = refl
integer_back (Err e) = ap (λ r. refused r e.place) (reason_back e.reason)

pub one_integer : (x y : Found ℤ) → told_number x ≡ told_number y → x ≡ y
one_integer = one_answer told_number integer integer_back

abbrev critical : Told → Found Bool
critical (gives n []) = Ok None
critical (gives n (x ∷ xs)) = Ok (Some (eqb 1 (nat 0 (x ∷ xs))))
critical (refuses n xs) = refused (reason_of n) (nat 0 xs)

critical_back : (x : Found Bool) → critical (told_is x) ≡ x
critical_back (Ok (Some true)) = refl
critical_back (Ok (Some false)) = refl
critical_back (Ok None) = refl
critical_back (Err e) = ap (λ r. refused r e.place) (reason_back e.reason)

pub one_critical : (x y : Found Bool) → told_is x ≡ told_is y → x ≡ y
one_critical = one_answer told_is critical critical_back

abbrev items : Told → Found ℕ
items (gives n []) = Ok None
items (gives n (x ∷ xs)) = Ok (Some (nat 0 (x ∷ xs)))
items (refuses n xs) = refused (reason_of n) (nat 0 xs)

items_back : (x : Found ℕ) → items (told_items x) ≡ x
items_back (Ok (Some n)) = refl
items_back (Ok None) = refl
items_back (Err e) = ap (λ r. refused r e.place) (reason_back e.reason)

pub one_count : (x y : Found ℕ) → told_items x ≡ told_items y → x ≡ y
one_count = one_answer told_items items items_back

abbrev stepped : Told → Stepped
stepped (gives n []) = Ok None
stepped (gives n (x ∷ xs)) = Ok (Some (part (nat 0 (x ∷ xs)) (nat 0 xs)))
stepped (refuses n xs) = stopped_at (reason_of n) (nat 0 xs) (nat 1 xs)

stepped_back : (x : Stepped) → stepped (told_stepped x) ≡ x
stepped_back (Ok (Some p)) = refl
stepped_back (Ok None) = refl
stepped_back (Err e) = ap (λ r. stopped_at r e.refusal.place e.before) (reason_back e.refusal.reason)

pub one_step : (x y : Stepped) → told_stepped x ≡ told_stepped y → x ≡ y
one_step = one_answer told_stepped stepped stepped_back

-- of what is held after a step beside it
pub one_move : (x y : Moved) → told_stepped x.answer ≡ told_stepped y.answer → held x ≡ held y → x ≡ y
one_move x y e h = λ i. record { position = (h i).position; handed = (h i).handed; answer = one_step x.answer y.answer e i }

abbrev counted : Told → Counted
counted (gives n xs) = Ok (nat 0 xs)
counted (refuses n xs) = stopped_at (reason_of n) (nat 0 xs) (nat 1 xs)

counted_back : (x : Counted) → counted (told_counted x) ≡ x
counted_back (Ok n) = refl
counted_back (Err e) = ap (λ r. stopped_at r e.refusal.place e.before) (reason_back e.refusal.reason)

pub one_run : (x y : Counted) → told_counted x ≡ told_counted y → x ≡ y
one_run = one_answer told_counted counted counted_back

abbrev verdict : Told → Answer Judgement
verdict (gives n xs) = Ok (judgement (verdict_of n) (eqb 1 (nat 0 xs)))
verdict (refuses n xs) = refused (reason_of n) (nat 0 xs)

verdict_back : (x : Answer Judgement) → verdict (told_verdict x) ≡ x
verdict_back (Ok j) = go j.verdict j.notice
  where
    go : (v : Verdict) (b : Bool) → verdict (told_one (verdict_number v) (bit b)) ≡ Ok (judgement v b)
    go v true = ap (λ x. Ok (judgement x true)) (verdict_of_back v)
    go v false = ap (λ x. Ok (judgement x false)) (verdict_of_back v)
verdict_back (Err e) = ap (λ r. refused r e.place) (reason_back e.reason)

pub one_verdict : (x y : Answer Judgement) → told_verdict x ≡ told_verdict y → x ≡ y
one_verdict = one_answer told_verdict verdict verdict_back
