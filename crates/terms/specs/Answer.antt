-- An answer or a refusal, and how two readings are joined. Assumes nothing.
use Rattle.std.specs.Prelude.{ℕ, Bool, true, false, ◌&&◌, List, [], ◌∷◌, eqb, ℤ, pos, Result, Err}
use Rattle.std.proofs.Math.Option.{Option, none, some}
use Rattle.terms.specs.Numbers.{reason_number, done}
use Rattle.terms.specs.declared.Reason.{Reason}
use Rattle.terms.specs.declared.Refusal.{Refusal}

-- what was read, or why it is refused and where
pub data Res (A : Type 0) : Type 0 where
  good : A → Res A
  fault : Reason → ℕ → Res A

-- an item read at the start of a window: its value, what stands after it, and the offset of that
pub record Got (A : Type 0) : Type 0 where
  pub value : A
  pub rest : List ℕ
  pub after : ℕ

abbrev pub got : {A : Type 0} → A → List ℕ → ℕ → Got A
got v w b = record { value = v; rest = w; after = b }

-- one of two, by a test
unfoldable pub pick {ℓ} : {A : Type ℓ} → Bool → A → A → A
pick true a b = a
pick false a b = b

-- go on with what was read, or hand the refusal on
unfoldable pub bind : {A B : Type 0} → Res A → (A → Res B) → Res B
bind (good a) k = k a
bind (fault n p) k = fault n p

-- what comes of what was read; `x` where it is refused
abbrev pub unread : {A B : Type 0} → Res A → B → (A → B) → B
unread (good a) x k = k a
unread (fault n p) x k = x

-- go on if the test holds, else refuse, for a reason and at a place
unfoldable pub need : {A : Type 0} → Bool → Reason → ℕ → Res A → Res A
need true n p r = r
need false n p r = fault n p

-- go on with what is there, else refuse
unfoldable pub have : {A : Type 0} → Option A → Reason → ℕ → Res A
have (some a) n p = good a
have none n p = fault n p

-- every member of a list passes
unfoldable pub every : {A : Type 0} → (A → Bool) → List A → Bool
every p [] = true
every p (x ∷ xs) = p x && every p xs

-- whether a list or a string may have no member
abbrev pub may_be_empty : Bool
may_be_empty = true

abbrev pub never_empty : Bool
never_empty = false

-- some members where some are needed
unfoldable pub enough : {A : Type 0} → Bool → List A → Bool
enough true xs = true
enough false [] = false
enough false (a ∷ xs) = true

-- two lists of numbers are the same
unfoldable pub same : List ℕ → List ℕ → Bool
same [] [] = true
same [] (y ∷ ys) = false
same (x ∷ xs) [] = false
same (x ∷ xs) (y ∷ ys) = eqb x y && same xs ys

-- what was read, if nothing is left after it; else the refusal: "bytes left after the last item; place: the first"
unfoldable pub finish : {A : Type 0} → Reason → Got A → Res A
finish n a = need (same a.rest []) n a.after (good a.value)

-- ---- as code answers

abbrev pub Answer : Type 0 → Type 0
Answer A = Result A Refusal

abbrev pub refusal_at : Reason → ℕ → Refusal
refusal_at n p = record { reason = n; place = p }

abbrev pub refused : {A : Type 0} → Reason → ℕ → Answer A
refused n p = Err (refusal_at n p)

-- ---- as it is told

-- An answer in the paper's terms, its number and its values: what was done, found or judged; or a refusal, its place the first value where it has one.
-- Each type that is an answer to a caller has a definition into this one.
pub data Told : Type 0 where
  gives : ℕ → List ℤ → Told
  refuses : ℕ → List ℤ → Told

abbrev pub told_none : ℕ → Told
told_none n = gives n []

abbrev pub told_one : ℕ → ℕ → Told
told_one n x = gives n (pos x ∷ [])

abbrev pub told_two : ℕ → ℕ → ℕ → Told
told_two n x y = gives n (pos x ∷ pos y ∷ [])

abbrev pub refusal : Reason → ℕ → Told
refusal n p = refuses (reason_number n) (pos p ∷ [])

abbrev pub bit : Bool → ℕ
bit true = 1
bit false = 0

-- a reading whose value is told as a number
abbrev pub answered : {A : Type 0} → (A → ℕ) → Res A → Told
answered f (good a) = told_one done (f a)
answered f (fault n p) = refusal n p
