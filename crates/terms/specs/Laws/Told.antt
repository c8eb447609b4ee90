-- What is told of a refusal is had back: the reason from its number, the refusal from both. Assumes nothing.
use Rattle.std.specs.Prelude.{◌≡◌, refl, ℕ, List, [], ◌∷◌, get_or, ◌-◌}
use Rattle.std.proofs.Common.{sym, ap, ◌∙◌}
use Rattle.terms.specs.declared.Reason.{Reason}
use Rattle.terms.specs.declared.Reason.TheVariants.{ItemMissing, OtherTag, BadLength, PastEnd, LeftOver, BadInteger, NotAllowed, NotEs, BadCharacter, BadTime, BadIdentifier, BadBits, BadBoolean, NoBytes, NoItem, TooManyItems, TooLarge, UnrealTime, BadSheet, NoRoom}
use Rattle.terms.specs.declared.Refusal.{Refusal}
use Rattle.terms.specs.Numbers.{reason_number}
use Rattle.terms.specs.Answer.{Res, good, fault, answered, refusal}
use Rattle.terms.specs.Laws.Answer.{never}

-- the reasons in the order of their numbers
abbrev pub reason_of : ℕ → Reason
reason_of n = get_or (ItemMissing ∷ OtherTag ∷ BadLength ∷ PastEnd ∷ LeftOver ∷ BadInteger ∷ NotAllowed ∷ NotEs ∷ BadCharacter ∷ BadTime ∷ BadIdentifier ∷ BadBits ∷ BadBoolean ∷ NoBytes ∷ NoItem ∷ TooManyItems ∷ TooLarge ∷ UnrealTime ∷ BadSheet ∷ NoRoom ∷ []) (n - 1) ItemMissing

pub reason_back : (r : Reason) → reason_of (reason_number r) ≡ r
reason_back ItemMissing = refl
reason_back OtherTag = refl
reason_back BadLength = refl
reason_back PastEnd = refl
reason_back LeftOver = refl
reason_back BadInteger = refl
reason_back NotAllowed = refl
reason_back NotEs = refl
reason_back BadCharacter = refl
reason_back BadTime = refl
reason_back BadIdentifier = refl
reason_back BadBits = refl
reason_back BadBoolean = refl
reason_back NoBytes = refl
reason_back NoItem = refl
reason_back TooManyItems = refl
reason_back TooLarge = refl
reason_back UnrealTime = refl
reason_back BadSheet = refl
reason_back NoRoom = refl

same_reason : (a b : Reason) → reason_number a ≡ reason_number b → a ≡ b
same_reason a b h = sym (reason_back a) ∙ ap reason_of h ∙ reason_back b

-- a reading of which a refusal is told is refused so
pub told_refusal : {A : Type 0} (f : A → ℕ) (r : Refusal) (y : Res A) → refusal r.reason r.place ≡ answered f y → y ≡ fault r.reason r.place
told_refusal f r (good x) h = never (cc)
told_refusal f r (fault m q) h =
    let a : reason_number r.reason ≡ reason_number m = cc in
    let b : r.place ≡ q = cc in
    rw (same_reason m r.reason (sym a), b) refl

-- two refusals of one reading are the same
pub fault_one : {A : Type 0} (r s : Refusal) → ◌≡◌ {A = Res A} (fault r.reason r.place) (fault s.reason s.place) → r ≡ s
fault_one r s h =
    let a : r.reason ≡ s.reason = cc in
    let b : r.place ≡ s.place = cc in
    λ i. record { reason = a i; place = b i }
