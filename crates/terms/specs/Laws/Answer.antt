-- How an answer was come by: backwards, what a good answer was made of; forwards, what it comes to. Assumes nothing.
use Rattle.std.specs.Prelude.{◌≡◌, refl, ℕ, ◌≤◌, ◌<◌, Bool, true, false, not, ◌&&◌, ◌||◌, List, [], ◌∷◌, T, eqb, ltb, Ok, Err, IsErr, IsErrAnd}
use Rattle.std.proofs.Common.{sym, ap, ap₂, arith, eqb→eq, lt→ltb, eq-eqb, le-ltb}
use Rattle.std.proofs.Math.Option.{Option, none, some}
use Rattle.terms.specs.declared.Reason.{Reason}
use Rattle.terms.specs.declared.Refusal.{Refusal}
use Rattle.terms.specs.Answer.{Res, good, fault, pick, bind, need, have, same, Answer}

-- 0 is not 1, which is what two different cases that are the same come to
pub never {ℓ} : {X : Type ℓ} → ◌≡◌ {A = ℕ} 0 1 → X
never e = absurd (omega arith)

-- a refusal is no answer
pub clash {ℓ} : {A : Type 0} {X : Type ℓ} {n : Reason} {p : ℕ} {a : A} → fault n p ≡ good a → X
clash {A} {X} {n} {p} {a} e = never (cc)

pub good_inj : {A : Type 0} {a b : A} → good a ≡ good b → a ≡ b
good_inj e = cc

-- ---- tests

-- by cases on a test, with what it says
pub test {ℓ} : {X : Type ℓ} (t : Bool) → (T t → X) → (T (not t) → X) → X
test true f g = f tt
test false f g = g tt

pub and_l : (a b : Bool) → T (a && b) → T a
and_l true b t = tt
and_l false b t = t

pub and_r : (a b : Bool) → T (a && b) → T b
and_r true b t = t
and_r false b t = absurd t

pub both : (a b : Bool) → T a → T b → T (a && b)
both true b h k = k
both false b h k = h

pub or_r : (a b : Bool) → T b → T (a || b)
or_r true b t = tt
or_r false b t = t

pub is_false : (t : Bool) → T (not t) → t ≡ false
is_false true h = absurd h
is_false false h = refl

pub is_true : (t : Bool) → T t → t ≡ true
is_true true h = refl
is_true false h = absurd h

pub pick_yes {ℓ} : {A : Type ℓ} (t : Bool) (a b : A) → T t → pick t a b ≡ a
unfolding pick
pick_yes true a b h = refl
pick_yes false a b h = absurd h

pub pick_no {ℓ} : {A : Type ℓ} (t : Bool) (a b : A) → T (not t) → pick t a b ≡ b
unfolding pick
pick_no true a b h = absurd h
pick_no false a b h = refl

-- what a comparison picks
module _ {A : Type 0} (a b : ℕ) (x y : A) where
  pub pick_lt : a < b → x ≡ pick (ltb a b) x y
  pick_lt h = sym (pick_yes (ltb a b) x y (lt→ltb a b h))

  pub pick_ge : b ≤ a → y ≡ pick (ltb a b) x y
  pick_ge h = sym (pick_no (ltb a b) x y (rw (le-ltb a b h) tt))

pub same_eq : (xs ys : List ℕ) → T (same xs ys) → xs ≡ ys
unfolding same
same_eq [] [] t = refl
same_eq [] (y ∷ ys) t = absurd t
same_eq (x ∷ xs) [] t = absurd t
same_eq (x ∷ xs) (y ∷ ys) t = ap₂ ◌∷◌ (eqb→eq x y (and_l (eqb x y) (same xs ys) t)) (same_eq xs ys (and_r (eqb x y) (same xs ys) t))

pub same_refl : (xs : List ℕ) → T (same xs xs)
unfolding same
same_refl [] = tt
same_refl (x ∷ xs) = rw (eq-eqb x x refl) (same_refl xs)

-- ---- backwards: what a good answer was made of

pub by_bind {ℓ} : {A B : Type 0} {X : Type ℓ} (r : Res A) (k : A → Res B) (b : B) → bind r k ≡ good b → ((a : A) → r ≡ good a → k a ≡ good b → X) → X
unfolding bind
by_bind (good a) k b e f = f a refl e
by_bind (fault n p) k b e f = clash e

pub by_need {ℓ} : {A : Type 0} {X : Type ℓ} (t : Bool) (n : Reason) (p : ℕ) (r : Res A) (a : A) → need t n p r ≡ good a → (T t → r ≡ good a → X) → X
unfolding need
by_need true n p r a e f = f tt e
by_need false n p r a e f = clash e

pub by_have {ℓ} : {A : Type 0} {X : Type ℓ} (o : Option A) (n : Reason) (p : ℕ) (a : A) → have o n p ≡ good a → (o ≡ some a → X) → X
unfolding have
by_have (some b) n p a e f = f (ap some (good_inj e))
by_have none n p a e f = clash e

-- ---- forwards

pub bind_eq : {A B : Type 0} {r : Res A} {a : A} (k : A → Res B) → r ≡ good a → bind r k ≡ k a
unfolding bind
bind_eq k e = ap (λ r. bind r k) e

pub need_eq : {A : Type 0} (t : Bool) (n : Reason) (p : ℕ) (r : Res A) → T t → need t n p r ≡ r
unfolding need
need_eq true n p r h = refl
need_eq false n p r h = absurd h

-- ---- as code answers

-- of two answers that are the same
pub same_answer : {A : Type 0} {a b : A} → ◌≡◌ {A = Answer A} (Ok a) (Ok b) → a ≡ b
same_answer h = cc

-- and of two refusals
pub same_refusal : {A : Type 0} {e f : Refusal} → ◌≡◌ {A = Answer A} (Err e) (Err f) → e ≡ f
same_refusal h = cc

-- what `?` hands on is the refusal that it was given
pub handed_on : {A : Type 0} (y : Answer A) (r : Refusal) → IsErr y × IsErrAnd y (λ e. e ≡ r) → y ≡ Err r
handed_on (Ok a) r h = absurd h.1
handed_on (Err e) r h = rw h.1
