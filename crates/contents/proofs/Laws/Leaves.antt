-- A value and its section: each is made of the other. Assumes nothing.
use Rattle.std.specs.Prelude.{◌≡◌, refl, ℕ, ◌+◌, ◌≤◌, Bool, true, false, List, length, T, leb}
use Rattle.std.proofs.Common.{arith}
use Rattle.std.proofs.Math.Option.{some}
use Rattle.terms.specs.declared.Reason.{Reason}
use Rattle.terms.specs.Answer.{Res, good}
use Rattle.terms.specs.Laws.Answer.{never, clash, and_l, and_r}
use Rattle.contents.specs.Content.{Check, fine, wrong, ask, passes, judge}
use Rattle.contents.specs.Integer.{shortest, well_formed, widest}
use Rattle.contents.specs.Rules.{integer_rule}
use Rattle.contents.specs.Leaves.{Holding, bytes, number, rule_of, section_of, value_in}
use Rattle.contents.proofs.Laws.Integer.{stretch-there, stretch_back, stretch_near}

-- ---- what a rule went through

pub by_ask {ℓ} : {X : Type ℓ} (t : Bool) (n : Reason) (k : Check) → ask t n k ≡ fine → (T t → k ≡ fine → X) → X
unfolding ask
by_ask true n k h f = f tt h
by_ask false n k h f = never (cc)

pub by_judge {ℓ} : {A : Type 0} {X : Type ℓ} (k : Check) (p s : ℕ) (r : Res A) (a : A) → judge k p s r ≡ good a → (k ≡ fine → r ≡ good a → X) → X
unfolding judge
by_judge fine p s r a e f = f refl e
by_judge (wrong n x) p s r a e f = clash e

pub passed : (k : Check) → T (passes k) → k ≡ fine
unfolding passes
passed fine h = refl
passed (wrong n x) h = absurd h

-- ---- a value and its section

pub value_there : (h : Holding) (v : List ℕ) → rule_of h v ≡ fine → value_in h (section_of h v) ≡ some v
unfolding integer_rule well_formed
value_there (bytes rule) v ok = refl
value_there (number allowed) v ok = by_ask _ _ _ ok λ t e. stretch-there v (and_l (shortest v) (leb (length v) widest) t) (and_r (shortest v) (leb (length v) widest) t)

pub value_back : (h : Holding) (x v : List ℕ) → value_in h x ≡ some v → section_of h v ≡ x
value_back (bytes rule) x v e = cc
value_back (number allowed) x v e = stretch_back x v e

-- a section is not much longer than its value
pub section_near : (h : Holding) (v : List ℕ) → length (section_of h v) ≤ 8 + length v
section_near (bytes rule) v = omega arith
section_near (number allowed) v = stretch_near v

-- what a primitive item holds is bytes, and no number
abbrev pub IsBytes : Holding → Type 0
IsBytes (bytes rule) = Unit {0}
IsBytes (number allowed) = ⊥

-- then its section is its value
pub section_is_value : (h : Holding) → IsBytes h → (v : List ℕ) → section_of h v ≡ v
section_is_value (bytes rule) i v = refl
section_is_value (number allowed) i v = absurd i
