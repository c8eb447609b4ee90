-- A whole time: its parts at their places, the date's and the clock's together. Assumes nothing.
use Rattle.std.specs.Prelude.{◌≡◌, ℕ, suc, zero, ◌+◌, ◌*◌, ◌-◌, ◌≤◌, ◌<◌, Bool, true, false, ◌&&◌, List, [], ◌∷◌, get_or, drop, T, ltb, eqb, Ok}
use Rattle.std.proofs.Math.Path.{refl}
use Rattle.std.proofs.Common.{sym, ap, ◌∙◌, drop-drop, ltb→lt, nltb→le}
use native.Mathlib.Omega.{arith}
use Rattle.std.proofs.Math.ListN.{length, drop_of_length-le}
use Rattle.std.proofs.Math.Seq.{slice, drop-cons}
use Rattle.terms.specs.declared.Reason.{Reason}
use Rattle.terms.specs.Answer.{Res, good, fault, Got, got, pick, bind, need, same, refused}
use Rattle.terms.specs.declared.Reason.TheVariants.{BadTime}
use Rattle.std.specs.Option.{is_some, unwrap_or}
use Rattle.terms.specs.Laws.Answer.{never, clash, good_inj, test, by_need, is_true, is_false}
use Rattle.contents.specs.Content.{fine, wrong, tag, ask, place_of}
use Rattle.contents.specs.Scan.{checked_at}
use Rattle.contents.specs.Time.{year_digits, month_length, possible, is_digit, part_from, zulu, Moment, moment, time_from, time_check, time_rule, moment_in, moment_of}
use Rattle.std.specs.Prelude.{Option, Some, None}
use Rattle.times.specs.Time.{heard, after, part_at, number_of, told, closing, date_in, clock_in, time_in}
use Rattle.times.specs.Laws.Parts.{no_number_lem}

number_back : (m : Moment) → moment (number_of m) ≡ m
number_back (moment n) = refl

-- where a part ends
rest : (k low high n b : ℕ) (w : List ℕ) (x : Got ℕ) → part_from k low high n w b ≡ good x → (x.rest ≡ drop k w) × (x.after ≡ b + k)
unfolding part_from
rest zero low high n b w x e = let q = good_inj e in (sym (ap (λ (y : Got ℕ). y.rest) q), sym (ap (λ (y : Got ℕ). y.after) q) ∙ (let z : b ≡ b + 0 = omega arith in z))
rest (suc k) low high n b [] x e = clash e
rest (suc k) low high n b (d ∷ w) x e =
    by_need (is_digit d && possible low high k (n * 10 + (d - 0x30))) BadTime b _ x e λ t f.
    let (p, q) = rest k low high (n * 10 + (d - 0x30)) (b + 1) w x f in
    (p, q ∙ (let z : b + 1 + k ≡ b + suc k = omega arith in z))

-- one part after the other: what holds of a refusal, and after every number that this part may have, holds
by_part : (k low high i : ℕ) (c : List ℕ) (K : Got ℕ → Res (Got Moment)) (P : Res (Got Moment) → Type 0)
    → ((n : Reason) (p : ℕ) → part_at k low high i c ≡ None → P (fault n p))
    → ((n : ℕ) → part_at k low high i c ≡ Some n → P (K (got n (drop (i + k) c) (i + k))))
    → P (bind (part_from k low high 0 (drop i c) i) K)
unfolding part_at bind heard
by_part k low high i c K P f g = go (part_from k low high 0 (drop i c) i) refl
  where
    go : (r : Res (Got ℕ)) → part_from k low high 0 (drop i c) i ≡ r → P (bind r K)
    go (fault n p) e = f n p (ap heard e)
    go (good x) e =
        let (p, q) = rest k low high 0 i (drop i c) x e in
        let h = g x.value (ap heard e) in
        rw (← drop-drop k i c, ← p, ← q) at h

step : (k low high i : ℕ) (c : List ℕ) (K : Got ℕ → Res (Got Moment)) (f g : ℕ → Option ℕ)
    → ((n : ℕ) → told (K (got n (drop (i + k) c) (i + k))) ≡ after (f n) g)
    → told (bind (part_from k low high 0 (drop i c) i) K) ≡ after (after (part_at k low high i c) f) g
unfolding after told
step k low high i c K f g h = by_part k low high i c K (λ r. told r ≡ after (after (part_at k low high i c) f) g) (λ n p e. rw e) (λ n e. rw e (h n))

last : (T : ℕ) (c : List ℕ) (g : ℕ → Option ℕ) (v : ℕ) → Some v ≡ g T → told (bind (zulu (drop 14 c) 14) λ z. good (got (moment v) z.rest z.after)) ≡ after (pick (closing (drop 14 c)) (Some T) None) g
unfolding bind after told zulu closing pick need
last T c g v h = go (drop 14 c)
  where
    go : (w : List ℕ) → told (bind (zulu w 14) λ z. good (got (moment v) z.rest z.after)) ≡ after (pick (closing w) (Some T) None) g
    go [] = refl
    go (z ∷ w) = test (eqb z 0x5A) (λ t. rw (is_true (eqb z 0x5A) t) h) (λ t. rw (is_false (eqb z 0x5A) t))

pub time-in : (c : List ℕ) → time_in c ≡ told (time_from 4 c 0)
unfolding time_in date_in clock_in time_from after
time-in c =
    sym
    (step 4 0 9999 0 c _ _ _ λ y.
    step 2 1 12 4 c _ _ _ λ m.
    step 2 1 (month_length y m) 6 c _ _ _ λ d.
    step 2 0 23 8 c _ _ _ λ h.
    step 2 0 59 10 c _ _ _ λ i.
    step 2 0 59 12 c _ _ _ λ s.
    last ((h * 100 + i) * 100 + s) c _ _ (ap Some (omega arith)))

-- ---- where a whole time ends

-- what stands after a time that was read, and that its Z is there
abbrev Ends : List ℕ → Res (Got Moment) → Type 0
Ends c r = (x : Got Moment) → r ≡ good x → (x.rest ≡ drop 15 c) × (14 < length c)

last_ends : (c : List ℕ) (v : Moment) → Ends c (bind (zulu (drop 14 c) 14) λ z. good (got v z.rest z.after))
unfolding bind zulu need
last_ends c v x e =
    test (ltb 14 (length c))
    (λ t.
    let h : 14 < length c = ltb→lt 14 (length c) t in
    test (eqb (get_or c 14 0) 0x5A)
    (λ k. (sym (ap (λ (y : Got Moment). y.rest) (good_inj (rw (drop-cons c 14 0 h, is_true (eqb (get_or c 14 0) 0x5A) k) at e))), h))
    (λ k. clash (rw (drop-cons c 14 0 h, is_false (eqb (get_or c 14 0) 0x5A) k) at e)))
    (λ t. clash (rw (drop_of_length-le c {i = 14} (nltb→le 14 (length c) t)) at e))

time_ends : (c : List ℕ) → Ends c (time_from year_digits c 0)
unfolding time_from
time_ends c =
    by_part 4 0 9999 0 c _ (Ends c) none λ y _.
    by_part 2 1 12 4 c _ (Ends c) none λ m _.
    by_part 2 1 (month_length y m) 6 c _ (Ends c) none λ d _.
    by_part 2 0 23 8 c _ (Ends c) none λ h _.
    by_part 2 0 59 10 c _ (Ends c) none λ i _.
    by_part 2 0 59 12 c _ (Ends c) none λ s _.
    last_ends c _
  where
    none : {X : Type 0} (n : Reason) (p : ℕ) → X → Ends c (fault n p)
    none n p q x e = clash e

-- the rule: fifteen bytes, and a number
module _ (c : List ℕ) where
  pub rule_other : (length c ≡ 15 → ⊥) → time_rule c ≡ wrong BadTime tag
  unfolding time_rule time_check ask same
  rule_other h = go (time_from year_digits c 0) (time_ends c)
    where
      go : (r : Res (Got Moment)) → Ends c r → time_check r ≡ wrong BadTime tag
      go (fault n p) e = refl
      go (good x) e =
          let (q, l) = e x refl in
          let m : 15 < length c = omega (arith, h) in
          rw (q, drop-cons c 15 0 m)

  pub rule_none : told (time_from year_digits c 0) ≡ None → time_rule c ≡ wrong BadTime tag
  unfolding time_rule time_check told
  rule_none = go (time_from year_digits c 0)
    where
      go : (r : Res (Got Moment)) → told r ≡ None → time_check r ≡ wrong BadTime tag
      go (fault n p) e = refl
      go (good x) e = no_number_lem (sym e)

  pub rule_fine : {n : ℕ} → length c ≡ 15 → told (time_from year_digits c 0) ≡ Some n → time_rule c ≡ fine
  unfolding time_rule time_check ask same told
  rule_fine {n} l = go (time_from year_digits c 0) (time_ends c)
    where
      go : (r : Res (Got Moment)) → Ends c r → told r ≡ Some n → time_check r ≡ fine
      go (fault k p) h e = no_number_lem e
      go (good x) h e =
          let m : length c ≤ 15 = omega arith in
          rw ((h x refl).0, drop_of_length-le c {i = 15} m)

-- ---- as code goes

pub as_read : (x : Option ℕ) (c : List ℕ) → x ≡ time_in c → x ≡ told (time_from year_digits c 0)
as_read x c e = e ∙ time-in c

-- ---- the content of a record

module _ (s w : List ℕ) (a z : ℕ) (cut : w ≡ slice a z s) where
  pub other_length : (p : ℕ) → (length w ≡ 15 → ⊥) → refused BadTime p ≡ checked_at time_rule s p a z
  unfolding checked_at place_of
  other_length p h = rw (← cut, rule_other w h)

  module _ {r : Option ℕ} (e : r ≡ told (time_from year_digits w 0)) where
    pub no_time : (p : ℕ) (t : Bool) → t ≡ is_some r → t ≡ false → refused BadTime p ≡ checked_at time_rule s p a z
    unfolding checked_at place_of
    no_time p t d q = rw (← cut, rule_none w (sym e ∙ none_of r (sym d ∙ q)))
      where
        none_of : (x : Option ℕ) → is_some x ≡ false → x ≡ None
        none_of None f = refl
        none_of (Some n) f = never (cc)

    pub right_time : (p : ℕ) (t : Bool) → length w ≡ 15 → t ≡ is_some r → t ≡ true → Ok tt ≡ checked_at time_rule s p a z
    unfolding checked_at
    right_time p t h d q = some_of r (sym e) (sym d ∙ q)
      where
        some_of : (x : Option ℕ) → told (time_from year_digits w 0) ≡ x → is_some x ≡ true → Ok tt ≡ checked_at time_rule s p a z
        some_of None f g = never (cc)
        some_of (Some n) f g = rw (← cut, rule_fine w h f)

    pub that_moment : {v : ℕ} → v ≡ unwrap_or r 0 → moment v ≡ moment_of (slice a z s)
    unfolding moment_of moment_in told
    that_moment {v} q = rw (q, e, ← cut) (go (time_from year_digits w 0))
      where
        go : (x : Res (Got Moment)) → moment (unwrap_or (told x) 0) ≡ moment_in x
        go (fault k p) = refl
        go (good x) = number_back x.value
