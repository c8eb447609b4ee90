-- A window up to an end past the slice is the window up to the slice's end; windows byte by byte. Assumes nothing.
use Rattle.std.specs.Prelude.{◌≡◌, ℕ, suc, ◌+◌, ◌≤◌, ◌<◌, List, [], ◌∷◌, length, get_or, take, drop, ltb}
use Rattle.std.proofs.Common.{sym, ap, ◌∙◌, arith, length-take, drop_of_length-le, take_all, ltb→lt, nltb→le}
use Rattle.std.proofs.Math.Seq.{slice, slice-cons, take-length}
use Rattle.terms.specs.Laws.Answer.{test, pick_lt, pick_ge}
use Rattle.windows.specs.Window.{clamp}

pub clamp_near : (e n : ℕ) → e < n → e ≡ clamp e n
unfolding clamp
clamp_near e n h = pick_lt e n e n h

pub clamp_far : (e n : ℕ) → n ≤ e → n ≡ clamp e n
unfolding clamp
clamp_far e n h = pick_ge e n e n h

-- past the slice there is nothing
pub slice-clamp : (p e : ℕ) (s : List ℕ) → slice p (clamp e (length s)) s ≡ slice p e s
slice-clamp p e s =
    test (ltb e (length s))
    (λ h. rw (← clamp_near e (length s) (ltb→lt e (length s) h)))
    (λ h. let g : length s ≤ e = nltb→le e (length s) h in
    rw (← clamp_far e (length s) g) (ap (drop p) (take-length s ∙ sym (take_all e s g))))

clamp_most : (e n : ℕ) → clamp e n ≤ n
clamp_most e n =
    test (ltb e n)
    (λ h. let g : e < n = ltb→lt e n h in rw (← clamp_near e n g) (omega arith))
    (λ h. rw (← clamp_far e n (nltb→le e n h)) (omega arith))

pub clamp_in : (q e n : ℕ) → q ≡ clamp e n → q ≤ n
clamp_in q e n h = rw h (clamp_most e n)

-- ---- byte by byte

pub byte_at : (s : List ℕ) (q e : ℕ) → q < e → e ≤ length s → slice q e s ≡ get_or s q 0 ∷ slice (q + 1) e s
byte_at s q e h k = let f : q + 1 ≡ suc q = omega arith in rw f (slice-cons q e s 0 h k)

pub nothing_at : (s : List ℕ) (q e : ℕ) → e ≤ q → slice q e s ≡ []
nothing_at s q e h = drop_of_length-le (take e s) {i = q} (let l = length-take e s in omega arith)
