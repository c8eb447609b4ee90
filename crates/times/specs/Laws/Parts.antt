-- One part of a time: the machine of the rules, which stops at the first impossible digit, says what reading all digits first says. Assumes nothing.
use Rattle.std.specs.Prelude.{◌≡◌, refl, Bool, true, false, not, ◌&&◌, List, [], ◌∷◌, drop, T, leb}
use Rattle.std.proofs.Math.Path.{sym}
use Rattle.std.proofs.Common.{◌∙◌, subst, add-one, add-zero, pow-suc, mul_assoc, mul-one, mul-le-mul_right, le_trans, lt_of_lt_of_le, drop-drop, leb→le, ltb→lt, le→leb, lt→ltb, Fits}
use Prim.Native.Nat.{ℕ, suc, zero, ◌+◌, ◌*◌, ◌-◌, ◌^◌, ◌≤◌, ◌<◌}
use native.Mathlib.Omega.{arith}
use Rattle.std.proofs.Math.Nat.{sub-zero, pow-succ'}
use Rattle.std.proofs.Math.Bool.{and_comm}
use Rattle.std.proofs.Math.Dec.{leb-suc-suc}
use Rattle.std.specs.Int.{w64}
use borrow.Author.Tests.{le-leb}
use Rattle.terms.specs.Answer.{pick, need}
use Rattle.terms.specs.Laws.Answer.{never, test, and_l, and_r, both, is_true, is_false, pick_yes, pick_no}
use Rattle.contents.specs.Time.{possible, is_digit, part_from}
use Rattle.std.specs.Prelude.{Option, Some, None}
use Rattle.times.specs.Time.{heard, after, AtMost, first_digit, inside, part_at}

number_inj : {m n : ℕ} → Some m ≡ Some n → m ≡ n
number_inj e = cc

-- no number is none
pub no_number_lem : {X : Type 0} {n : ℕ} → None ≡ Some n → X
no_number_lem e = never (cc)

pub at_most : {m n : ℕ} {r : Option ℕ} → AtMost m r → r ≡ Some n → n ≤ m
at_most h e = rw e at h

pub at_most_of : {m n k : ℕ} {r : Option ℕ} → AtMost m r → r ≡ Some n → m ≤ k → n ≤ k
at_most_of {m} {n} {k} {r} h e l = le_trans (at_most h e) l

-- ---- all digits first

-- `k` digits after the number `n`
unfoldable pub plain : ℕ → ℕ → List ℕ → Option ℕ
plain zero n w = Some n
plain (suc k) n w = after (first_digit w) λ d. plain k (n * 10 + d) (drop 1 w)

unfoldable pub within : ℕ → ℕ → ℕ → Option ℕ
within low high n = pick (inside low high n) (Some n) None

digit_small : (d : ℕ) → T (is_digit d) → d - 0x30 ≤ 9
unfolding is_digit
digit_small d h = omega (arith, leb→le d 0x39 (and_r (leb 0x30 d) (leb d 0x39) h))

-- what is possible with one digit more was possible before it
before : (low high k n d : ℕ) → d ≤ 9 → T (possible low high k (n * 10 + d)) → T (possible low high (suc k) n)
unfolding possible
before low high k n d s h =
    let p = 10 ^ k in
    let a : (n * 10 + d) * p ≤ high = leb→le _ _ (and_l (leb ((n * 10 + d) * p) high) _ h) in
    let b : low < (n * 10 + d + 1) * p = ltb→lt _ _ (and_r (leb ((n * 10 + d) * p) high) _ h) in
    let e : n * 10 ^ suc k ≡ n * 10 * p = rw (pow-succ' 10 k) (sym (mul_assoc n 10 p)) in
    let f : (n + 1) * 10 ^ suc k ≡ (n + 1) * 10 * p = rw (pow-succ' 10 k) (sym (mul_assoc (n + 1) 10 p)) in
    let x : n * 10 * p ≤ (n * 10 + d) * p = mul-le-mul_right p (omega arith) in
    let y : (n * 10 + d + 1) * p ≤ (n + 1) * 10 * p = mul-le-mul_right p (omega arith) in
    both (leb (n * 10 ^ suc k) high) _ (le→leb (n * 10 ^ suc k) high (rw e (le_trans x a))) (lt→ltb low ((n + 1) * 10 ^ suc k) (rw f (lt_of_lt_of_le b y)))

-- at the last digit: from the least to the most
at_last : (low high n : ℕ) → possible low high 0 n ≡ inside low high n
unfolding possible inside
at_last low high n = rw (mul-one n, mul-one (n + 1), add-one n, leb-suc-suc low n) (and_comm (leb n high) (leb low n))

no : (t : Bool) → T t → T (not t) → ⊥
no true h k = k
no false h k = h

-- once impossible, for ever
out : (low high k n : ℕ) (w : List ℕ) → T (not (possible low high k n)) → after (plain k n w) (within low high) ≡ None
unfolding plain after within first_digit pick
out low high zero n w h = pick_no (inside low high n) (Some n) None (subst (λ (t : Bool). T (not t)) (at_last low high n) h)
out low high (suc k) n [] h = refl
out low high (suc k) n (d ∷ w) h =
    test (is_digit d)
    (λ t.
    test (possible low high k (n * 10 + (d - 0x30)))
    (λ p. absurd (no (possible low high (suc k) n) (before low high k n (d - 0x30) (digit_small d t) p) h))
    (λ p. rw (is_true (is_digit d) t) (out low high k (n * 10 + (d - 0x30)) w p)))
    (λ t. rw (is_false (is_digit d) t))

pub all_first : (low high k n b : ℕ) (w : List ℕ) → T (possible low high k n) → heard (part_from k low high n w b) ≡ after (plain k n w) (within low high)
unfolding plain after heard part_from within first_digit pick need
all_first low high zero n b w h = sym (pick_yes (inside low high n) (Some n) None (subst (λ (t : Bool). T t) (at_last low high n) h))
all_first low high (suc k) n b [] h = refl
all_first low high (suc k) n b (d ∷ w) h =
    test (is_digit d)
    (λ t.
    test (possible low high k (n * 10 + (d - 0x30)))
    (λ p. rw (is_true (is_digit d) t, is_true (possible low high k (n * 10 + (d - 0x30))) p) (all_first low high k (n * 10 + (d - 0x30)) (b + 1) w p))
    (λ p. rw (is_true (is_digit d) t, is_false (possible low high k (n * 10 + (d - 0x30))) p) (sym (out low high k (n * 10 + (d - 0x30)) w p))))
    (λ t. rw (is_false (is_digit d) t))

-- ---- at a position of a window

-- after `j` of `k` digits the number is `n`, and the rest leads to the whole
pub record Going (k i : ℕ) (w : List ℕ) (n j : ℕ) : Type 0 where
  pub few : j ≤ k
  pub small : n < 10 ^ j
  pub rest : plain k 0 (drop i w) ≡ plain (k - j) n (drop (i + j) w)

one_more_lem : (k i : ℕ) (w : List ℕ) (n j x : ℕ) → j < k → first_digit (drop (i + j) w) ≡ Some x → plain (k - j) n (drop (i + j) w) ≡ plain (k - (j + 1)) (n * 10 + x) (drop (i + (j + 1)) w)
unfolding plain after
one_more_lem k i w n j x h e =
    let q : k - j ≡ suc (k - (j + 1)) = omega arith in
    let p : i + j + 1 ≡ i + (j + 1) = omega arith in
    rw (q, e, drop-drop 1 (i + j) w, p)

module _ {k i : ℕ} {w : List ℕ} where
  pub starts : Going k i w 0 0
  starts = record { few = omega arith; small = omega arith; rest = rw (add-zero i, sub-zero k) }

  pub turns : {n j x : ℕ} {r : Option ℕ} → Going k i w n j → j < k → r ≡ first_digit (drop (i + j) w) → r ≡ Some x → x ≤ 9 → Going k i w (n * 10 + x) (j + 1)
  turns {n} {j} {x} g h d e l = record {
    few = omega arith;
    small = rw (add-one j, pow-suc 10 j) (omega (arith, g.small));
    rest = g.rest ∙ one_more_lem k i w n j x h (sym d ∙ e);
  }

  pub stops : {n j : ℕ} {r : Option ℕ} → Going k i w n j → j < k → r ≡ first_digit (drop (i + j) w) → r ≡ None → plain k 0 (drop i w) ≡ None
  unfolding plain after
  stops {n} {j} g h d e = g.rest ∙ (let q : k - j ≡ suc (k - (j + 1)) = omega arith in rw (q, ← d, e))

  pub ends : {n j : ℕ} → Going k i w n j → k ≤ j → plain k 0 (drop i w) ≡ Some n
  unfolding plain
  ends {n} {j} g h = g.rest ∙ (let q : k - j ≡ 0 = omega arith in rw q)

-- there is room for one digit more
few_small : (n j : ℕ) → n < 10 ^ j → j < 4 → n < 1000
few_small n zero h l = omega arith
few_small n (suc zero) h l = omega arith
few_small n (suc (suc zero)) h l = omega arith
few_small n (suc (suc (suc zero))) h l = omega arith
few_small n (suc (suc (suc (suc j)))) h l = absurd (omega arith)

room : {k i n j : ℕ} {w : List ℕ} → Going k i w n j → j < k → k ≤ 4 → n < 1000
room {k} {i} {n} {j} g h l = few_small n j g.small (omega arith)

pub fits_scaled : {k i n j : ℕ} {w : List ℕ} → Going k i w n j → j < k → k ≤ 4 → Fits w64 (n * 10)
fits_scaled g h l = record { fits = omega (arith, room g h l) }

pub fits_more : {k i n j x : ℕ} {w : List ℕ} {r : Option ℕ} → Going k i w n j → j < k → k ≤ 4 → AtMost 9 r → r ≡ Some x → Fits w64 (n * 10 + x)
fits_more g h l m e = record { fits = omega (arith, room g h l, at_most m e) }

module _ (k low high i : ℕ) (w : List ℕ) (some-way : low < 10 ^ k) where
  -- the whole part
  pub part-plain : part_at k low high i w ≡ after (plain k 0 (drop i w)) (within low high)
  unfolding part_at possible
  part-plain = all_first low high k 0 i (drop i w) (both (leb (0 * 10 ^ k) high) _ (le→leb (0 * 10 ^ k) high (omega arith)) (lt→ltb low ((0 + 1) * 10 ^ k) (omega arith)))

  pub part_none : plain k 0 (drop i w) ≡ None → None ≡ part_at k low high i w
  unfolding after
  part_none e = rw (part-plain, e)

  module _ {n : ℕ} {r : Bool} (e : plain k 0 (drop i w) ≡ Some n) (t : r ≡ inside low high n) where
    pub part_out : r ≡ false → None ≡ part_at k low high i w
    unfolding after within pick
    part_out h = rw (part-plain, e, sym t ∙ h)

    pub part_in : r ≡ true → Some n ≡ part_at k low high i w
    unfolding after within pick
    part_in h = rw (part-plain, e, sym t ∙ h)

pub not_too_low : (low high n : ℕ) → low ≤ n → leb n high ≡ inside low high n
unfolding inside
not_too_low low high n h = rw (le-leb low n h)

inside_both : (low high n : ℕ) → inside low high n ≡ true → (low ≤ n) × (n ≤ high)
unfolding inside
inside_both low high n e =
    let t : T (leb low n && leb n high) = subst (λ (b : Bool). T b) (sym e) tt in
    (leb→le low n (and_l (leb low n) (leb n high) t), leb→le n high (and_r (leb low n) (leb n high) t))

module _ (low high n : ℕ) {r : Bool} (e : r ≡ inside low high n) (h : r ≡ true) where
  pub inside_least : low ≤ n
  inside_least = (inside_both low high n (sym e ∙ h)).0

  pub inside_most : n ≤ high
  inside_most = (inside_both low high n (sym e ∙ h)).1

-- a part that was read is no less than the least
pub part_least : (k low high i : ℕ) (w : List ℕ) {r : Option ℕ} {n : ℕ} → low < 10 ^ k → r ≡ part_at k low high i w → r ≡ Some n → low ≤ n
unfolding after within
part_least k low high i w {r} {n} s e q = go (plain k 0 (drop i w)) (sym (part-plain k low high i w s) ∙ sym e ∙ q)
  where
    read : (m : ℕ) → within low high m ≡ Some n → low ≤ n
    read m g =
        test (inside low high m)
        (λ t. let v : m ≡ n = number_inj (sym (pick_yes (inside low high m) (Some m) None t) ∙ g) in rw (← v) (inside_both low high m (is_true (inside low high m) t)).0)
        (λ t. no_number_lem (sym (pick_no (inside low high m) (Some m) None t) ∙ g))

    go : (p : Option ℕ) → after p (within low high) ≡ Some n → low ≤ n
    go (Some m) g = read m g
    go None g = no_number_lem g
