-- An integer's content, its eight bytes and its number: each is made from the others. Assumes nothing.
use Rattle.std.specs.Prelude.{◌≡◌, refl, ℕ, suc, zero, ◌+◌, ◌-◌, ◌*◌, ◌/◌, ◌%◌, ◌^◌, ◌≤◌, ◌<◌, List, [], ◌∷◌, ◌++◌, replicate, T, leb, ltb, eqb, ℤ, pos, negsuc}
use Rattle.std.proofs.Common.{sym, ap₂, ◌∙◌, length-append, eqb→eq, leb→le, le→leb, lt→ltb, nltb→le, lt-ltb, le-ltb}
use Rattle.std.proofs.Math.Path.{ap}
use native.Mathlib.Omega.{arith}
use Rattle.std.proofs.Math.Option.{none, some}
use Rattle.std.proofs.Math.ListN.{length}
use Rattle.std.proofs.lemmas.List.{length-replicate}
use Rattle.std.proofs.Math.Dec.{eqb_refl, ltb→lt}
use Rattle.terms.specs.Answer.{pick, every}
use Rattle.terms.specs.Digits.{digits, number, number_from, is_byte}
use Rattle.terms.specs.Laws.Answer.{never, test, and_l, and_r, both, pick_yes, pick_no}
use Rattle.terms.specs.Laws.Digits.{number_of-digits, digits_number, length_digits, digits-small, number_small, number_split}
use Rattle.contents.specs.Integer.{sign, shortest, widest, well_formed, turned, value, eight, shrink, content_of, sign_of, stretch, unstretch, Fits}

-- ---- a content and its eight bytes

sign-sign : (a : ℕ) → sign (sign a) ≡ sign a
unfolding sign pick
sign-sign a = test (ltb a 128) (λ h. rw (lt-ltb a 128 (ltb→lt a 128 h))) (λ h. rw (le-ltb a 128 (nltb→le a 128 h)))

shrink_short : (c : List ℕ) → T (shortest c) → shrink c ≡ c
unfolding shortest shrink
shrink_short [] h = refl
shrink_short (a ∷ []) h = refl
shrink_short (a ∷ b ∷ c) h = pick_no (eqb a (sign b)) _ _ h

shrink-more : (k a : ℕ) (c : List ℕ) → shrink (replicate k (sign a) ++ (a ∷ c)) ≡ shrink (a ∷ c)
unfolding shrink
shrink-more zero a c = refl
shrink-more (suc zero) a c = pick_yes (eqb (sign a) (sign a)) _ _ (eqb_refl (sign a))
shrink-more (suc (suc k)) a c = pick_yes (eqb (sign a) (sign (sign a))) _ _ (rw (sign-sign a) (eqb_refl (sign a))) ∙ shrink-more (suc k) a c

stretch-length : (c : List ℕ) → length c ≤ widest → length (stretch c) ≡ widest
unfolding stretch
stretch-length c h = length-append (replicate (widest - length c) (sign_of c)) c ∙ ap (λ (m : ℕ). m + length c) (length-replicate (widest - length c) (sign_of c)) ∙ omega arith

stretch-shrink : (c : List ℕ) → T (shortest c) → shrink (stretch c) ≡ c
unfolding stretch sign_of
stretch-shrink [] h = absurd (unfold shortest in h)
stretch-shrink (a ∷ c) h = shrink-more (widest - suc (length c)) a c ∙ shrink_short (a ∷ c) h

pub stretch-there : (c : List ℕ) → T (shortest c) → T (leb (length c) widest) → unstretch (stretch c) ≡ some c
unfolding unstretch
stretch-there c h l =
    pick_yes (eqb (length (stretch c)) widest) _ _ (rw (stretch-length c (leb→le (length c) widest l)) tt) ∙ ap some (stretch-shrink c h)

-- shrinking keeps the sign, and what it took away is the sign
shrink-sign : (x : List ℕ) → sign_of (shrink x) ≡ sign_of x
unfolding shrink sign_of
shrink-sign [] = refl
shrink-sign (a ∷ []) = refl
shrink-sign (a ∷ b ∷ c) =
    test (eqb a (sign b))
    (λ h. ap sign_of (pick_yes (eqb a (sign b)) _ _ h) ∙ shrink-sign (b ∷ c) ∙ sym (ap sign (eqb→eq a (sign b) h) ∙ sign-sign b))
    (λ h. ap sign_of (pick_no (eqb a (sign b)) _ _ h))

shrink_least : (x : List ℕ) → length (shrink x) ≤ length x
unfolding shrink
shrink_least [] = omega arith
shrink_least (a ∷ []) = omega arith
shrink_least (a ∷ b ∷ c) =
    let ih = shrink_least (b ∷ c) in
    test (eqb a (sign b))
    (λ h. rw (pick_yes (eqb a (sign b)) (shrink (b ∷ c)) (a ∷ b ∷ c) h) (omega arith))
    (λ h. rw (pick_no (eqb a (sign b)) (shrink (b ∷ c)) (a ∷ b ∷ c) h) (omega arith))

pub shrink_back : (x : List ℕ) → replicate (length x - length (shrink x)) (sign_of x) ++ shrink x ≡ x
unfolding shrink sign_of
shrink_back [] = refl
shrink_back (a ∷ []) = refl
shrink_back (a ∷ b ∷ c) =
    let ih = shrink_back (b ∷ c) in
    let m = shrink_least (b ∷ c) in
    test (eqb a (sign b))
    (λ h. let q : a ≡ sign b = eqb→eq a (sign b) h in
    let s : sign a ≡ sign b = ap sign q ∙ sign-sign b in
    let n : suc (suc (length c)) - length (shrink (b ∷ c)) ≡ suc (suc (length c) - length (shrink (b ∷ c))) = omega arith in
    rw (pick_yes (eqb a (sign b)) (shrink (b ∷ c)) (a ∷ b ∷ c) h, n, s) (ap₂ ◌∷◌ (sym q) ih))
    (λ h. let z : suc (suc (length c)) - suc (suc (length c)) ≡ 0 = omega arith in
    rw (pick_no (eqb a (sign b)) (shrink (b ∷ c)) (a ∷ b ∷ c) h, z))

pub stretch_back : (x c : List ℕ) → unstretch x ≡ some c → stretch c ≡ x
unfolding unstretch stretch
stretch_back x c e =
    test (eqb (length x) widest)
    (λ h. let l : length x ≡ widest = eqb→eq (length x) widest h in
    let q : some (shrink x) ≡ some c = sym (pick_yes (eqb (length x) widest) _ _ h) ∙ e in
    let r : shrink x ≡ c = cc in
    rw (← r, shrink-sign x, ← l) (shrink_back x))
    (λ h. let q : none ≡ some c = sym (pick_no (eqb (length x) widest) _ _ h) ∙ e in never (cc))

pub stretch_near : (c : List ℕ) → length (stretch c) ≤ 8 + length c
unfolding stretch
stretch_near c = omega (arith, length-append (replicate (widest - length c) (sign_of c)) c, length-replicate (widest - length c) (sign_of c))

-- ---- a content and its number

abbrev bytes : List ℕ → Type 0
bytes c = T (every is_byte c)

turned-turned : (c : List ℕ) → bytes c → turned (turned c) ≡ c
unfolding turned every
turned-turned [] h = refl
turned-turned (a ∷ c) h =
    let l : a < 256 = ltb→lt a 256 (and_l (is_byte a) (every is_byte c) h) in
    ap₂ ◌∷◌ (let e : 255 - (255 - a) ≡ a = omega arith in e) (turned-turned c (and_r (is_byte a) (every is_byte c) h))

turned-bytes : (c : List ℕ) → bytes c → bytes (turned c)
unfolding turned every
turned-bytes [] h = tt
turned-bytes (a ∷ c) h = both (is_byte (255 - a)) (every is_byte (turned c)) (lt→ltb (255 - a) 256 (omega arith)) (turned-bytes c (and_r (is_byte a) (every is_byte c) h))

turned-length : (c : List ℕ) → length (turned c) ≡ length c
unfolding turned
turned-length [] = refl
turned-length (a ∷ c) = ap suc (turned-length c)

-- a first byte below 80 leaves the number below half its room
low_number : (a : ℕ) (c : List ℕ) → a < 128 → bytes c → length c ≡ 7 → number 256 (a ∷ c) < 2 ^ 63
unfolding number_from
low_number a c h k l =
    let e = number_split 256 (omega arith) a c in
    let s : number_from 256 0 c < 256 ^ length c = number_small 256 (omega arith) c k in
    let s' : number_from 256 0 c < 256 ^ 7 = rw l at s in
    let e' : number_from 256 a c ≡ a * 256 ^ 7 + number_from 256 0 c = rw l at e in
    let z : 0 * 256 + a ≡ a = omega arith in
    let q : number 256 (a ∷ c) ≡ number_from 256 a c = ap (λ (m : ℕ). number_from 256 m c) z in
    omega arith

-- the sign is the first byte's highest bit
value_low : (a : ℕ) (c : List ℕ) → a < 128 → value (a ∷ c) ≡ pos (number 256 (a ∷ c))
unfolding value
value_low a c h = pick_yes (ltb a 128) _ _ (lt→ltb a 128 h)

value_high : (a : ℕ) (c : List ℕ) → 128 ≤ a → value (a ∷ c) ≡ negsuc (number 256 (turned (a ∷ c)))
unfolding value
value_high a c h = pick_no (ltb a 128) _ _ (rw (le-ltb a 128 h) tt)

-- eight bytes are the bytes of their number
abbrev Eight : List ℕ → ℤ → Type 0
Eight x z = (eight z ≡ x) × Fits z

module _ (a : ℕ) (c : List ℕ) (k : bytes (a ∷ c)) (l : length c ≡ 7) where
  eight_low : a < 128 → Eight (a ∷ c) (value (a ∷ c))
  unfolding eight every
  eight_low h =
      let d : digits 256 (suc (length c)) (number 256 (a ∷ c)) ≡ a ∷ c = digits_number 256 (omega arith) (a ∷ c) k in
      let d' : digits 256 8 (number 256 (a ∷ c)) ≡ a ∷ c = rw l at d in
      rw (value_low a c h) (d', low_number a c h (and_r (is_byte a) (every is_byte c) k) l)

  eight_high : 128 ≤ a → Eight (a ∷ c) (value (a ∷ c))
  unfolding eight every turned
  eight_high h =
      let t : bytes (turned c) = turned-bytes c (and_r (is_byte a) (every is_byte c) k) in
      let u : a < 256 = ltb→lt a 256 (and_l (is_byte a) (every is_byte c) k) in
      let a' : 255 - a < 128 = omega arith in
      let l' : length (turned c) ≡ 7 = turned-length c ∙ l in
      let d : digits 256 (suc (length (turned c))) (number 256 ((255 - a) ∷ turned c)) ≡ (255 - a) ∷ turned c = digits_number 256 (omega arith) ((255 - a) ∷ turned c) (turned-bytes (a ∷ c) k) in
      let d' : digits 256 8 (number 256 ((255 - a) ∷ turned c)) ≡ (255 - a) ∷ turned c = rw l' at d in
      rw (value_high a c h) (ap turned d' ∙ turned-turned (a ∷ c) k, low_number (255 - a) (turned c) a' t l')

pub eight-value : (x : List ℕ) → bytes x → length x ≡ widest → Eight x (value x)
eight-value [] k l = absurd (omega arith)
eight-value (a ∷ c) k l =
    let l' : length c ≡ 7 = omega arith in
    test (ltb a 128)
    (λ h. eight_low a c k l' (ltb→lt a 128 h))
    (λ h. eight_high a c k l' (nltb→le a 128 h))

-- the number of a number's bytes
pub value-eight : (z : ℤ) → Fits z → value (eight z) ≡ z
unfolding eight digits turned
value-eight (pos n) h =
    let e : number 256 (digits 256 8 n) ≡ n = number_of-digits 256 (omega arith) 8 n (omega arith) in
    let f : n / 256 ^ 7 % 256 < 128 = omega arith in
    value_low (n / 256 ^ 7 % 256) (digits 256 7 n) f ∙ ap pos e
value-eight (negsuc n) h =
    let e : number 256 (digits 256 8 n) ≡ n = number_of-digits 256 (omega arith) 8 n (omega arith) in
    let t : turned (turned (digits 256 8 n)) ≡ digits 256 8 n = turned-turned (digits 256 8 n) (digits-small 256 (omega arith) 8 n) in
    let f : 128 ≤ 255 - n / 256 ^ 7 % 256 = omega arith in
    value_high (255 - n / 256 ^ 7 % 256) (turned (digits 256 7 n)) f ∙ ap negsuc (ap (number 256) t ∙ e)

-- a byte that is not needed changes nothing
value_idle : (b : ℕ) (c : List ℕ) → value (sign b ∷ b ∷ c) ≡ value (b ∷ c)
unfolding value sign pick number_from turned
value_idle b c =
    test (ltb b 128)
    (λ h. rw (lt-ltb b 128 (ltb→lt b 128 h)) refl)
    (λ h. rw (le-ltb b 128 (nltb→le b 128 h)) refl)

pub value-shrink : (x : List ℕ) → value (shrink x) ≡ value x
unfolding shrink
value-shrink [] = refl
value-shrink (a ∷ []) = refl
value-shrink (a ∷ b ∷ c) =
    test (eqb a (sign b))
    (λ h. ap value (pick_yes (eqb a (sign b)) _ _ h) ∙ value-shrink (b ∷ c) ∙ sym (rw (eqb→eq a (sign b) h) (value_idle b c)))
    (λ h. ap value (pick_no (eqb a (sign b)) _ _ h))

-- ---- a number and its content

shrink-shortest : (a : ℕ) (x : List ℕ) → T (shortest (shrink (a ∷ x)))
unfolding shrink shortest
shrink-shortest a [] = tt
shrink-shortest a (b ∷ c) =
    test (eqb a (sign b))
    (λ h. rw (pick_yes (eqb a (sign b)) (shrink (b ∷ c)) (a ∷ b ∷ c) h) (shrink-shortest b c))
    (λ h. rw (pick_no (eqb a (sign b)) (shrink (b ∷ c)) (a ∷ b ∷ c) h) h)

length-eight : (z : ℤ) → length (eight z) ≡ widest
unfolding eight
length-eight (pos n) = length_digits 256 (omega arith) 8 n
length-eight (negsuc n) = turned-length (digits 256 8 n) ∙ length_digits 256 (omega arith) 8 n

replicate-bytes : (k a : ℕ) (c : List ℕ) → T (is_byte a) → bytes c → bytes (replicate k a ++ c)
unfolding every
replicate-bytes zero a c h g = g
replicate-bytes (suc k) a c h g = both (is_byte a) _ h (replicate-bytes k a c h g)

sign_of_byte : (c : List ℕ) → T (is_byte (sign_of c))
unfolding sign_of sign
sign_of_byte [] = tt
sign_of_byte (a ∷ c) = test (ltb a 128) (λ h. rw (pick_yes {A = ℕ} (ltb a 128) 0 255 h) tt) (λ h. rw (pick_no {A = ℕ} (ltb a 128) 0 255 h) tt)

pub content_of-well_formed : (z : ℤ) → T (well_formed (content_of z))
unfolding well_formed content_of
content_of-well_formed z =
    let m = shrink_least (eight z) in
    let n = length-eight z in
    both (shortest (shrink (eight z))) _ (some_shortest (eight z) (omega arith)) (le→leb (length (shrink (eight z))) 8 (omega arith))
  where
    some_shortest : (x : List ℕ) → 1 ≤ length x → T (shortest (shrink x))
    some_shortest [] h = absurd (omega arith)
    some_shortest (a ∷ x) h = shrink-shortest a x

-- the number of the content of a number, for every number that eight bytes hold
pub value-content_of : (z : ℤ) → Fits z → value (content_of z) ≡ z
unfolding content_of
value-content_of z h = value-shrink (eight z) ∙ value-eight z h

-- the content of the number of a content, and that it is such a number
pub content_of-value : (c : List ℕ) → bytes c → T (well_formed c) → (content_of (value c) ≡ c) × Fits (value c)
unfolding well_formed content_of
content_of-value c k h =
    let s = and_l (shortest c) (leb (length c) widest) h in
    let l : length c ≤ widest = leb→le (length c) widest (and_r (shortest c) (leb (length c) widest) h) in
    let v : value c ≡ value (stretch c) = ap value (sym (stretch-shrink c s)) ∙ value-shrink (stretch c) in
    let b : bytes (stretch c) = unfold stretch in replicate-bytes (widest - length c) (sign_of c) c (sign_of_byte c) k in
    let e = eight-value (stretch c) b (stretch-length c l) in
    rw v (ap shrink e.0 ∙ stretch-shrink c s, e.1)

-- the section of a content is the eight bytes of its number
pub eight-stretch : (c : List ℕ) → bytes c → T (well_formed c) → eight (value c) ≡ stretch c
unfolding well_formed
eight-stretch c k h =
    let s = and_l (shortest c) (leb (length c) widest) h in
    let l : length c ≤ widest = leb→le (length c) widest (and_r (shortest c) (leb (length c) widest) h) in
    let v : value c ≡ value (stretch c) = ap value (sym (stretch-shrink c s)) ∙ value-shrink (stretch c) in
    let b : bytes (stretch c) = unfold stretch in replicate-bytes (widest - length c) (sign_of c) c (sign_of_byte c) k in
    ap eight v ∙ (eight-value (stretch c) b (stretch-length c l)).0
