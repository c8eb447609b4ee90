-- What is stored by each function, with premises as code has them. Assumes nothing.
use Rattle.std.specs.Prelude.{◌≡◌, ℕ, suc, ◌+◌, ◌-◌, ◌≤◌, ◌<◌, min, Bool, true, ◌&&◌, List, [], ◌∷◌, length, get_or, set, drop, replicate, T, leb}
use Rattle.std.proofs.Math.Path.{refl}
use Rattle.std.proofs.Common.{sym, ap, ◌∙◌, add-one, drop_of_length-le, drop-cons}
use native.Mathlib.Omega.{arith}
use Rattle.std.proofs.Math.Dec.{leb→le, nleb→lt}
use Rattle.terms.specs.Laws.Answer.{test, and_l, and_r}
use Rattle.stores.specs.Store.{cap, bump, advance, put, puts, room_for}
use Rattle.stores.specs.Laws.Store.{bump_on, advance_stuck, advance-small, advance-full, put_past, puts_then, puts_none}

-- ---- positions

pub add_stuck : (o n : ℕ) → cap ≤ o → o ≡ advance o n
add_stuck o n h = sym (advance_stuck o n h)

pub add_on : (o n m : ℕ) → o < cap → m ≡ min (o + n) cap → m ≡ advance o n
add_on o n m h e =
    test (leb (o + n) cap)
    (λ g. let q : o + n ≤ cap = leb→le (o + n) cap g in rw (advance-small o n q) (omega arith))
    (λ g. let q : cap < o + n = nleb→lt (o + n) cap g in rw (advance-full o n (omega arith) (omega arith)) (omega arith))

-- ---- a byte

module _ (d : List ℕ) (o b p : ℕ) (x : List ℕ) (e : p ≡ bump o) where
  pub put_gone : length d ≤ o → x ≡ d → (p, x) ≡ puts (b ∷ []) d o
  unfolding puts advance
  put_gone h f = rw (put_past d o (b ∷ []) h, e, f) refl

  pub put-there : x ≡ set d o b → (p, x) ≡ puts (b ∷ []) d o
  unfolding puts put advance
  put-there f = rw (e, f) refl

-- ---- loops: what is left to store from here on is the whole

module _ (b : ℕ) (d₀ : List ℕ) (o₀ n : ℕ) (d : List ℕ) (p k : ℕ) (i : puts (replicate n b) d₀ o₀ ≡ puts (replicate (n - k) b) d p) where
  pub repeated_on : (q : ℕ) (d₁ : List ℕ) → k < n → (q, d₁) ≡ puts (b ∷ []) d p → puts (replicate n b) d₀ o₀ ≡ puts (replicate (n - (k + 1)) b) d₁ q
  repeated_on q d₁ h g =
      let e : n - k ≡ suc (n - (k + 1)) = omega arith in
      i ∙ ap (λ (m : ℕ). puts (replicate m b) d p) e ∙ sym (puts_then (b ∷ []) d p q d₁ g (replicate (n - (k + 1)) b))

  pub repeated_end : n ≤ k → (p, d) ≡ puts (replicate n b) d₀ o₀
  repeated_end h = let e : n - k ≡ 0 = omega arith in puts_none d p ∙ sym (i ∙ ap (λ (m : ℕ). puts (replicate m b) d p) e)

module _ (w : List ℕ) (d₀ : List ℕ) (o₀ : ℕ) (d : List ℕ) (p k : ℕ) (i : puts w d₀ o₀ ≡ puts (drop k w) d p) where
  pub copied_on : (q : ℕ) (d₁ : List ℕ) → k < length w → (q, d₁) ≡ puts (get_or w k 0 ∷ []) d p → puts w d₀ o₀ ≡ puts (drop (k + 1) w) d₁ q
  copied_on q d₁ h g =
      let e : drop k w ≡ get_or w k 0 ∷ drop (k + 1) w = drop-cons w k 0 h ∙ ap (λ (n : ℕ). get_or w k 0 ∷ drop n w) (sym (add-one k)) in
      i ∙ ap (λ (l : List ℕ). puts l d p) e ∙ sym (puts_then (get_or w k 0 ∷ []) d p q d₁ g (drop (k + 1) w))

  pub copied_end : length w ≤ k → (p, d) ≡ puts w d₀ o₀
  copied_end h = puts_none d p ∙ sym (i ∙ ap (λ (l : List ℕ). puts l d p) (drop_of_length-le w {i = k} h))

pub copied_past : (w d : List ℕ) (o p : ℕ) → length d ≤ o → p ≡ advance o (length w) → (p, d) ≡ puts w d o
unfolding puts
copied_past w d o p h e = rw (put_past d o w h, e) refl

-- ---- bytes that have room

module _ (size o n : ℕ) (t : Bool) (e : t ≡ room_for size o n) (f : t ≡ true) where
  room_tests : T (leb size cap && leb (o + n) size)
  unfolding room_for
  room_tests = rw (sym e ∙ f) tt

  pub room-size : o + n ≤ size
  room-size = leb→le (o + n) size (and_r (leb size cap) (leb (o + n) size) room_tests)

  pub room-cap : size ≤ cap
  room-cap = leb→le size cap (and_l (leb size cap) (leb (o + n) size) room_tests)

  pub room-end : o + n ≤ cap
  room-end = omega (arith, room-cap, room-size)

module _ (w : List ℕ) (d₀ : List ℕ) (o : ℕ) (d : List ℕ) (k : ℕ) (i : puts w d₀ o ≡ puts (drop k w) d (o + k)) where
  pub copy_on : k < length w → o + length w ≤ cap → puts w d₀ o ≡ puts (drop (k + 1) w) (set d (o + k) (get_or w k 0)) (o + (k + 1))
  copy_on h l =
      let e : o + (k + 1) ≡ bump (o + k) = let z : o + (k + 1) ≡ o + k + 1 = omega arith in z ∙ bump_on (o + k) (omega arith) in
      copied_on w d₀ o d (o + k) k i (o + (k + 1)) (set d (o + k) (get_or w k 0)) h (put-there d (o + k) (get_or w k 0) (o + (k + 1)) (set d (o + k) (get_or w k 0)) e refl)

  pub copy_end : length w ≤ k → (o + k, d) ≡ puts w d₀ o
  copy_end h = copied_end w d₀ o d (o + k) k i h

pub copy_first : (w d : List ℕ) (o : ℕ) → puts w d o ≡ puts (drop 0 w) d (o + 0)
copy_first w d o = let z : o ≡ o + 0 = omega arith in ap (λ (p : ℕ). puts w d p) z
