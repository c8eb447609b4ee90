-- What is stored in two goes is stored in one, and what is stored from the start stands at the front. Assumes nothing.
use Rattle.std.specs.Prelude.{◌≡◌, length, set, drop, leb}
use Rattle.std.proofs.Math.Path.{refl, ap}
use Rattle.std.proofs.Common.{sym, ◌∙◌, arith, leb→le, lt-ltb, le-ltb}
use Prim.Native.Nat.{ℕ, suc, zero, ◌+◌, ◌≤◌, ◌<◌}
use mathlib.Core.List.{List, [], ◌∷◌, ◌++◌, append_assoc}
use Rattle.std.proofs.Math.ListN.{length-append}
use Rattle.std.proofs.Math.Dec.{nleb→lt}
use Rattle.terms.specs.Answer.{pick}
use Rattle.terms.specs.Laws.Answer.{test}
use Rattle.stores.specs.Store.{cap, bump, advance, put, puts}

-- ---- positions

pub bump_on : (o : ℕ) → o < cap → o + 1 ≡ bump o
unfolding bump pick
bump_on o h = rw (lt-ltb o cap h)

pub bump-full : (o : ℕ) → cap ≤ o → o ≡ bump o
unfolding bump pick
bump-full o h = rw (le-ltb o cap h)

pub advance_stuck : (o n : ℕ) → cap ≤ o → advance o n ≡ o
unfolding advance
advance_stuck o zero h = refl
advance_stuck o (suc n) h = rw (← bump-full o h) (advance_stuck o n h)

pub advance-small : (o n : ℕ) → o + n ≤ cap → advance o n ≡ o + n
unfolding advance
advance-small o zero h = omega arith
advance-small o (suc n) h =
    let k : o < cap = omega arith in
    rw (← bump_on o k) (advance-small (o + 1) n (omega arith) ∙ omega arith)

pub advance-full : (o n : ℕ) → o ≤ cap → cap ≤ o + n → advance o n ≡ cap
unfolding advance
advance-full o zero h k = omega arith
advance-full o (suc n) h k =
    test (leb cap o)
    (λ g. let q : cap ≤ o = leb→le cap o g in rw (← bump-full o q) (advance_stuck o n q ∙ omega arith))
    (λ g. let q : o < cap = nleb→lt cap o g in rw (← bump_on o q) (advance-full (o + 1) n (omega arith) (omega arith)))

advance-add : (o m n : ℕ) → advance o (m + n) ≡ advance (advance o m) n
unfolding advance
advance-add o zero n = let z : 0 + n ≡ n = omega arith in rw z
advance-add o (suc m) n = let z : suc m + n ≡ suc (m + n) = omega arith in rw z (advance-add (bump o) m n)

-- a number of bytes that stopped at the cap leads to the same position
pub advance_capped : (o n : ℕ) → advance o (advance 0 n) ≡ advance o n
advance_capped o n =
    test (leb n cap)
    (λ g. let q : n ≤ cap = leb→le n cap g in ap (advance o) (advance-small 0 n (omega arith) ∙ omega arith))
    (λ g. let q : cap < n = nleb→lt n cap g in
    let f : advance 0 n ≡ cap = advance-full 0 n (omega arith) (omega arith) in
    rw f (test (leb cap o)
    (λ g. let r : cap ≤ o = leb→le cap o g in advance_stuck o cap r ∙ sym (advance_stuck o n r))
    (λ g. let r : o < cap = nleb→lt cap o g in advance-full o cap (omega arith) (omega arith) ∙ sym (advance-full o n (omega arith) (omega arith)))))

bump-more : (o : ℕ) → o ≤ bump o
bump-more o =
    test (leb cap o)
    (λ g. let q = bump-full o (leb→le cap o g) in omega arith)
    (λ g. let q = bump_on o (nleb→lt cap o g) in omega arith)

-- ---- a destination

put-append : (d : List ℕ) (o : ℕ) (xs ys : List ℕ) → put d o (xs ++ ys) ≡ put (put d o xs) (advance o (length xs)) ys
unfolding put advance
put-append d o [] ys = refl
put-append d o (x ∷ xs) ys = put-append (set d o x) (bump o) xs ys

set_past : (d : List ℕ) (o b : ℕ) → length d ≤ o → set d o b ≡ d
set_past [] o b h = refl
set_past (x ∷ d) zero b h = absurd (omega arith)
set_past (x ∷ d) (suc o) b h = ap (λ (y : List ℕ). x ∷ y) (set_past d o b (omega arith))

-- past the end nothing is stored
pub put_past : (d : List ℕ) (o : ℕ) (xs : List ℕ) → length d ≤ o → put d o xs ≡ d
unfolding put
put_past d o [] h = refl
put_past d o (x ∷ xs) h = rw (set_past d o x h) (let b = bump-more o in put_past d (bump o) xs (omega arith))

-- what is stored behind some bytes
module _ (bs : List ℕ) (d : List ℕ) (o o₁ : ℕ) (d₁ : List ℕ) (h : (o₁, d₁) ≡ puts bs d o) where
  pub puts_to : o₁ ≡ advance o (length bs)
  unfolding puts
  puts_to = ap (λ (w : ℕ × List ℕ). w.0) h

  pub puts_is : d₁ ≡ put d o bs
  unfolding puts
  puts_is = ap (λ (w : ℕ × List ℕ). w.1) h

  pub puts_then : (cs : List ℕ) → puts cs d₁ o₁ ≡ puts (bs ++ cs) d o
  unfolding puts
  puts_then cs = rw (puts_to, puts_is, length-append bs cs, put-append d o bs cs, advance-add o (length bs) (length cs)) refl

pub puts_none : (d : List ℕ) (o : ℕ) → (o, d) ≡ puts [] d o
unfolding puts put advance
puts_none d o = refl

-- ---- from the start on

put_none : (d : List ℕ) (o : ℕ) → put d o [] ≡ d
unfolding put
put_none d o = refl

put_one : (d : List ℕ) (o b : ℕ) (y : List ℕ) → o < cap → put d o (b ∷ y) ≡ put (set d o b) (o + 1) y
unfolding put
put_one d o b y h = rw (← bump_on o h)

set_here : (front d : List ℕ) (x b : ℕ) → set (front ++ (x ∷ d)) (length front) b ≡ (front ++ (b ∷ [])) ++ d
set_here [] d x b = refl
set_here (a ∷ front) d x b = ap (λ (l : List ℕ). a ∷ l) (set_here front d x b)

-- behind bytes that stay
pub put-behind : (front d y : List ℕ) → length front + length y ≤ cap → length y ≤ length d → put (front ++ d) (length front) y ≡ front ++ (y ++ drop (length y) d)
put-behind front d [] h k = put_none (front ++ d) (length front)
put-behind front [] (b ∷ y) h k = absurd (omega arith)
put-behind front (x ∷ d) (b ∷ y) h k =
    let l : length front + 1 ≡ length (front ++ (b ∷ [])) = sym (length-append front (b ∷ [])) in
    put_one (front ++ (x ∷ d)) (length front) b y (omega arith)
    ∙ ap (λ (z : List ℕ). put z (length front + 1) y) (set_here front d x b)
    ∙ ap (λ (n : ℕ). put ((front ++ (b ∷ [])) ++ d) n y) l
    ∙ put-behind (front ++ (b ∷ [])) d y (omega arith) (omega arith)
    ∙ append_assoc front (b ∷ []) (y ++ drop (length y) d)

-- what is stored from the start stands at the front, and all other bytes are as they were
pub put_start : (d y : List ℕ) → length y ≤ cap → length y ≤ length d → put d 0 y ≡ y ++ drop (length y) d
put_start d y h k = put-behind [] d y (omega arith) k
