-- A text of UTF-8, character by character. Assumes nothing.
use Rattle.std.specs.Prelude.{◌≡◌, refl, Bool, true, false, ◌&&◌, List, [], ◌∷◌, length, get_or, take, drop, replicate, T, leb, ltb}
use Rattle.std.proofs.Math.Path.{sym}
use Rattle.std.proofs.Common.{◌∙◌, add-one, length-drop, drop_of_length-le, drop-cons, drop-drop, ltb→lt, nltb→le}
use Prim.Native.Nat.{ℕ, suc, ◌+◌, ◌-◌, ◌≤◌, ◌<◌}
use native.Mathlib.Omega.{arith}
use Rattle.std.proofs.Math.Bool.{and-true}
use Rattle.std.proofs.Math.ListN.{length-replicate}
use borrow.Author.Tests.{le-leb, lt-leb}
use Rattle.terms.specs.Answer.{pick}
use Rattle.terms.specs.Laws.Answer.{never, test, and_r, is_true, is_false}
use Rattle.contents.specs.Text.{Range, within, Character, starts, follows, text_from, is_text, ia5, utf8}
use Rattle.characters.specs.Laws.{row, Outside, starts-row, follows-row, starts_none, low_byte}
use Rattle.utf8.specs.Text.{goes_on, size_with, character_size}

-- text of ASCII is text of UTF-8
pub ascii : (c : List ℕ) (t : Bool) → t ≡ is_text ia5 c → t ≡ true → true ≡ is_text utf8 c
unfolding text_from
ascii c t e h = go c (sym (sym h ∙ e))
  where
    go : (d : List ℕ) → is_text ia5 d ≡ true → true ≡ is_text utf8 d
    go [] f = refl
    go (b ∷ d) f =
        test (ltb b 0x80)
        (λ k.
        let l : b < 0x80 = ltb→lt b 0x80 k in
        rw (low_byte utf8 refl b d l) (go d (sym (low_byte ia5 refl b d l) ∙ f)))
        (λ k.
        let l : 0x80 ≤ b = nltb→le b 0x80 k in
        let z : false ≡ true = rw (← starts_none ia5 b ((λ x y. omega arith), tt)) at f in
        never (cc))

-- ---- what follows a character's first byte

module _ (w : List ℕ) (i low high : ℕ) where
  pub stands_end : length w ≤ i → false ≡ goes_on ((low, high) ∷ []) (drop i w)
  unfolding goes_on
  stands_end h = rw (drop_of_length-le w h)

  module _ (h : i < length w) where
    pub stands_low : get_or w i 0 < low → false ≡ goes_on ((low, high) ∷ []) (drop i w)
    unfolding goes_on within
    stands_low l = rw (drop-cons w i 0, lt-leb low (get_or w i 0) l)

    pub stands_high : low ≤ get_or w i 0 → leb (get_or w i 0) high ≡ goes_on ((low, high) ∷ []) (drop i w)
    unfolding goes_on within
    stands_high l = rw (drop-cons w i 0, le-leb low (get_or w i 0) l) (sym (and-true (leb (get_or w i 0) high)))

-- the tails of a character: those that are left, from `k` on
abbrev pub tails : ℕ → List Range
tails n = replicate n (0x80, 0xBF)

first_of : (r : Range) (rs : List Range) (c : List ℕ) → goes_on (r ∷ rs) c ≡ goes_on (r ∷ []) c && goes_on rs (drop 1 c)
unfolding goes_on
first_of r rs [] = refl
first_of r rs (b ∷ c) = go (within b r) (goes_on rs c)
  where
    go : (x y : Bool) → x && y ≡ (x && true) && y
    go true y = refl
    go false y = refl

-- a byte that must follow stands there, or does not
module _ (r : Range) (rs : List Range) (w : List ℕ) (i : ℕ) (t : Bool) (e : t ≡ goes_on (r ∷ []) (drop i w)) where
  goes_on_lem : t ≡ true → goes_on (r ∷ rs) (drop i w) ≡ goes_on rs (drop (i + 1) w)
  goes_on_lem h = rw (first_of r rs (drop i w), ← e, h, drop-drop 1 i w)

  goes_wrong : t ≡ false → goes_on (r ∷ rs) (drop i w) ≡ false
  goes_wrong h = rw (first_of r rs (drop i w), ← e, h)

  pub no_size : t ≡ false → 0 ≡ size_with (r ∷ rs) (drop i w)
  unfolding size_with pick
  no_size h = rw (goes_wrong h)

stood : (r : Range) (w : List ℕ) (i : ℕ) → goes_on (r ∷ []) (drop i w) ≡ true → i < length w
unfolding goes_on
stood r w i e =
    test (ltb i (length w))
    (λ t. ltb→lt i (length w) t)
    (λ t. never (let z : false ≡ true = rw (drop_of_length-le w {i = i} (nltb→le i (length w) t)) at e in cc))

pub stood_at : (r : Range) (w : List ℕ) (i : ℕ) (t : Bool) → t ≡ goes_on (r ∷ []) (drop i w) → t ≡ true → i < length w
stood_at r w i t e h = stood r w i (sym e ∙ h)

-- the size, where the second byte and the first `k` of `n` tails stand there
pub record Tailed (r : Range) (n : ℕ) (w : List ℕ) (i k : ℕ) : Type 0 where
  pub few : k ≤ n
  pub room : i + 2 + k ≤ length w
  pub left : size_with (r ∷ tails n) (drop (i + 1) w) ≡ pick (goes_on (tails (n - k)) (drop (i + 2 + k) w)) (2 + n) 0

module _ (r : Range) (n : ℕ) (w : List ℕ) (i : ℕ) where
  pub tailed_first : (t : Bool) → t ≡ goes_on (r ∷ []) (drop (i + 1) w) → t ≡ true → Tailed r n w i 0
  unfolding size_with
  tailed_first t e h =
      let x : i + 1 + 1 ≡ i + 2 + 0 = omega arith in
      let y : suc n + 1 ≡ 2 + n = omega arith in
      let z : n - 0 ≡ n = omega arith in
      record {
        few = omega arith;
        room = omega (arith, stood_at r w (i + 1) t e h);
        left = rw (goes_on_lem r (tails n) w (i + 1) t e h, length-replicate {A = Range} n (0x80, 0xBF), x, y, z);
      }

  module _ (k : ℕ) (so : Tailed r n w i k) where
    pub tailed_all : n ≤ k → 2 + n ≡ size_with (r ∷ tails n) (drop (i + 1) w)
    unfolding goes_on pick
    tailed_all h = let z : n - k ≡ 0 = omega arith in sym (so.left ∙ rw z)

    module _ (l : k < n) (t : Bool) (e : t ≡ goes_on ((0x80, 0xBF) ∷ []) (drop (i + 2 + k) w)) where
      one_left : n - k ≡ suc (n - (k + 1))
      one_left = omega arith

      pub tailed_next : t ≡ true → Tailed r n w i (k + 1)
      tailed_next h =
          let x : i + 2 + k + 1 ≡ i + 2 + (k + 1) = omega arith in
          record {
            few = omega arith;
            room = omega (arith, stood_at (0x80, 0xBF) w (i + 2 + k) t e h);
            left = so.left ∙ rw (one_left, goes_on_lem (0x80, 0xBF) (tails (n - (k + 1))) w (i + 2 + k) t e h, x);
          }

      pub tailed_bad : t ≡ false → 0 ≡ size_with (r ∷ tails n) (drop (i + 1) w)
      unfolding pick
      tailed_bad h = sym (so.left ∙ rw (one_left, goes_wrong (0x80, 0xBF) (tails (n - (k + 1))) w (i + 2 + k) t e h))

-- ---- a text, character by character

-- the character at a position, by the row of its first byte
module _ (xs : List Character) (w : List ℕ) (i b : ℕ) (h : (i < length w) × (b ≡ get_or w i 0)) where
  pub size-row : (n r : ℕ) → r ≡ size_with (row xs n).rest (drop (i + 1) w) → Outside (take n xs) b → (row xs n).first.0 ≤ b → b ≤ (row xs n).first.1 → r ≡ character_size xs (drop i w)
  unfolding character_size pick
  size-row n r e o l m = e ∙ rw (drop-cons w i 0 h.0, ← h.1, ← starts-row xs n b l m, follows-row xs n b o l m, add-one)

  pub size_none : Outside xs b → 0 ≡ character_size xs (drop i w)
  unfolding character_size pick
  size_none o = rw (drop-cons w i 0 h.0, ← h.1, ← starts_none xs b o)

pub size_one : (c : List ℕ) → 1 ≡ size_with [] c
unfolding size_with goes_on pick
size_one c = refl

split : (xs : List Character) (rs : List Range) (c : List ℕ) → text_from xs rs c ≡ goes_on rs c && is_text xs (drop (length rs) c)
unfolding text_from goes_on
split xs [] c = refl
split xs (r ∷ rs) [] = refl
split xs (r ∷ rs) (b ∷ c) = rw (split xs rs c) (go (within b r) (goes_on rs c) (is_text xs (drop (length rs) c)))
  where
    go : (x y z : Bool) → x && (y && z) ≡ (x && y) && z
    go true y z = refl
    go false y z = refl

goes_fits : (rs : List Range) (c : List ℕ) → T (goes_on rs c) → length rs ≤ length c
unfolding goes_on
goes_fits [] c t = omega arith
goes_fits (r ∷ rs) [] t = absurd t
goes_fits (r ∷ rs) (b ∷ c) t = omega (arith, goes_fits rs c (and_r (within b r) (goes_on rs c) t))

-- a character's size: its text goes on behind it, and it has room
by_size : (xs : List Character) (c : List ℕ) (P : ℕ → Type 0)
    → (is_text xs c ≡ false → P 0)
    → ((n : ℕ) → is_text xs c ≡ is_text xs (drop (n + 1) c) → n + 1 ≤ length c → P (n + 1))
    → 0 < length c → P (character_size xs c)
unfolding text_from character_size size_with pick
by_size xs [] P f g l = absurd (omega arith)
by_size xs (b ∷ c) P f g l =
    test (starts xs b)
    (λ t.
    test (goes_on (follows xs b) c)
    (λ u. rw (is_true (starts xs b) t, is_true (goes_on (follows xs b) c) u) (g (length (follows xs b)) (rw (is_true (starts xs b) t, split xs (follows xs b) c, is_true (goes_on (follows xs b) c) u, add-one)) (omega (arith, goes_fits (follows xs b) c u))))
    (λ u. rw (is_true (starts xs b) t, is_false (goes_on (follows xs b) c) u) (f (rw (is_true (starts xs b) t, split xs (follows xs b) c, is_false (goes_on (follows xs b) c) u)))))
    (λ t. rw (is_false (starts xs b) t) (f (rw (is_false (starts xs b) t))))

module _ (xs : List Character) (w : List ℕ) (i n : ℕ) (g : n ≡ character_size xs (drop i w)) (l : i < length w) where
  room : 0 < length (drop i w)
  room = rw (length-drop i w) (omega arith)

  pub size_fits : i + n ≤ length w
  size_fits = rw g (by_size xs (drop i w) (λ m. i + m ≤ length w) (λ f. omega arith) (λ m f h. omega (arith, rw (length-drop i w) at h)) room)

  module _ (e : is_text xs w ≡ is_text xs (drop i w)) where
    pub size_on : (n ≡ 0 → ⊥) → is_text xs w ≡ is_text xs (drop (i + n) w)
    size_on h = e ∙ by_size xs (drop i w) (λ m. n ≡ m → is_text xs (drop i w) ≡ is_text xs (drop (i + n) w)) (λ f q. absurd (h q)) (λ m f k q. rw (q, ← drop-drop (m + 1) i w) f) room g

    pub size-bad : n ≡ 0 → false ≡ is_text xs w
    size-bad h = sym (e ∙ by_size xs (drop i w) (λ m. n ≡ m → is_text xs (drop i w) ≡ false) (λ f q. f) (λ m f k q. absurd (omega arith)) room g)
