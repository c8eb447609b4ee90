-- Which bytes begin a character of an alphabet, and a text byte by byte. Assumes nothing.
use Rattle.std.specs.Prelude.{◌≡◌, refl, ℕ, suc, zero, ◌≤◌, ◌<◌, max, true, false, ◌&&◌, List, [], ◌∷◌, length, get_or, take, drop, T, leb, ltb}
use Rattle.std.proofs.Math.Path.{sym}
use Rattle.std.proofs.Common.{ap, ◌∙◌, arith, drop_of_length-le, leb→le, ltb→lt, nltb→le, lt-ltb, le-ltb, le-leb}
use Rattle.std.proofs.Math.Bool.{and-true, and-false}
use Rattle.std.specs.List.{list_all, fold}
use Rattle.terms.specs.Answer.{pick, every}
use Rattle.terms.specs.Laws.Answer.{test, and_l, and_r, is_true, is_false}
use Rattle.contents.specs.Text.{Range, within, Character, character, starts, follows, text_from, is_text, ia5, printable}

-- ---- a byte of a range, and one of none

within-yes : (b : ℕ) (r : Range) → r.0 ≤ b → b ≤ r.1 → within b r ≡ true
unfolding within
within-yes b r l h = rw (le-leb r.0 b l, le-leb b r.1 h)

within_no : (b : ℕ) (r : Range) → (r.0 ≤ b → b ≤ r.1 → ⊥) → within b r ≡ false
unfolding within
within_no b r h =
    test (leb r.0 b && leb b r.1)
    (λ t. absurd (h (leb→le _ _ (and_l (leb r.0 b) (leb b r.1) t)) (leb→le _ _ (and_r (leb r.0 b) (leb b r.1) t))))
    (λ t. is_false _ t)

-- ---- the first byte of a character

-- the kind of character at a row of an alphabet
abbrev pub row : List Character → ℕ → Character
row xs n = get_or xs n (character 1 0 [])

-- a byte with which no character begins
abbrev pub Outside : List Character → ℕ → Type 0
Outside [] b = Unit {0}
Outside (x ∷ xs) b = (x.first.0 ≤ b → b ≤ x.first.1 → ⊥) × Outside xs b

-- a byte that a row has begins a character; what follows it is of the first row that has it
pub starts-row : (xs : List Character) (n b : ℕ) → (row xs n).first.0 ≤ b → b ≤ (row xs n).first.1 → true ≡ starts xs b
unfolding starts
starts-row [] n b l h = absurd (omega arith)
starts-row (x ∷ xs) zero b l h = rw (within-yes b x.first l h)
starts-row (x ∷ xs) (suc n) b l h = test (within b x.first) (λ t. rw (is_true (within b x.first) t)) (λ t. rw (is_false (within b x.first) t) (starts-row xs n b l h))

pub follows-row : (xs : List Character) (n b : ℕ) → Outside (take n xs) b → (row xs n).first.0 ≤ b → b ≤ (row xs n).first.1 → follows xs b ≡ (row xs n).rest
unfolding follows pick
follows-row [] n b o l h = absurd (omega arith)
follows-row (x ∷ xs) zero b o l h = rw (within-yes b x.first l h)
follows-row (x ∷ xs) (suc n) b (o, os) l h = rw (within_no b x.first o) (follows-row xs n b os l h)

pub starts_none : (xs : List Character) (b : ℕ) → Outside xs b → false ≡ starts xs b
unfolding starts
starts_none [] b h = refl
starts_none (x ∷ xs) b (h, k) = rw (within_no b x.first h) (starts_none xs b k)

-- ---- an alphabet byte by byte

-- a byte below 80 is a character of its own, in both alphabets
pub low_byte : (xs : List Character) → row xs 0 ≡ character 0x00 0x7F [] → (b : ℕ) (c : List ℕ) → b < 0x80 → is_text xs (b ∷ c) ≡ is_text xs c
unfolding text_from
low_byte xs e b c h =
    let z : (row xs 0).first.0 ≤ b = rw e (omega arith) in
    let m : b ≤ (row xs 0).first.1 = rw e (omega arith) in
    rw (← starts-row xs 0 b z m, follows-row xs 0 b tt z m, e)

-- the bytes after some of which the largest is `m`
below : (m : ℕ) (c : List ℕ) → ltb (fold max m c) 0x80 ≡ ltb m 0x80 && is_text ia5 c
unfolding text_from
below m [] = sym (and-true (ltb m 0x80))
below m (b ∷ c) =
    test (ltb b 0x80)
    (λ t. let h : b < 0x80 = ltb→lt b 0x80 t in rw (low_byte ia5 refl b c h, ← below_max h) (below (max m b) c))
    (λ t. let h : 0x80 ≤ b = nltb→le b 0x80 t in rw (← starts_none ia5 b ((λ l k. omega arith), tt), and-false (ltb m 0x80), ← above_max h) (below (max m b) c))
  where
    below_max : b < 0x80 → ltb (max m b) 0x80 ≡ ltb m 0x80
    below_max h =
        test (ltb m 0x80)
        (λ t. let k : m < 0x80 = ltb→lt m 0x80 t in rw (lt-ltb m 0x80 k) (lt-ltb (max m b) 0x80 (omega arith)))
        (λ t. let k : 0x80 ≤ m = nltb→le m 0x80 t in rw (le-ltb m 0x80 k) (le-ltb (max m b) 0x80 (omega arith)))

    above_max : 0x80 ≤ b → ltb (max m b) 0x80 && is_text ia5 c ≡ false
    above_max h = rw (le-ltb (max m b) 0x80 (omega arith))

pub below_80 : (c : List ℕ) → ltb (fold max 0 c) 0x80 ≡ is_text ia5 c
below_80 c = below 0 c

-- ---- an alphabet whose characters have one byte each

follows_nothing : (xs : List Character) (b : ℕ) → T (every (λ x. ltb (length x.rest) 1) xs) → follows xs b ≡ []
unfolding follows every pick
follows_nothing [] b t = refl
follows_nothing (x ∷ xs) b t =
    test (within b x.first)
    (λ h. rw (is_true (within b x.first) h) (empty x.rest (and_l (ltb (length x.rest) 1) _ t)))
    (λ h. rw (is_false (within b x.first) h) (follows_nothing xs b (and_r (ltb (length x.rest) 1) _ t)))
  where
    empty : (rs : List Range) → T (ltb (length rs) 1) → rs ≡ []
    empty [] l = refl
    empty (r ∷ rs) l = let k : length (r ∷ rs) < 1 = ltb→lt _ 1 l in absurd (omega arith)

-- whether each byte begins a character
pub printable_each : (c : List ℕ) → list_all (starts printable) c ≡ is_text printable c
unfolding text_from every
printable_each [] = refl
printable_each (b ∷ c) = rw (follows_nothing printable b tt) (ap (λ r. starts printable b && r) (printable_each c))

-- at the end of a text nothing is left to look at
pub text_end : (xs : List Character) (w : List ℕ) (i : ℕ) → length w ≤ i → is_text xs w ≡ is_text xs (drop i w) → true ≡ is_text xs w
unfolding text_from
text_end xs w i h e = sym (e ∙ rw (drop_of_length-le w h))
