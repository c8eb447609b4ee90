-- A content's number by its eight bytes, and the bytes that are needed. Assumes nothing.
use Rattle.std.specs.Prelude.{◌≡◌, refl, ℕ, suc, ◌+◌, ◌-◌, ◌^◌, ◌≤◌, ◌<◌, Bool, true, false, not, List, [], ◌∷◌, length, get_or, take, drop, replicate, zero, eqb, ltb, ℤ, pos, Option, Some, None}
use Rattle.std.proofs.Common.{sym, ap, ◌∙◌, arith, to_z, of_z, take_all, drop_of_length-le, length-drop, append-nil, Fits, w8, lt-ltb, le-ltb, ltb→lt, nltb→le, le→leb}
use Rattle.std.proofs.Math.Facts.{to_z_pos, to_z-neg}
use Rattle.std.specs.Int.{w64, from_be_bytes}
use borrow.Author.Tests.{not-true, not-false}
use Rattle.std.proofs.Math.Option.{some, none}
use Rattle.terms.specs.Answer.{pick}
use Rattle.terms.specs.Laws.Answer.{never, test, is_true, is_false, pick_yes, pick_no}
use Rattle.terms.specs.Digits.{number_from, number}
use Rattle.contents.specs.Integer.{sign, shortest, well_formed, turned, value, shrink, stretch, unstretch, sign_of}
use Rattle.contents.proofs.Laws.Integer.{stretch-there, value-shrink}
use Rattle.std.proofs.Math.ListN.{length-replicate}
use borrow.Rule.Slice.PartMut.{put_mid}
use Rattle.numbers.specs.Number.{number_of}

-- ---- eight bytes

-- bytes and the same with every bit turned
together : (a b c d e f g h a₁ b₁ c₁ d₁ e₁ f₁ g₁ h₁ : ℕ) → a + a₁ ≡ 255 → b + b₁ ≡ 255 → c + c₁ ≡ 255 → d + d₁ ≡ 255 → e + e₁ ≡ 255 → f + f₁ ≡ 255 → g + g₁ ≡ 255 → h + h₁ ≡ 255
    → from_be_bytes w64 (a ∷ b ∷ c ∷ d ∷ e ∷ f ∷ g ∷ h ∷ []) + suc (number 256 (a₁ ∷ b₁ ∷ c₁ ∷ d₁ ∷ e₁ ∷ f₁ ∷ g₁ ∷ h₁ ∷ [])) ≡ 2 ^ 64
unfolding number_from
together a b c d e f g h a₁ b₁ c₁ d₁ e₁ f₁ g₁ h₁ pa pb pc pd pe pf pg ph = omega arith

upper : (b c d e f g h a₁ b₁ c₁ d₁ e₁ f₁ g₁ h₁ : ℕ) → a₁ < 128 → b + b₁ ≡ 255 → c + c₁ ≡ 255 → d + d₁ ≡ 255 → e + e₁ ≡ 255 → f + f₁ ≡ 255 → g + g₁ ≡ 255 → h + h₁ ≡ 255
    → suc (number 256 (a₁ ∷ b₁ ∷ c₁ ∷ d₁ ∷ e₁ ∷ f₁ ∷ g₁ ∷ h₁ ∷ [])) ≤ 2 ^ 63
unfolding number_from
upper b c d e f g h a₁ b₁ c₁ d₁ e₁ f₁ g₁ h₁ l pb pc pd pe pf pg ph = omega arith

sub_from : (x y z : ℕ) → x + y ≡ z → x ≡ z - y
sub_from x y z h = omega arith

-- eight bytes read as an integer of the machine
module _ (a b c d e f g h : ℕ) (b₁ : b < 256) (c₁ : c < 256) (d₁ : d < 256) (e₁ : e < 256) (f₁ : f < 256) (g₁ : g < 256) (h₁ : h < 256) where
  low_bytes : a < 128 → to_z w64 (from_be_bytes w64 (a ∷ b ∷ c ∷ d ∷ e ∷ f ∷ g ∷ h ∷ [])) ≡ value (a ∷ b ∷ c ∷ d ∷ e ∷ f ∷ g ∷ h ∷ [])
  unfolding value pick number_from
  low_bytes l = rw (lt-ltb a 128 l) (to_z_pos w64 (omega arith) ∙ ap pos (omega arith))

  high_bytes : 128 ≤ a → a < 256 → to_z w64 (from_be_bytes w64 (a ∷ b ∷ c ∷ d ∷ e ∷ f ∷ g ∷ h ∷ [])) ≡ value (a ∷ b ∷ c ∷ d ∷ e ∷ f ∷ g ∷ h ∷ [])
  unfolding value pick number_from turned
  high_bytes l m =
      let k : ℕ = number 256 (turned (a ∷ b ∷ c ∷ d ∷ e ∷ f ∷ g ∷ h ∷ [])) in
      let s : from_be_bytes w64 (a ∷ b ∷ c ∷ d ∷ e ∷ f ∷ g ∷ h ∷ []) + suc k ≡ 2 ^ 64 =
      together a b c d e f g h (255 - a) (255 - b) (255 - c) (255 - d) (255 - e) (255 - f) (255 - g) (255 - h)
      (omega arith) (omega arith) (omega arith) (omega arith) (omega arith) (omega arith) (omega arith) (omega arith)
      in
      let q : suc k ≤ 2 ^ 63 = upper b c d e f g h (255 - a) (255 - b) (255 - c) (255 - d) (255 - e) (255 - f) (255 - g) (255 - h) (omega arith) (omega arith) (omega arith) (omega arith) (omega arith) (omega arith) (omega arith) (omega arith) in
      rw (le-ltb a 128 l) (ap (to_z w64) (sub_from _ (suc k) (2 ^ 64) s) ∙ to_z-neg w64 k q)

pub be_value : (x : List ℕ) → length x ≡ 8 → ((i : ℕ) → get_or x i 0 < 256) → to_z w64 (from_be_bytes w64 x) ≡ value x
be_value (a ∷ b ∷ c ∷ d ∷ e ∷ f ∷ g ∷ h ∷ []) n l =
    test (ltb a 128)
    (λ t. low_bytes a b c d e f g h (l 1) (l 2) (l 3) (l 4) (l 5) (l 6) (l 7) (ltb→lt a 128 t))
    (λ t. high_bytes a b c d e f g h (l 1) (l 2) (l 3) (l 4) (l 5) (l 6) (l 7) (nltb→le a 128 t) (l 0))
be_value [] n l = absurd (omega arith)
be_value (a ∷ []) n l = absurd (omega arith)
be_value (a ∷ b ∷ []) n l = absurd (omega arith)
be_value (a ∷ b ∷ c ∷ []) n l = absurd (omega arith)
be_value (a ∷ b ∷ c ∷ d ∷ []) n l = absurd (omega arith)
be_value (a ∷ b ∷ c ∷ d ∷ e ∷ []) n l = absurd (omega arith)
be_value (a ∷ b ∷ c ∷ d ∷ e ∷ f ∷ []) n l = absurd (omega arith)
be_value (a ∷ b ∷ c ∷ d ∷ e ∷ f ∷ g ∷ []) n l = absurd (omega arith)
be_value (a ∷ b ∷ c ∷ d ∷ e ∷ f ∷ g ∷ h ∷ i ∷ x) n l = absurd (omega arith)

pub machine_value : (x : List ℕ) (z : ℤ) → z ≡ to_z w64 (from_be_bytes w64 x) → length x ≡ 8 → ((i : ℕ) → Fits w8 (get_or x i 0)) → z ≡ value x
machine_value x z e h l = e ∙ be_value x h (λ i. (l i).fits)

-- a content that is shortest has a byte
pub some_byte : (c : List ℕ) → shortest c ≡ true → 0 < length c
unfolding shortest
some_byte [] e = never (cc)
some_byte (a ∷ c) e = omega arith

-- the sign before a content, up to eight bytes: the same number
take_same : (s n m : ℕ) → n ≤ m → take n (replicate m s) ≡ replicate n s
take_same s zero m h = refl
take_same s (suc n) zero h = absurd (omega arith)
take_same s (suc n) (suc m) h = ap (λ xs. s ∷ xs) (take_same s n m (omega arith))

module _ (c : List ℕ) (e : shortest c ≡ true) (l : length c ≤ 8) where
  value-stretch : value (stretch c) ≡ value c
  unfolding unstretch
  value-stretch = sym (value-shrink (stretch c)) ∙ ap value (back (eqb (length (stretch c)) 8) (stretch-there c (rw e tt) (le→leb (length c) 8 l)))
    where
      back : {x y : List ℕ} (t : Bool) → pick t (some x) none ≡ some y → x ≡ y
      back {x} {y} t f =
          test t
          (λ h. let q : some x ≡ some y = sym (pick_yes t _ _ h) ∙ f in cc)
          (λ h. let q : none ≡ some y = sym (pick_no t _ _ h) ∙ f in never (cc))

  filled : (s : ℕ) → s ≡ sign_of c → put_mid (8 - length c) (8 - (8 - length c)) (replicate 8 s) c ≡ stretch c
  unfolding stretch
  filled s f =
      let all : drop (8 - (8 - length c)) (drop (8 - length c) (replicate 8 s)) ≡ [] =
      drop_of_length-le (drop (8 - length c) (replicate 8 s)) {i = 8 - (8 - length c)} (omega (arith, length-drop (8 - length c) (replicate 8 s), length-replicate {A = ℕ} 8 s))
      in
      rw (take_same s (8 - length c) 8 (omega arith), all, append-nil, f)

  pub filled_value : (s : ℕ) (x : List ℕ) (z : ℤ) → s ≡ sign (get_or c 0 0) → x ≡ c → z ≡ value (put_mid (8 - length c) (8 - (8 - length c)) (s ∷ s ∷ s ∷ s ∷ s ∷ s ∷ s ∷ s ∷ []) x) → z ≡ value c
  filled_value s x z f g h = h ∙ rw (g, filled s (f ∙ sign_first c (some_byte c e))) value-stretch
    where
      sign_first : (y : List ℕ) → 0 < length y → sign (get_or y 0 0) ≡ sign_of y
      sign_first [] m = absurd (omega arith)
      sign_first (a ∷ y) m = unfold sign_of in refl

-- what a number that was read says of its content
pub number_well : (c : List ℕ) (z : ℤ) → number_of c ≡ Some z → (well_formed c ≡ true) × (value c ≡ z)
unfolding number_of
number_well c z e =
    test (well_formed c)
    (λ h. let q : Some (value c) ≡ Some z = sym (pick_yes (well_formed c) _ _ h) ∙ e in let v : value c ≡ z = cc in (is_true (well_formed c) h, v))
    (λ h. let q : ◌≡◌ {A = Option ℤ} None (Some z) = sym (pick_no (well_formed c) _ _ h) ∙ e in never (cc))

pub number_ill : (c : List ℕ) → number_of c ≡ None → well_formed c ≡ false
unfolding number_of
number_ill c e =
    test (well_formed c)
    (λ h. let q : Some (value c) ≡ None = sym (pick_yes (well_formed c) _ _ h) ∙ e in never (cc))
    (λ h. is_false (well_formed c) h)

-- ---- the bytes that are needed

module _ (x y : List ℕ) (e : shrink x ≡ shrink y) where
  pub shrink_on : (t : Bool) → 2 ≤ length y → t ≡ not (eqb (get_or y 0 0) (sign (get_or y 1 0))) → t ≡ false → shrink x ≡ shrink (take (length y - 1) (drop 1 y))
  unfolding shrink pick
  shrink_on t l f g = e ∙ go y l (not-false _ (sym f ∙ g))
    where
      go : (z : List ℕ) → 2 ≤ length z → eqb (get_or z 0 0) (sign (get_or z 1 0)) ≡ true → shrink z ≡ shrink (take (length z - 1) (drop 1 z))
      go [] l h = absurd (omega arith)
      go (a ∷ []) l h = absurd (omega arith)
      go (a ∷ b ∷ z) l h = rw (h, take_all (length (a ∷ b ∷ z) - 1) (b ∷ z) (omega arith))

  pub shrink_stops : (t : Bool) → 2 ≤ length y → t ≡ not (eqb (get_or y 0 0) (sign (get_or y 1 0))) → t ≡ true → length y ≡ length (shrink x)
  unfolding shrink pick
  shrink_stops t l f g = ap length (sym (e ∙ go y l (not-true _ (sym f ∙ g))))
    where
      go : (z : List ℕ) → 2 ≤ length z → eqb (get_or z 0 0) (sign (get_or z 1 0)) ≡ false → shrink z ≡ z
      go [] l h = absurd (omega arith)
      go (a ∷ []) l h = absurd (omega arith)
      go (a ∷ b ∷ z) l h = rw h

  pub shrink_end : length y < 2 → length y ≡ length (shrink x)
  unfolding shrink
  shrink_end l = ap length (sym (e ∙ go y l))
    where
      go : (z : List ℕ) → length z < 2 → shrink z ≡ z
      go [] l = refl
      go (a ∷ []) l = refl
      go (a ∷ b ∷ z) l = absurd (omega arith)

-- ---- signed numbers

-- what the machine reads of a signed number's bits
abbrev pub bits : ℤ → ℤ
bits z = to_z w64 (of_z w64 z)
