-- Bytes that stand after the largest record change nothing of its head. Assumes nothing.
use Rattle.std.specs.Prelude.{◌≡◌, refl, ℕ, ◌+◌, ◌≤◌, ◌<◌, Bool, true, false, List, [], ◌∷◌, ◌++◌, length, take, drop, T, leb, ltb, eqb}
use Rattle.std.proofs.Common.{ap, ◌∙◌, arith, length-append, leb→le, le-leb}
use Rattle.std.proofs.Math.Option.{Option, none, some}
use Rattle.std.proofs.lemmas.List.{take-append-le, drop-append-le}
use Rattle.terms.specs.declared.Reason.{Reason}
use Rattle.terms.specs.declared.Reason.TheVariants.{BadLength, OtherTag, TooLarge}
use Rattle.terms.specs.Answer.{Res, good, fault, pick, bind, unread, need, have, every}
use Rattle.terms.specs.Digits.{is_byte, number, leading}
use Rattle.terms.specs.Laws.Answer.{test, and_l, and_r, is_true, is_false}
use Rattle.heads.specs.Head.{Form, forms, Size, sized, unspell, any_size, is_shortest, size, opening, Cut, cut_off, cut, outermost}
use Rattle.heads.proofs.Laws.Head.{opening_rest}

-- what was read, with more after it
abbrev more_some : List ℕ → Option (ℕ × List ℕ) → Option (ℕ × List ℕ)
more_some z none = none
more_some z (some x) = some (x.0, x.1 ++ z)

abbrev more_size : List ℕ → Res Size → Res Size
more_size z (good x) = good (sized x.header x.content (x.rest ++ z))
more_size z (fault n p) = fault n p

abbrev pub more_cut : List ℕ → Res Cut → Res Cut
more_cut z (good c) = good (cut_off c.content (c.rest ++ z) c.start)
more_cut z (fault n p) = fault n p

leading-more : (k : ℕ) (w z : List ℕ) → k ≤ length w → leading k (w ++ z) ≡ more_some z (leading k w)
unfolding leading pick
leading-more k w z h =
    let l : k ≤ length (w ++ z) = rw length-append (omega arith) in
    rw (le-leb k (length w) h, le-leb k (length (w ++ z)) l, take-append-le k w z h, drop-append-le k w z h) (go (every is_byte (take k w)))
  where
    go : (b : Bool) → pick b (some (number 256 (take k w), drop k w ++ z)) none ≡ more_some z (pick b (some (number 256 (take k w), drop k w)) none)
    go true = refl
    go false = refl

need-more : (z : List ℕ) (t : Bool) (n : Reason) (p : ℕ) (r : Res Size) → need t n p (more_size z r) ≡ more_size z (need t n p r)
unfolding need
need-more z true n p r = refl
need-more z false n p r = refl

pick_more : (z : List ℕ) (t : Bool) (r r' : Res Size) → pick t (more_size z r) (more_size z r') ≡ more_size z (pick t r r')
unfolding pick
pick_more z true r r' = refl
pick_more z false r r' = refl

-- where each form's bytes are there
unspell-more : (fs : List Form) (p a : ℕ) (w z : List ℕ) → T (every (λ f. leb f.bytes (length w)) fs) → unspell fs p a (w ++ z) ≡ more_size z (unspell fs p a w)
unfolding unspell every bind have
unspell-more [] p a w z h = refl
unspell-more (f ∷ fs) p a w z h =
    let l : f.bytes ≤ length w = leb→le f.bytes (length w) (and_l (leb f.bytes (length w)) _ h) in
    let k = unspell-more fs p a w z (and_r (leb f.bytes (length w)) _ h) in
    rw (leading-more f.bytes w z l, k, read (leading f.bytes w)) (pick_more z (eqb a f.octet) _ _)
  where
    read : (o : Option (ℕ × List ℕ)) → (bind (have (more_some z o) BadLength p) λ x. good (sized (2 + f.bytes) x.0 x.1)) ≡ more_size z (bind (have o BadLength p) λ x. good (sized (2 + f.bytes) x.0 x.1))
    read none = refl
    read (some x) = refl

-- a length of three forms is at most three bytes long
size-more : (p : ℕ) (w z : List ℕ) → 3 ≤ length w → size forms p (w ++ z) ≡ more_size z (size forms p w)
unfolding size any_size is_shortest every bind
size-more p [] z h = absurd (omega arith)
size-more p (a ∷ w) z h =
    let l : 1 ≤ length w = omega arith in
    let k : 2 ≤ length w = omega arith in
    rw (unspell-more forms p a w z (rw (le-leb 1 (length w) l, le-leb 2 (length w) k) tt), pick_more z (ltb a 128) (good (sized 2 a w)) (unspell forms p a w))
    (go (pick (ltb a 128) (good (sized 2 a w)) (unspell forms p a w)))
  where
    go : (r : Res Size) → (bind (more_size z r) λ x. need (is_shortest forms x) BadLength p (good x)) ≡ more_size z (bind r λ x. need (is_shortest forms x) BadLength p (good x))
    go (good x) = need-more z (is_shortest forms x) BadLength p (good x)
    go (fault n q) = refl

opening-more : (t : ℕ) (w z : List ℕ) (b : ℕ) → 4 ≤ length w → opening forms t (w ++ z) b ≡ more_size z (opening forms t w b)
unfolding opening
opening-more t [] z b h = absurd (omega arith)
opening-more t (x ∷ w) z b h = ap (need (eqb x t) OtherTag b) (size-more b w z (omega arith)) ∙ need-more z (eqb x t) OtherTag b _

-- of a window with more bytes than the largest record has
pub outermost-more : (most t : ℕ) (w z : List ℕ) (b : ℕ) → most < length w → 4 ≤ length w → outermost forms most t (w ++ z) b ≡ more_cut z (outermost forms most t w b)
unfolding outermost bind need cut
outermost-more most t w z b m h = rw (opening-more t w z b h) (go (opening forms t w b) refl)
  where
    held : (x : Size) → length w ≡ x.header + length x.rest
        → need (leb (x.header + x.content) most) TooLarge b (cut b (sized x.header x.content (x.rest ++ z))) ≡ more_cut z (need (leb (x.header + x.content) most) TooLarge b (cut b x))
    held x l = test (leb (x.header + x.content) most)
        (λ y. let k : x.header + x.content ≤ most = leb→le _ _ y in
        let n : ℕ = x.content in
        let i : n ≤ length x.rest = omega arith in
        let j : n ≤ length (x.rest ++ z) = rw length-append (omega arith) in
        rw (is_true (leb (x.header + n) most) y, le-leb n (length x.rest) i, le-leb n (length (x.rest ++ z)) j, take-append-le n x.rest z i, drop-append-le n x.rest z i) refl)
        (λ y. rw (is_false (leb (x.header + x.content) most) y) refl)

    go : (r : Res Size) → opening forms t w b ≡ r → (bind (more_size z r) λ x. need (leb (x.header + x.content) most) TooLarge b (cut b x)) ≡ more_cut z (bind r λ x. need (leb (x.header + x.content) most) TooLarge b (cut b x))
    go (good x) e = held x (opening_rest t w b x e).0
    go (fault n p) e = refl

-- and what comes of the content alone stays
pub inside-more : {A : Type 0} (most t : ℕ) (w z : List ℕ) (b : ℕ) → most < length w → 4 ≤ length w → (x : A) (f : List ℕ → ℕ → A)
    → (unread (outermost forms most t (w ++ z) b) x λ c. f c.content c.start) ≡ (unread (outermost forms most t w b) x λ c. f c.content c.start)
inside-more most t w z b m h x f = rw (outermost-more most t w z b m h) (go (outermost forms most t w b))
  where
    go : (r : Res Cut) → (unread (more_cut z r) x λ c. f c.content c.start) ≡ (unread r x λ c. f c.content c.start)
    go (good c) = refl
    go (fault n p) = refl
