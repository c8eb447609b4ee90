-- Heads by positions: what each step of reading one comes to, with premises as code has them. Assumes nothing.
use Rattle.std.specs.Prelude.{◌≡◌, ℕ, ◌+◌, ◌-◌, ◌*◌, ◌≤◌, ◌<◌, Bool, true, false, T, leb, ltb, eqb, Option as Maybe, Some, None, Ok, Err, ok_or}
use Rattle.std.proofs.Math.Path.{refl, sym, ap, ap₂}
use Rattle.std.proofs.Common.{◌∙◌, length-take-le, leb→le, lit≤, Fits}
use native.Mathlib.Omega.{arith}
use Rattle.std.proofs.Math.Option.{Option, none, some}
use mathlib.Core.List.{List, [], ◌∷◌, ◌++◌}
use Rattle.std.proofs.Math.ListN.{length, get_or}
use Rattle.std.proofs.Math.Seq.{slice, length-slice}
use Rattle.std.proofs.Math.Dec.{ltb→lt, nltb→le, nleb→lt}
use Rattle.std.specs.Int.{w64}
use borrow.Author.Tests.{lt-ltb, le-ltb, le-leb, lt-leb, eq-eqb, ne_eqb}
use Rattle.terms.specs.declared.Reason.{Reason}
use Rattle.terms.specs.declared.Refusal.{Refusal}
use Rattle.terms.specs.declared.Reason.TheVariants.{ItemMissing, OtherTag, BadLength, PastEnd, TooLarge}
use Rattle.terms.specs.Answer.{Res, good, fault, pick, bind, need, have, every, Answer, refusal_at, refused}
use Rattle.terms.specs.Digits.{digits, number_from, number, is_byte, leading}
use Rattle.terms.specs.Laws.Digits.{leading-there, digits_number, number_small}
use Rattle.terms.specs.Laws.Answer.{never, same_answer, same_refusal, test, pick_yes, pick_no, pick_lt, pick_ge, bind_eq}
use Rattle.heads.specs.Head as Head
use Rattle.heads.specs.Head.{forms, spell, octets, Size, sized, unspell, any_size, is_shortest, size, opening, Cut, before, cut, head, outermost}
use Rattle.heads.proofs.Laws.Head.{unspelled, octets_below, opening_rest}
use Rattle.heads.specs.Scan.{seen, head_at, outermost_at, span}
use Rattle.heads.specs.declared.Span.{Span}
use Rattle.windows.specs.Window.{clamp}
use Rattle.windows.specs.Laws.Window.{slice-clamp, clamp_in, byte_at, nothing_at}
use Rattle.items.specs.Scan.{spelled, length_of, length_at, opened, opening_at}
use Rattle.items.specs.declared.Opening.{Opening}

-- ---- lengths, by their first byte

-- a form of the table has its bytes read after its first byte
abbrev Reads : ℕ → ℕ → Type 0
Reads o n = (p : ℕ) (w : List ℕ) → any_size forms p (o ∷ w) ≡ (bind (have (leading n w) BadLength p) λ z. good (sized (2 + n) z.0 z.1))

pub one_reads : Reads 0x81 1
unfolding any_size unspell pick
one_reads p w = refl

pub two_reads : Reads 0x82 2
unfolding any_size unspell pick
two_reads p w = refl

-- how many bytes are written for a length
module _ (n : ℕ) where
  octets_one : 128 ≤ n → n < 256 → length (octets forms n) ≡ 2
  unfolding octets spell digits pick
  octets_one h k = rw (le-ltb n 128 h, lt-ltb n 256 k)

  octets_two : 256 ≤ n → n < 65536 → length (octets forms n) ≡ 3
  unfolding octets spell digits pick
  octets_two h k = rw (le-ltb n 128 (omega arith), le-ltb n 256 h, lt-ltb n 65536 k)

  -- so which are shortest
  one_shortest : (w : List ℕ) → n < 256 → is_shortest forms (sized 3 n w) ≡ leb 128 n
  unfolding is_shortest
  one_shortest w h =
      test (ltb n 128)
      (λ a. let k : n < 128 = ltb→lt n 128 a in rw (octets_below n k, lt-leb 128 n k))
      (λ a. let k : 128 ≤ n = nltb→le n 128 a in rw (octets_one k h, le-leb 128 n k))

  two_shortest : (w : List ℕ) → n < 65536 → is_shortest forms (sized 4 n w) ≡ leb 256 n
  unfolding is_shortest
  two_shortest w h =
      test (ltb n 256)
      (λ a. let k : n < 256 = ltb→lt n 256 a in
      test (ltb n 128)
      (λ b. let l : n < 128 = ltb→lt n 128 b in rw (octets_below n l, lt-leb 256 n k))
      (λ b. rw (octets_one (nltb→le n 128 b) k, lt-leb 256 n k)))
      (λ a. let k : 256 ≤ n = nltb→le n 256 a in rw (octets_two k h, le-leb 256 n k))

module _ (s : List ℕ) (p e : ℕ) where
  pub length_missing : e - p < 2 → None ≡ length_at s p e
  unfolding length_at size any_size bind
  length_missing h = rw (nothing_at s (p + 1) e (omega arith))

  first_byte : 2 ≤ e - p → e ≤ length s → slice (p + 1) e s ≡ get_or s (p + 1) 0 ∷ slice (p + 2) e s
  first_byte h k = let f : p + 1 + 1 ≡ p + 2 = omega arith in rw f at (byte_at s (p + 1) e (omega arith) k)

  pub length_short : (n : ℕ) → 2 ≤ e - p → e ≤ length s → get_or s (p + 1) 0 < 128 → n ≡ get_or s (p + 1) 0 → Some (spelled 2 n) ≡ length_at s p e
  unfolding length_at size any_size is_shortest bind need pick
  length_short n h k l q = rw (first_byte h k, ← q, lt-ltb n 128 (omega arith), octets_below n (omega arith))

  pub length-other : 2 ≤ e - p → e ≤ length s → 128 ≤ get_or s (p + 1) 0 → (get_or s (p + 1) 0 ≡ 0x81 → ⊥) → (get_or s (p + 1) 0 ≡ 0x82 → ⊥) → None ≡ length_at s p e
  unfolding length_at size any_size unspell bind pick
  length-other h k l f g = rw (first_byte h k, le-ltb (get_or s (p + 1) 0) 128 l, ne_eqb (get_or s (p + 1) 0) 0x81 f, ne_eqb (get_or s (p + 1) 0) 0x82 g)

-- once over the form
module _ (o m : ℕ) (reads : Reads o m) (s : List ℕ) (p e : ℕ) (begun : 2 ≤ e - p) (inside : e ≤ length s) (first : get_or s (p + 1) 0 ≡ o) where
  pub long_cut : e - p < 2 + m → None ≡ length_at s p e
  unfolding length_at size leading bind have pick
  long_cut h =
      let l : length (slice (p + 2) e s) < m = rw (length-slice (p + 2) e s inside) (omega arith) in
      rw (first_byte s p e begun inside, first, reads, lt-leb m (length (slice (p + 2) e s)) l)

  -- what is read is taken where it is shortest
  long_read : (n : ℕ) (t : Bool) (ds w : List ℕ) → slice (p + 2) e s ≡ ds ++ w → length ds ≡ m → T (every is_byte ds) → number 256 ds ≡ n → is_shortest forms (sized (2 + m) n w) ≡ t
      → pick t (Some (spelled (2 + m) n)) None ≡ length_at s p e
  unfolding length_at size bind have need pick
  long_read n t ds w v k b q i =
      let u : 0 < 256 = omega arith in
      let g : leading m (ds ++ w) ≡ some (n, w) = rw (← k, ← q) (rw (digits_number 256 u ds b) at (leading-there (length ds) (number 256 ds) w (number_small 256 u ds b))) in
      rw (first_byte s p e begun inside, first, v, reads, g, i) (go t)
    where
      go : (x : Bool) → pick x (Some (spelled (2 + m) n)) None ≡ length_of (need x BadLength p (good (sized (2 + m) n w)))
      go true = refl
      go false = refl

module _ (s : List ℕ) (p e n : ℕ) (h : 3 ≤ e - p) (k : e ≤ length s) (f : get_or s (p + 1) 0 ≡ 0x81) (q : n ≡ get_or s (p + 2) 0) (b : n < 256) where
  one : pick (leb 128 n) (Some (spelled 3 n)) None ≡ length_at s p e
  unfolding every number_from pick
  one =
      long_read 0x81 1 one_reads s p e (omega arith) k f n (leb 128 n) (n ∷ []) (slice (p + 2 + 1) e s) (rw q (byte_at s (p + 2) e (omega arith) k)) refl (rw (lt-ltb n 256 b) tt) (omega arith) (one_shortest n _ b)

  pub one_long : n < 128 → None ≡ length_at s p e
  unfolding pick
  one_long l = rw (lt-leb 128 n l) at one

  pub one_read : 128 ≤ n → Some (spelled 3 n) ≡ length_at s p e
  unfolding pick
  one_read l = rw (le-leb 128 n l) at one

module _ (s : List ℕ) (p e c d : ℕ) (h : 4 ≤ e - p) (k : e ≤ length s) (f : get_or s (p + 1) 0 ≡ 0x82) (q : c ≡ get_or s (p + 2) 0) (q' : d ≡ get_or s (p + 3) 0) (b : c < 256) (b' : d < 256) where
  two : pick (leb 256 (c * 256 + d)) (Some (spelled 4 (c * 256 + d))) None ≡ length_at s p e
  unfolding every number_from pick
  two =
      let i : p + 2 + 1 ≡ p + 3 = omega arith in
      let v : slice (p + 2) e s ≡ c ∷ d ∷ slice (p + 3 + 1) e s = rw (q, q', byte_at s (p + 2) e (omega arith) k, i) (ap (λ (w : List ℕ). get_or s (p + 2) 0 ∷ w) (byte_at s (p + 3) e (omega arith) k)) in
      long_read 0x82 2 two_reads s p e (omega arith) k f (c * 256 + d) (leb 256 (c * 256 + d)) (c ∷ d ∷ []) (slice (p + 3 + 1) e s) v refl (rw (lt-ltb c 256 b, lt-ltb d 256 b') tt) (omega arith) (two_shortest (c * 256 + d) _ (omega arith))

  pub two_long : c * 256 + d < 256 → None ≡ length_at s p e
  unfolding pick
  two_long l = rw (lt-leb 256 (c * 256 + d) l) at two

  pub two_read : 256 ≤ c * 256 + d → Some (spelled 4 (c * 256 + d)) ≡ length_at s p e
  unfolding pick
  two_read l = rw (le-leb 256 (c * 256 + d) l) at two

-- ---- a length that is refused is refused so

unspell_fault : (fs : List Head.Form) (p a : ℕ) (w : List ℕ) (n : Reason) (q : ℕ) → unspell fs p a w ≡ fault n q → (n ≡ BadLength) × (q ≡ p)
unfolding unspell bind have
unspell_fault [] p a w n q e = (cc, cc)
unspell_fault (f ∷ fs) p a w n q e =
    test (eqb a f.octet)
    (λ t. go (leading f.bytes w) (sym (pick_yes (eqb a f.octet) _ _ t) ∙ e))
    (λ t. unspell_fault fs p a w n q (sym (pick_no (eqb a f.octet) _ _ t) ∙ e))
  where
    go : (o : Option (ℕ × List ℕ)) → (bind (have o BadLength p) λ z. good (sized (2 + f.bytes) z.0 z.1)) ≡ fault n q → (n ≡ BadLength) × (q ≡ p)
    go none e = (cc, cc)
    go (some z) e = never (cc)

any_fault : (p : ℕ) (w : List ℕ) (n : Reason) (q : ℕ) → any_size forms p w ≡ fault n q → (n ≡ BadLength) × (q ≡ p)
unfolding any_size
any_fault p [] n q e = (cc, cc)
any_fault p (a ∷ w) n q e =
    test (ltb a 128)
    (λ t. let y : good (sized 2 a w) ≡ fault n q = sym (pick_yes (ltb a 128) _ _ t) ∙ e in never (cc))
    (λ t. unspell_fault forms p a w n q (sym (pick_no (ltb a 128) _ _ t) ∙ e))

size_fault : (p : ℕ) (w : List ℕ) (n : Reason) (q : ℕ) → size forms p w ≡ fault n q → (n ≡ BadLength) × (q ≡ p)
unfolding size bind need
size_fault p w n q e = go (any_size forms p w) refl e
  where
    go : (r : Res Size) → any_size forms p w ≡ r → (bind r λ z. need (is_shortest forms z) BadLength p (good z)) ≡ fault n q → (n ≡ BadLength) × (q ≡ p)
    go (fault m x) f g = let i : fault m x ≡ fault n q = g in any_fault p w n q (f ∙ i)
    go (good z) f g = short (is_shortest forms z) g
      where
        short : (b : Bool) → need b BadLength p (good z) ≡ fault n q → (n ≡ BadLength) × (q ≡ p)
        short true k = never (cc)
        short false k = (cc, cc)

-- ---- tag and length together

module _ (t : ℕ) (s : List ℕ) (p e : ℕ) where
  tag_at : p < e → e ≤ length s → get_or s p 0 ≡ t → opening_at t s p e ≡ opened (size forms p (slice (p + 1) e s))
  unfolding opening_at opening need
  tag_at h k f = rw (byte_at s p e h k, f, eq-eqb t t refl)

  pub opening_missing : e ≤ p → refused ItemMissing p ≡ opening_at t s p e
  unfolding opening_at opening
  opening_missing h = rw (nothing_at s p e h)

  pub opening-other : p < e → e ≤ length s → (get_or s p 0 ≡ t → ⊥) → refused OtherTag p ≡ opening_at t s p e
  unfolding opening_at opening need
  opening-other h k f = rw (byte_at s p e h k, ne_eqb (get_or s p 0) t f)

  -- of a length that was read, or is refused
  pub opening_sized : (x : Maybe Opening) → p < e → e ≤ length s → get_or s p 0 ≡ t → x ≡ length_at s p e → ok_or x (refusal_at BadLength p) ≡ opening_at t s p e
  unfolding length_at
  opening_sized x h k f g = rw g (go (size forms p (slice (p + 1) e s)) refl) ∙ sym (tag_at h k f)
    where
      go : (r : Res Size) → size forms p (slice (p + 1) e s) ≡ r → ok_or (length_of r) (refusal_at BadLength p) ≡ opened r
      go (good z) q = refl
      go (fault n m) q = let f = size_fault p (slice (p + 1) e s) n m q in rw (f.0, f.1)

-- ---- an item

-- a content of `n` bytes behind a head of `h`, in a window that ends at `e`
abbrev pub room_at : ℕ → ℕ → ℕ → ℕ → Answer Span
room_at p h n e = pick (ltb (e - (p + h)) n) (refused PastEnd p) (Ok (span (p + h) (p + h + n)))

pick_most : (t : Bool) (x y : List ℕ) (m : ℕ) → length x ≤ m → length y ≤ m → length (pick t x y) ≤ m
unfolding pick
pick_most true x y m h k = h
pick_most false x y m h k = k

-- a length has at most three bytes
octets_most : (n : ℕ) → length (octets forms n) ≤ 3
unfolding octets spell digits
octets_most n = pick_most _ _ _ 3 (lit≤ tt) (pick_most _ _ _ 3 (lit≤ tt) (pick_most _ _ _ 3 (lit≤ tt) (lit≤ tt)))

-- what an opening says of the window that it was read from
record Read (t : ℕ) (s : List ℕ) (p q h n : ℕ) : Type 0 where
  rest : List ℕ
  good : opening forms t (slice p q s) p ≡ Rattle.terms.specs.Answer.good (sized h n rest)
  left : q - p ≡ h + length rest
  head : h ≡ before n
  short : n < unspelled

opened-read : (t : ℕ) (s : List ℕ) (p q : ℕ) (o : Opening) → q ≤ length s → opening_at t s p q ≡ Ok o → Read t s p q o.header o.content
unfolding opening_at
opened-read t s p q o k e = go (opening forms t (slice p q s) p) refl e
  where
    go : (r : Res Size) → opening forms t (slice p q s) p ≡ r → opened r ≡ Ok o → Read t s p q o.header o.content
    go (good z) f g =
        let a : z.header ≡ o.header = ap (λ x. x.header) (same_answer g) in
        let b : z.content ≡ o.content = ap (λ x. x.content) (same_answer g) in
        let (u, v, w) = opening_rest t (slice p q s) p z f in
        let l = length-slice p q s k in
        rw (← a, ← b) (record { rest = z.rest; good = f; left = omega arith; head = v; short = w })
    go (fault m r) f g = never (cc)

room-read : (t : ℕ) (s : List ℕ) (p q h n : ℕ) (r : Read t s p q h n) → room_at p h n q ≡ seen (cut p (sized h n r.rest))
unfolding cut need
room-read t s p q h n r =
    let f = r.left in
    test (leb n (length r.rest))
    (λ g. let k : n ≤ length r.rest = leb→le _ _ g in
    sym (pick_ge (q - (p + h)) n _ _ (omega arith)) ∙ rw (le-leb n (length r.rest) k, length-take-le n r.rest k))
    (λ g. let k : length r.rest < n = nleb→lt _ _ g in
    sym (pick_lt (q - (p + h)) n _ _ (omega arith)) ∙ rw (lt-leb n (length r.rest) k))

module _ (t : ℕ) (s : List ℕ) (p e q : ℕ) (stop : q ≡ clamp e (length s)) where
  same_window : slice p e s ≡ slice p q s
  same_window = rw (stop, slice-clamp p e s)

  -- what was not opened is refused, whatever follows
  pub not_opened : (k : Size → Res Cut) (x : Answer Opening) (r : Refusal) → x ≡ opening_at t s p q → x ≡ Err r → Err r ≡ seen (bind (opening forms t (slice p e s) p) k)
  unfolding opening_at bind
  not_opened k x r i j = rw same_window (go (opening forms t (slice p q s) p) (sym i ∙ j))
    where
      go : (y : Res Size) → opened y ≡ Err r → Err r ≡ seen (bind y k)
      go (good z) f = never (cc)
      go (fault a b) f = let i : refusal_at a b ≡ r = same_refusal f in rw (← i)

  -- what was opened
  module _ (x : Answer Opening) (o : Opening) (i : x ≡ opening_at t s p q) (j : x ≡ Ok o) where
    read : Read t s p q o.header o.content
    read = opened-read t s p q o (clamp_in q e (length s) stop) (sym i ∙ j)

    goes_on_lem : (k : Size → Res Cut) → bind (opening forms t (slice p e s) p) k ≡ k (sized o.header o.content read.rest)
    goes_on_lem k = rw same_window (bind_eq k read.good)

    pub opened-within : p + o.header ≤ q
    opened-within = let f = read.left in let g = read.head in omega arith

    pub opened_fits : Fits w64 (o.header + o.content)
    opened_fits = let f = read.head in let g = read.short in record { fits = omega (arith, octets_most o.content) }

    pub head_opened : (y : Answer Span) → y ≡ room_at p o.header o.content q → y ≡ head_at t s p e
    unfolding head_at head
    head_opened y k = k ∙ room-read t s p q o.header o.content read ∙ sym (ap seen (goes_on_lem (λ z. cut p z)))

    outermost_is : (most : ℕ) → outermost_at most t s p e ≡ seen (need (leb (o.header + o.content) most) TooLarge p (cut p (sized o.header o.content read.rest)))
    unfolding outermost_at outermost
    outermost_is most = ap seen (goes_on_lem (λ z. need (leb (z.header + z.content) most) TooLarge p (cut p z)))

    pub outermost_large : (most : ℕ) → most < o.header + o.content → refused TooLarge p ≡ outermost_at most t s p e
    unfolding need
    outermost_large most l = sym (outermost_is most ∙ rw (lt-leb (o.header + o.content) most l))

    pub outermost-opened : (most : ℕ) (y : Answer Span) → o.header + o.content ≤ most → y ≡ room_at p o.header o.content q → y ≡ outermost_at most t s p e
    unfolding need
    outermost-opened most y l k = k ∙ room-read t s p q o.header o.content read ∙ sym (outermost_is most ∙ rw (le-leb (o.header + o.content) most l))
