-- A head that was written is read, and what was read was written so. Assumes nothing.
use Rattle.std.specs.Prelude.{◌≡◌, refl, ℕ, suc, ◌+◌, ◌^◌, ◌≤◌, ◌<◌, Bool, true, ◌&&◌, List, [], ◌∷◌, ◌++◌, length, take, drop, T, leb, ltb, eqb}
use Rattle.std.proofs.Common.{sym, ap, ◌∙◌, arith, append_assoc, length-append, take-append-drop, length-take-le, eqb→eq, leb→le, le→leb, ltb→lt, lt→ltb, nltb→le, le-ltb, le-leb, eq-eqb, ne_eqb}
use Rattle.std.proofs.Math.Seq.{take-append_seam, drop-append_seam}
use Rattle.std.proofs.Math.Dec.{eqb_refl}
use Rattle.terms.specs.Answer.{good, bind, need, have}
use Rattle.terms.specs.Digits.{digits}
use Rattle.terms.specs.Laws.Answer.{clash, good_inj, test, and_l, and_r, pick_yes, pick_no, by_bind, by_need, by_have, bind_eq, need_eq}
use Rattle.terms.specs.Laws.Digits.{length_digits, leading-there, leading_back}
use Rattle.heads.specs.Head.{Form, forms, spell, octets, tlv, before, Size, sized, unspell, any_size, is_shortest, size, opening, Cut, cut_off, cut, head, outermost}

-- ---- the table of forms

-- each form has more bytes than the one before it, and room where that one ends, under a higher first byte
clear_forms : ℕ → ℕ → ℕ → List Form → Bool
clear_forms o k l [] = true
clear_forms o k l (f ∷ fs) = ltb o f.octet && (ltb k f.bytes && (leb l (256 ^ f.bytes) && clear_forms f.octet f.bytes (256 ^ f.bytes) fs))

-- the first length that the forms have no room for
limit : ℕ → List Form → ℕ
limit l [] = l
limit l (f ∷ fs) = limit (256 ^ f.bytes) fs

-- of the forms of 01
abbrev pub unspelled : ℕ
unspelled = 65536

forms-clear : T (clear_forms 127 0 128 forms)
unfolding clear_forms
forms-clear = tt

forms_limit : limit 128 forms ≡ unspelled
unfolding limit
forms_limit = refl

-- what the test says of a form and of those after it
record Clear (o k l : ℕ) (f : Form) (fs : List Form) : Type 0 where
  above : o < f.octet
  more : k < f.bytes
  room : l ≤ 256 ^ f.bytes
  rest : T (clear_forms f.octet f.bytes (256 ^ f.bytes) fs)

clear_form : (o k l : ℕ) (f : Form) (fs : List Form) → T (clear_forms o k l (f ∷ fs)) → Clear o k l f fs
unfolding clear_forms
clear_form o k l f fs h =
    let h₁ = and_r (ltb o f.octet) (ltb k f.bytes && (leb l (256 ^ f.bytes) && clear_forms f.octet f.bytes (256 ^ f.bytes) fs)) h in
    let h₂ = and_r (ltb k f.bytes) (leb l (256 ^ f.bytes) && clear_forms f.octet f.bytes (256 ^ f.bytes) fs) h₁ in
    record {
      above = ltb→lt o f.octet (and_l (ltb o f.octet) _ h);
      more = ltb→lt k f.bytes (and_l (ltb k f.bytes) _ h₁);
      room = leb→le l (256 ^ f.bytes) (and_l (leb l (256 ^ f.bytes)) _ h₂);
      rest = and_r (leb l (256 ^ f.bytes)) _ h₂;
    }

-- what is below the first length of the forms is below their limit
within : (o k l : ℕ) (fs : List Form) (n : ℕ) → T (clear_forms o k l fs) → n < l → n < limit l fs
unfolding limit
within o k l [] n c h = h
within o k l (f ∷ fs) n c h = let d = clear_form o k l f fs c in let r = d.room in within f.octet f.bytes (256 ^ f.bytes) fs n d.rest (omega arith)

-- a spelled length begins with a byte above the last form's
abbrev Above : ℕ → List ℕ → Type 0
Above o x = (a : ℕ) × (r : List ℕ) × (x ≡ a ∷ r) × (o < a)

spell_above : (o k l : ℕ) (fs : List Form) (n : ℕ) → T (clear_forms o k l fs) → l ≤ n → n < limit l fs → Above o (spell fs n)
unfolding spell limit
spell_above o k l [] n c h g = absurd (omega arith)
spell_above o k l (f ∷ fs) n c h g =
    let d = clear_form o k l f fs c in
    let u : o < f.octet = d.above in
    test (ltb n (256 ^ f.bytes))
    (λ t. (f.octet, digits 256 f.bytes n, pick_yes _ _ _ t, u))
    (λ t. let r = spell_above f.octet f.bytes (256 ^ f.bytes) fs n d.rest (nltb→le n _ t) g in
    let v : f.octet < r.0 = r.3 in
    (r.0, r.1, pick_no _ _ _ t ∙ r.2, omega arith))

-- what is spelled is read
unspell-spell : (o k l : ℕ) (fs : List Form) (p n a : ℕ) (r w : List ℕ) → T (clear_forms o k l fs) → l ≤ n → n < limit l fs → spell fs n ≡ a ∷ r → unspell fs p a (r ++ w) ≡ good (sized (1 + length (a ∷ r)) n w)
unfolding spell unspell limit bind have
unspell-spell o k l [] p n a r w c h g e = absurd (omega arith)
unspell-spell o k l (f ∷ fs) p n a r w c h g e =
    let d = clear_form o k l f fs c in
    test (ltb n (256 ^ f.bytes))
    (λ t. let e' : f.octet ∷ digits 256 f.bytes n ≡ a ∷ r = sym (pick_yes _ _ _ t) ∙ e in
    let i : f.octet ≡ a = cc in
    let j : digits 256 f.bytes n ≡ r = cc in
    pick_yes _ _ _ (rw i (eqb_refl a)) ∙ rw (← j, leading-there f.bytes n w (ltb→lt n _ t)) (ap (λ (m : ℕ). good (sized m n w)) (omega (arith, length_digits 256 (omega arith) f.bytes n))))
    (λ t. let e' : spell fs n ≡ a ∷ r = sym (pick_no _ _ _ t) ∙ e in
    let s = spell_above f.octet f.bytes (256 ^ f.bytes) fs n d.rest (nltb→le n _ t) g in
    let i : s.0 ∷ s.1 ≡ a ∷ r = sym s.2 ∙ e' in
    let i' : s.0 ≡ a = cc in
    let v : f.octet < s.0 = s.3 in
    let x : a ≡ f.octet → ⊥ = λ x. (omega arith) in
    pick_no _ _ _ (rw (ne_eqb a f.octet x) tt) ∙ unspell-spell f.octet f.bytes (256 ^ f.bytes) fs p n a r w d.rest (nltb→le n _ t) g e')

-- what is read takes more bytes than the forms before have, and was spelled so if it is shortest
record Unspelled (k l : ℕ) (fs : List Form) (a : ℕ) (w : List ℕ) (z : Size) : Type 0 where
  longer : 2 + k < z.header
  below : z.content < limit l fs
  written : z.header ≡ 1 + length (spell fs z.content) → a ∷ w ≡ spell fs z.content ++ z.rest

unspell_back : (o k l : ℕ) (fs : List Form) (p a : ℕ) (w : List ℕ) (z : Size) → T (clear_forms o k l fs) → unspell fs p a w ≡ good z → Unspelled k l fs a w z
unfolding spell unspell limit
unspell_back o k l [] p a w z c e = clash e
unspell_back o k l (f ∷ fs) p a w z c e =
    let d = clear_form o k l f fs c in
    let m : k < f.bytes = d.more in
    test (eqb a f.octet)
    (λ t. by_bind _ _ _ (sym (pick_yes _ _ _ t) ∙ e) λ y e₁ e₂. by_have _ _ _ _ e₁ λ e₃.
    let b = leading_back f.bytes w y e₃ in
    let i : a ≡ f.octet = eqb→eq a f.octet t in
    rw (← good_inj e₂) (record {
      longer = omega arith;
      below = within f.octet f.bytes (256 ^ f.bytes) fs y.0 d.rest b.1;
      written = λ h. rw (pick_yes (ltb y.0 (256 ^ f.bytes)) (f.octet ∷ digits 256 f.bytes y.0) (spell fs y.0) (lt→ltb _ _ b.1), i) (ap (λ (v : List ℕ). f.octet ∷ v) b.0);
    }))
    (λ t. let r = unspell_back f.octet f.bytes (256 ^ f.bytes) fs p a w z d.rest (sym (pick_no _ _ _ t) ∙ e) in
    let v : 2 + f.bytes < z.header = r.longer in
    record {
      longer = omega arith;
      below = r.below;
      written = λ h.
          test (ltb z.content (256 ^ f.bytes))
          (λ u. let q : z.header ≡ 1 + suc f.bytes = h ∙ rw (pick_yes (ltb z.content (256 ^ f.bytes)) (f.octet ∷ digits 256 f.bytes z.content) (spell fs z.content) u, length_digits 256 (omega arith) f.bytes z.content) in
          absurd (omega arith))
          (λ u. let q = pick_no (ltb z.content (256 ^ f.bytes)) (f.octet ∷ digits 256 f.bytes z.content) (spell fs z.content) u in rw q (r.written (rw q at h)));
    })

-- ---- a length

-- where the byte itself is the length, and where a form spells it
octets_long : (n : ℕ) → 128 ≤ n → octets forms n ≡ spell forms n
unfolding octets
octets_long n h = pick_no _ _ _ (rw (le-ltb n 128 h) tt)

pub octets_below : (n : ℕ) → n < 128 → octets forms n ≡ n ∷ []
unfolding octets
octets_below n h = pick_yes _ _ _ (lt→ltb n 128 h)

octets_above : (n : ℕ) → 128 ≤ n → n < unspelled → Above 127 (octets forms n)
octets_above n h g = rw (octets_long n h) (spell_above 127 0 128 forms n forms-clear h (rw forms_limit g))

pub octets_some : (n : ℕ) → n < unspelled → 1 ≤ length (octets forms n)
octets_some n h =
    test (ltb n 128)
    (λ a. rw (octets_below n (ltb→lt n 128 a)) (omega arith))
    (λ a. let s = octets_above n (nltb→le n 128 a) h in rw s.2 (omega arith))

any-octets : (p n : ℕ) (w : List ℕ) → n < unspelled → any_size forms p (octets forms n ++ w) ≡ good (sized (before n) n w)
unfolding any_size
any-octets p n w h =
    test (ltb n 128)
    (λ a. rw (octets_below n (ltb→lt n 128 a)) (pick_yes _ _ _ a))
    (λ a. let k : 128 ≤ n = nltb→le n 128 a in
    let s = octets_above n k h in
    let u : 128 ≤ s.0 = omega (arith, s.3) in
    rw s.2 (pick_no _ _ _ (rw (le-ltb s.0 128 u) tt) ∙ unspell-spell 127 0 128 forms p n s.0 s.1 w forms-clear k (rw forms_limit h) (sym (octets_long n k) ∙ s.2)))

pub size-octets : (p n : ℕ) (w : List ℕ) → n < unspelled → size forms p (octets forms n ++ w) ≡ good (sized (before n) n w)
unfolding size is_shortest
size-octets p n w h = bind_eq _ (any-octets p n w h) ∙ need_eq (eqb (before n) (before n)) _ _ _ (eqb_refl (before n))

any_back : (p : ℕ) (w : List ℕ) (z : Size) → any_size forms p w ≡ good z → z.header ≡ before z.content → (w ≡ octets forms z.content ++ z.rest) × (z.content < unspelled)
unfolding any_size
any_back p [] z e q = clash e
any_back p (a ∷ w) z e q =
    test (ltb a 128)
    (λ t. let k : a < 128 = ltb→lt a 128 t in
    rw (← good_inj (sym (pick_yes _ _ _ t) ∙ e)) (rw (octets_below a k) refl, omega arith))
    (λ t. let u = unspell_back 127 0 128 forms p a w z forms-clear (sym (pick_no _ _ _ t) ∙ e) in
    let l : 2 < z.header = u.longer in
    test (ltb z.content 128)
    (λ k. absurd (omega (arith, ap length (octets_below z.content (ltb→lt _ _ k)))))
    (λ k. let o = octets_long z.content (nltb→le _ _ k) in (rw o (u.written (rw o at q)), rw forms_limit at u.below)))

-- the header of a length that is taken is as long as it is written
pub size_back : (p : ℕ) (w : List ℕ) (z : Size) → size forms p w ≡ good z → (w ≡ octets forms z.content ++ z.rest) × (z.header ≡ before z.content) × (z.content < unspelled)
unfolding size is_shortest
size_back p w z e =
    by_bind _ _ _ e λ y e₁ e₂. by_need _ _ _ _ _ e₂ λ h e₃.
    rw (← good_inj e₃) (let q = eqb→eq y.header (before y.content) h in let r = any_back p w y e₁ q in (r.0, q, r.1))

-- ---- an item

pub length-tlv : (t : ℕ) (c : List ℕ) → length (tlv t c) ≡ before (length c) + length c
unfolding tlv
length-tlv t c = omega (arith, length-append (octets forms (length c)) c)

-- a written item is opened as it was written
opening-tlv : (t : ℕ) (c w : List ℕ) (b : ℕ) → length c < unspelled → opening forms t (tlv t c ++ w) b ≡ good (sized (before (length c)) (length c) (c ++ w))
unfolding opening tlv need
opening-tlv t c w b h = rw (eq-eqb t t refl, append_assoc (octets forms (length c)) c w, size-octets b (length c) (c ++ w) h)

-- what an opening leaves of a window
pub opening_rest : (t : ℕ) (w : List ℕ) (b : ℕ) (z : Size) → opening forms t w b ≡ good z → (length w ≡ z.header + length z.rest) × (z.header ≡ before z.content) × (z.content < unspelled)
unfolding opening
opening_rest t [] b z e = clash e
opening_rest t (x ∷ w) b z e = by_need _ _ _ _ _ e λ h e₁. let q = size_back b w z e₁ in (rw (q.0, q.1) (omega (arith, length-append (octets forms z.content) z.rest)), q.1, q.2)

cut-there : (c w : List ℕ) (b h : ℕ) → cut b (sized h (length c) (c ++ w)) ≡ good (cut_off c w (b + h))
unfolding cut need
cut-there c w b h =
    let e : length c ≤ length (c ++ w) = rw length-append (omega arith) in
    rw (le-leb (length c) (length (c ++ w)) e, take-append_seam, drop-append_seam)

-- what was opened and cut off was written so
opened : (t : ℕ) (w : List ℕ) (b : ℕ) (z : Size) (c : Cut) → opening forms t w b ≡ good z → cut b z ≡ good c
    → (w ≡ tlv t c.content ++ c.rest) × (c.start ≡ b + before (length c.content)) × (z.header + z.content ≡ length (tlv t c.content)) × (length c.content < unspelled)
unfolding opening tlv cut
opened t [] b z c e g = clash e
opened t (x ∷ w) b z c e g =
    by_need _ _ _ _ _ e λ h₁ e₁. by_need _ _ _ _ _ g λ h₂ e₂.
    let q = size_back b w z e₁ in
    let y : x ≡ t = eqb→eq x t h₁ in
    let m : ℕ = z.content in
    let i : cut_off (take m z.rest) (drop m z.rest) (b + z.header) ≡ c = good_inj e₂ in
    let n : length (take m z.rest) ≡ m = length-take-le m z.rest (leb→le _ _ h₂) in
    rw (← i) (
      rw (n, y, append_assoc (octets forms m) (take m z.rest) (drop m z.rest), take-append-drop m z.rest) (ap (λ (v : List ℕ). t ∷ v) q.0),
      rw (n, q.1) refl,
      rw q.1 (sym (length-tlv t (take m z.rest) ∙ rw n refl)),
      rw n q.2,
    )

pub head-tlv : (t : ℕ) (c w : List ℕ) (b : ℕ) → length c < unspelled → head forms t (tlv t c ++ w) b ≡ good (cut_off c w (b + before (length c)))
unfolding head
head-tlv t c w b h = bind_eq _ (opening-tlv t c w b h) ∙ cut-there c w b (before (length c))

pub head_back : (t : ℕ) (w : List ℕ) (b : ℕ) (c : Cut) → head forms t w b ≡ good c → (w ≡ tlv t c.content ++ c.rest) × (c.start ≡ b + before (length c.content)) × (length c.content < unspelled)
unfolding head
head_back t w b c e = by_bind _ _ _ e λ z e₁ e₂. let o = opened t w b z c e₁ e₂ in (o.0, o.1, o.3)

pub outermost-tlv : (m t : ℕ) (c w : List ℕ) (b : ℕ) → length c < unspelled → length (tlv t c) ≤ m → outermost forms m t (tlv t c ++ w) b ≡ good (cut_off c w (b + before (length c)))
unfolding outermost
outermost-tlv m t c w b h k =
    bind_eq _ (opening-tlv t c w b h) ∙ need_eq (leb (before (length c) + length c) m) _ _ _ (le→leb (before (length c) + length c) m (rw (← length-tlv t c) k)) ∙ cut-there c w b (before (length c))

pub outermost_back : (m t : ℕ) (w : List ℕ) (b : ℕ) (c : Cut) → outermost forms m t w b ≡ good c → (head forms t w b ≡ good c) × (length (tlv t c.content) ≤ m)
unfolding outermost head
outermost_back m t w b c e =
    by_bind _ _ _ e λ z e₁ e₂. by_need _ _ _ _ _ e₂ λ h e₃.
    let o = opened t w b z c e₁ e₃ in
    let l : z.header + z.content ≤ m = leb→le _ _ h in
    (bind_eq _ e₁ ∙ e₃, rw (← o.2) l)
