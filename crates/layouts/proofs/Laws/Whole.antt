-- Whole records and sheets: what is accepted, both round trips, and what a destination holds. Assumes nothing.
use Rattle.std.specs.Prelude.{◌≡◌, refl, ℕ, ◌+◌, ◌*◌, ◌≤◌, ◌<◌, T, leb}
use Rattle.std.proofs.Math.Path.{ap}
use Rattle.std.proofs.Common.{◌∙◌, drop_at, take_at, le→leb}
use native.Mathlib.Omega.{arith}
use mathlib.Core.List.{List, [], ◌∷◌, ◌++◌, append-nil}
use lib.ListN.{length, take, drop, length-append}
use Rattle.std.proofs.lemmas.Bool.{lt-leb}
use Rattle.terms.specs.declared.Reason.{Reason}
use Rattle.terms.specs.Numbers.{done}
use Rattle.terms.specs.declared.Reason.TheVariants.{LeftOver, BadSheet, NoRoom}
use Rattle.terms.specs.Answer.{Res, good, fault, Got, got, bind, need, same, finish, Told, told_one, refusal, answered}
use Rattle.terms.specs.Laws.Answer.{good_inj, and_r, by_bind, need_eq}
use Rattle.heads.specs.Head.{forms, Cut, tlv, before, outermost}
use Rattle.heads.proofs.Laws.Head.{length-tlv, head_back, outermost-tlv, outermost_back, unspelled}
use Rattle.heads.proofs.Laws.More.{more_cut, outermost-more}
use Rattle.layouts.specs.Layout.{Members, node, Values, Oks, encode, encodes}
use Rattle.layouts.specs.Reading.{next, reads}
use Rattle.layouts.specs.Sheet.{sheet, sheets}
use Rattle.layouts.specs.Whole.{sequence, record_of, record_at, accept, accept_sheet, fit, stored}
use Rattle.layouts.proofs.Laws.Reading.{clear, clears, spare, forwards, backwards, finish_back}
use Rattle.layouts.proofs.Laws.Sheet.{uncounted, filleds, unfilleds, short}

-- where a byte is left, more are left
some_left : {A : Type 0} (n : Reason) (v : A) (w z : List ℕ) (p : ℕ) → 1 ≤ length w → finish n (got v (w ++ z) p) ≡ finish n (got v w p)
unfolding finish same
some_left n v [] z p h = absurd (omega arith)
some_left n v (x ∷ w) z p h = refl

module _ (most : ℕ) (r : Members) where
  -- ---- a record at the front of a window

  pub record_at_back : (w : List ℕ) (b : ℕ) (x : Got (Values r)) → record_at most r w b ≡ good x
      → (w ≡ record_of r x.value ++ x.rest) × Oks r x.value × (x.after ≡ b + length (record_of r x.value)) × (length (record_of r x.value) ≤ most)
  unfolding record_at
  record_at_back w b x e =
      by_bind _ _ _ e λ c e₁ e₂. by_bind _ _ _ e₂ λ v e₃ e₄.
      let h = outermost_back most sequence w b c e₁ in
      let k = head_back sequence w b c h.0 in
      let s = backwards r c.content c.start v e₃ in
      let n = length-tlv sequence c.content in
      rw (← good_inj e₄, ← s.0) (k.0, s.1, omega arith, h.1)

  pub record_at-there : T (clears r) → most < unspelled → (v : Values r) → Oks r v → length (record_of r v) ≤ most → (w : List ℕ) (b : ℕ)
      → record_at most r (record_of r v ++ w) b ≡ good (got v w (b + length (record_of r v)))
  unfolding record_at bind
  record_at-there k m v ok h w b =
      let n = length-tlv sequence (encodes r v) in
      rw (outermost-tlv most sequence (encodes r v) w b (omega arith) h, forwards r k v ok (b + before (length (encodes r v))) (omega arith))
      (ap (λ (m : ℕ). good (got v w m)) (omega arith))

  -- ---- a record that is the whole input

  -- what is accepted is the bytes of a value inside the rules
  pub accept_back : (w : List ℕ) (v : Values r) → accept most r w ≡ good v → (w ≡ record_of r v) × Oks r v × (length w ≤ most)
  unfolding accept
  accept_back w v e =
      by_bind _ _ _ e λ a e₁ e₂.
      let b = record_at_back w 0 a e₁ in
      let f = finish_back LeftOver a v e₂ in
      let q : w ≡ record_of r a.value = b.0 ∙ ap (λ (z : List ℕ). record_of r a.value ++ z) f.0 ∙ append-nil (record_of r a.value) in
      rw (← f.1) (q, b.1, rw q b.3)

  -- the bytes of every such value within the bound are accepted
  pub accept-there : T (clears r) → most < unspelled → (v : Values r) → Oks r v → length (record_of r v) ≤ most → accept most r (record_of r v) ≡ good v
  unfolding accept bind finish same need
  accept-there k m v ok h = rw (← append-nil (record_of r v), record_at-there k m v ok h [] 0)

  -- bytes after the first that no record has room for change nothing
  pub accept-more : (w z : List ℕ) → most < length w → 4 ≤ length w → accept most r (w ++ z) ≡ accept most r w
  unfolding accept record_at bind
  accept-more w z m h = rw (outermost-more most sequence w z 0 m h) (go (outermost forms most sequence w 0) refl)
    where
      left : (c : Cut) → outermost forms most sequence w 0 ≡ good c → (v : Values r) → finish LeftOver (got v (c.rest ++ z) (next c)) ≡ finish LeftOver (got v c.rest (next c))
      left c e v =
          let o = outermost_back most sequence w 0 c e in
          let l : length w ≡ length (tlv sequence c.content) + length c.rest = ap length (head_back sequence w 0 c o.0).0 ∙ length-append (tlv sequence c.content) c.rest in
          let n = o.1 in
          some_left LeftOver v c.rest z (next c) (omega arith)

      go : (x : Res Cut) → outermost forms most sequence w 0 ≡ x
          → (bind {A = Got (Values r)} (bind (more_cut z x) λ c. bind (reads r c.content c.start) λ v. good (got v c.rest (next c))) λ a. finish LeftOver a)
          ≡ (bind {A = Got (Values r)} (bind x λ c. bind (reads r c.content c.start) λ v. good (got v c.rest (next c))) λ a. finish LeftOver a)
      go (good c) e = read (reads r c.content c.start)
        where
          read : (y : Res (Values r)) → (bind {A = Got (Values r)} (bind y λ v. good (got v (c.rest ++ z) (next c))) λ a. finish LeftOver a)
              ≡ (bind {A = Got (Values r)} (bind y λ v. good (got v c.rest (next c))) λ a. finish LeftOver a)
          read (good v) = left c e v
          read (fault n p) = refl
      go (fault n p) e = refl

  -- ---- a sheet

  pub sheet_back : (x : List ℕ) (v : Values r) → accept_sheet r x ≡ good v → (x ≡ sheets r v) × Oks r v
  unfolding accept_sheet
  sheet_back x v e =
      by_bind _ _ _ e λ a e₁ e₂.
      let b = unfilleds r x 0 a e₁ in
      let f = finish_back BadSheet a v e₂ in
      rw (← f.1) (b.0 ∙ ap (λ (z : List ℕ). sheets r a.value ++ z) f.0 ∙ append-nil (sheets r a.value), b.1)

  pub sheet-there : T (clears r) → (v : Values r) → Oks r v → length (sheets r v) < uncounted → accept_sheet r (sheets r v) ≡ good v
  unfolding accept_sheet bind finish same need
  sheet-there k v ok h = rw (← append-nil (sheets r v), filleds r k v ok [] 0 h)

  -- the sheet of a record within the bound can be counted
  sheet-counted : T (clear (node sequence r)) → most < unspelled → (v : Values r) → length (record_of r v) ≤ most → length (sheets r v) < uncounted
  unfolding sheet encode
  sheet-counted k m v h =
      let b : length (sheets r v) ≤ 8 * length (record_of r v) + 0 = short (node sequence r) k v (omega arith) in
      omega arith

  pub sheet-taken : T (clear (node sequence r)) → most < unspelled → (w : List ℕ) (v : Values r) → accept most r w ≡ good v → accept_sheet r (sheets r v) ≡ good v
  unfolding clear
  sheet-taken k m w v e =
      let a = accept_back w v e in
      let l : length (record_of r v) ≤ most = rw (← a.0) a.2 in
      sheet-there (and_r (leb (spare r) 16) (clears r) k) v a.1 (sheet-counted k m v l)

-- ---- a destination

-- what was written stands at its front, and all other bytes are as they were
abbrev pub Wrote : List ℕ → List ℕ → Told → List ℕ → Type 0
Wrote d x t d' = (t ≡ told_one done (length x)) × (take (length x) d' ≡ x) × (drop (length x) d' ≡ drop (length x) d) × (length d' ≡ length d)

-- nothing was written
abbrev pub Kept : List ℕ → Reason → ℕ → Told → List ℕ → Type 0
Kept d n p t d' = (t ≡ refusal n p) × (d' ≡ d)

abbrev size_told : Res (List ℕ) → Told
size_told x = answered (λ y. length y) x

pub refused_kept : (d : List ℕ) (y : Res (List ℕ)) (n : Reason) (p : ℕ) → y ≡ fault n p → Kept d n p (size_told y) (stored y d)
unfolding stored
refused_kept d y n p e = (rw e, rw e)

module _ (d x : List ℕ) (y : Res (List ℕ)) (e : y ≡ fit (length d) x) where
  pub fits_wrote : length x ≤ length d → Wrote d x (size_told y) (stored y d)
  unfolding fit stored
  fits_wrote h =
      let f : y ≡ good x = e ∙ need_eq (leb (length x) (length d)) _ _ _ (le→leb _ _ h) in
      let l = length-append x (drop (length x) d) in
      let q = lib.ListN.length-drop (length x) d in
      (rw f, rw f (take_at x (drop (length x) d) (length x) refl), rw f (drop_at x (drop (length x) d) (length x) refl), rw f (omega arith))

  pub short_kept : length d < length x → Kept d NoRoom (length x) (size_told y) (stored y d)
  unfolding fit need
  short_kept h = refused_kept d y NoRoom (length x) (e ∙ rw (lt-leb (length x) (length d) h))
