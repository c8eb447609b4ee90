-- The way to a member of a record: where its bytes stand, and that the record's fields of some names are its fields. Assumes nothing.
use Rattle.std.specs.Prelude.{◌≡◌, Bool, not, T}
use Rattle.std.proofs.Math.Path.{refl, ap}
use Rattle.std.proofs.Common.{sym, ◌∙◌, T_not}
use Prim.Native.Nat.{ℕ}
use native.Mathlib.Omega.{arith}
use Rattle.std.proofs.Math.Option.{Option, none, some}
use mathlib.Core.List.{List, [], ◌∷◌, ◌++◌, append-nil}
use Rattle.std.proofs.Math.ListN.{length}
use Rattle.terms.specs.declared.Field.{Field}
use Rattle.terms.specs.Answer.{pick}
use Rattle.terms.specs.Laws.Answer.{test, pick_no}
use Rattle.heads.specs.Head.{forms, tlv, octets, before}
use Rattle.layouts.specs.Layout.{node, Members, ◌▸◌, Member, one, Values, Part, All, Oks, OkPart, encodes, encode_part}
use Rattle.layouts.specs.Fields.{Entry, run_fields, part_fields, fields, first}
use Rattle.layouts.specs.Whole.{sequence, record_of}
use Rattle.layouts.proofs.Laws.Fields.{inside, past}
use Rattle.layouts.proofs.Laws.Each.{passes_all, passes_part, run_passes, part-passes}

-- ---- the first of two lists

module _ {A : Type 0} (q : A → Bool) where
  pub first_skip : (xs ys : List A) → All (λ x. T (not (q x))) xs → first q (xs ++ ys) ≡ first q ys
  unfolding first
  first_skip [] ys h = refl
  first_skip (x ∷ xs) ys h = pick_no (q x) _ _ h.0 ∙ first_skip xs ys h.1

  first_none : (xs : List A) → All (λ x. T (not (q x))) xs → first q xs ≡ none
  unfolding first
  first_none [] h = refl
  first_none (x ∷ xs) h = pick_no (q x) _ _ h.0 ∙ first_none xs h.1

  pub first_stop : (xs ys : List A) → All (λ x. T (not (q x))) ys → first q (xs ++ ys) ≡ first q xs
  unfolding first
  first_stop [] ys h = first_none ys h
  first_stop (x ∷ xs) ys h = ap (λ (o : Option A). pick (q x) (some x) o) (first_stop xs ys h)

-- ---- fields of some names

module _ (named : Field → Bool) where
  -- only fields of these names are asked for
  abbrev pub Asks : (Entry → Bool) → Type 0
  Asks q = (x : Entry) → T (q x) → T (named x.name)

  abbrev other : Field → Bool
  other f = not (named f)

  -- no field of a run, or of a member, has one of the names
  abbrev lacks : Members → Bool
  lacks r = passes_all (λ f l. other f) other r

  abbrev lacks_part : Member → Bool
  lacks_part m = passes_part (λ f l. other f) other m

  passed_by : (q : Entry → Bool) → Asks q → (xs : List Entry) → All (λ x. T (other x.name)) xs → All (λ x. T (not (q x))) xs
  passed_by q a [] h = tt
  passed_by q a (x ∷ xs) h = (test (q x) (λ t. absurd (T_not (named x.name) h.0 (a x t))) (λ t. t), passed_by q a xs h.1)

  lacks_none : (q : Entry → Bool) → Asks q → (r : Members) → T (lacks r) → (v : Values r) → Oks r v → (b : ℕ) → All (λ x. T (not (q x))) (run_fields r 0 v b)
  lacks_none q a r t v o b = passed_by q a (run_fields r 0 v b) (run_passes (λ f l. other f) other (λ x. T (other x.name)) (λ f l t v o k b. t) (λ f t k b x n. t) r t 0 v o b)

  lacks_part_none : (q : Entry → Bool) → Asks q → (m : Member) → T (lacks_part m) → (v : Part m) → OkPart m v → (b : ℕ) → All (λ x. T (not (q x))) (part_fields m 0 v b)
  lacks_part_none q a m t v o b = passed_by q a (part_fields m 0 v b) (part-passes (λ f l. other f) other (λ x. T (other x.name)) (λ f l t v o k b. t) (λ f t k b x n. t) m t 0 v o b)

  -- a way to a member: it is the first, it stands after another, or in a tag
  pub data Way (m : Member) : Members → Type 0 where
    here : {r : Members} → T (lacks r) → Way m (m ▸ r)
    beyond : {m' : Member} {r : Members} → T (lacks_part m') → Way m r → Way m (m' ▸ r)
    in_tag : {f : Field} {t : ℕ} {r' r : Members} → T (other f) → T (lacks r) → Way m r' → Way m (one f (node t r') ▸ r)

  -- the member stands in `s`, and the fields of these names are its
  pub record Holds (m : Member) (s : List ℕ) (xs : List Entry) : Type 0 where
    pub value : Part m
    pub ok : OkPart m value
    pub earlier : List ℕ
    pub later : List ℕ
    pub written : s ≡ earlier ++ (encode_part m value ++ later)
    pub alike : (q : Entry → Bool) → Asks q → first q xs ≡ first q (part_fields m 0 value (length earlier))

  -- where a way leads in a run that stands in `s`
  module _ (m : Member) (s : List ℕ) where
    led : {r : Members} → Way m r → (v : Values r) → Oks r v → (p z : List ℕ) → s ≡ p ++ (encodes r v ++ z) → Holds m s (run_fields r 0 v (length p))
    unfolding encodes run_fields first
    led (here {r} t) v o p z e =
        let n = past s p (encode_part m v.0) (encodes r v.1) z e in
        record {
          value = v.0;
          ok = o.0;
          earlier = p;
          later = encodes r v.1 ++ z;
          written = n.0;
          alike = λ q a. first_stop q (part_fields m 0 v.0 (length p)) _ (lacks_none q a r t v.1 o.1 _);
        }
    led (beyond {m'} {r} t w) v o p z e =
        let n = past s p (encode_part m' v.0) (encodes r v.1) z e in
        let h = led w v.1 o.1 (p ++ encode_part m' v.0) z n.1 in
        record {
          value = h.value;
          ok = h.ok;
          earlier = h.earlier;
          later = h.later;
          written = h.written;
          alike = λ q a. first_skip q (part_fields m' 0 v.0 (length p)) _ (lacks_part_none q a m' t v.0 o.0 _) ∙ ap (λ (b : ℕ). first q (run_fields r 0 v.1 b)) (sym n.2) ∙ h.alike q a;
        }
    led (in_tag {f} {t} {r'} {r} u k w) v o p z e =
        let c : List ℕ = encodes r' v.0 in
        let n = past s p (tlv t c) (encodes r v.1) z e in
        let i = inside s p (encodes r v.1 ++ z) t c n.0 in
        let h = led w v.0 o.0 (p ++ (t ∷ octets forms (length c))) (encodes r v.1 ++ z) i.0 in
        record {
          value = h.value;
          ok = h.ok;
          earlier = h.earlier;
          later = h.later;
          written = h.written;
          alike = λ q a. first_stop q (part_fields (one f (node t r')) 0 v.0 (length p)) _ (lacks_none q a r k v.1 o.1 _)
              ∙ pick_no (q _) _ _ (passed_by q a (_ ∷ []) (u, tt)).0 ∙ ap (λ (b : ℕ). first q (run_fields r' 0 v.0 b)) (sym i.1) ∙ h.alike q a;
        }

  -- and in a whole record
  pub held_in : (m : Member) (r : Members) → Way m r → (v : Values r) → Oks r v → Holds m (record_of r v) (fields r v)
  unfolding fields
  held_in m r w v o =
      let c : List ℕ = encodes r v in
      let n = inside (record_of r v) [] [] sequence c (sym (append-nil (record_of r v))) in
      let l : length (sequence ∷ octets forms (length c)) ≡ before (length c) = omega arith in
      rw l at (led m (record_of r v) w v o (sequence ∷ octets forms (length c)) [] n.0)
