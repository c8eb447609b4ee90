-- What is asked with numbers, case by case. Assumes nothing.
use Rattle.std.specs.Prelude.{◌≡◌, ℕ, ◌≤◌, ◌<◌, List}
use Rattle.std.proofs.Common.{refl, ◌∙◌}
use borrow.Author.Tests.{ne_eqb, lt-ltb, le-ltb}
use Rattle.terms.specs.declared.Field.{Field}
use Rattle.terms.specs.declared.Field.TheVariants.{SealType, ListKind, Width, Height, CertificateList, SealCustomData, SealCustomCritical, SignedCustomData, SignedCustomCritical}
use Rattle.terms.specs.Names.{name_of, names_count}
use Rattle.terms.specs.Numbers.{absent}
use Rattle.terms.specs.Answer.{pick, Told, told_none}
use Rattle.layouts.specs.Fields.{is_field}
use Rattle.records.specs.Record.{signature}
use Rattle.records.specs.declared.Record.{Record}
use Rattle.records.specs.declared.Record.TheVariants.{Seal, Signature}
use Rattle.records.specs.Handing.{layout_of, seek, tell, told_place, value_answer, critical_answer, count_answer}
use Rattle.asked.specs.Asked.{kind_of, is_among, only_if, asked_field, asked_value, asked_critical, asked_count}

-- ---- a field by its number

module _ (kind n k : ℕ) (w : List ℕ) where
  pub field_none : names_count ≤ n → told_none absent ≡ asked_field kind n k w
  unfolding asked_field only_if pick
  field_none h = rw (le-ltb n names_count h)

  pub field_by : (x : Record) (f : Field) (t : Told) → n < names_count → x ≡ kind_of kind → f ≡ name_of n → t ≡ tell told_place (seek (layout_of x) (is_field f k) w) → t ≡ asked_field kind n k w
  unfolding asked_field only_if pick
  field_by x f t h e g a = rw (lt-ltb n names_count h, ← e, ← g) a

-- ---- integers

module _ (kind n : ℕ) (w : List ℕ) (x : Record) (t : Told) (e : x ≡ kind_of kind) where
  pub value_type : n ≡ 5 → t ≡ value_answer (layout_of x) SealType w → t ≡ asked_value kind n w
  unfolding asked_value only_if is_among pick
  value_type h a = rw (h, ← e) a

  pub value-kind : n ≡ 7 → t ≡ value_answer (layout_of x) ListKind w → t ≡ asked_value kind n w
  unfolding asked_value only_if is_among pick
  value-kind h a = rw (h, ← e) a

  pub value_width : n ≡ 19 → t ≡ value_answer (layout_of x) Width w → t ≡ asked_value kind n w
  unfolding asked_value only_if is_among pick
  value_width h a = rw (h, ← e) a

  pub value_height : n ≡ 20 → t ≡ value_answer (layout_of x) Height w → t ≡ asked_value kind n w
  unfolding asked_value only_if is_among pick
  value_height h a = rw (h, ← e) a

pub value_none : (kind n : ℕ) (w : List ℕ) → (n ≡ 5 → ⊥) → (n ≡ 7 → ⊥) → (n ≡ 19 → ⊥) → (n ≡ 20 → ⊥) → told_none absent ≡ asked_value kind n w
unfolding asked_value only_if is_among pick
value_none kind n w a b c d = rw (ne_eqb n 5 a, ne_eqb n 7 b, ne_eqb n 19 c, ne_eqb n 20 d)

-- ---- critical

module _ (kind n k : ℕ) (w : List ℕ) (x : Record) (t : Told) (e : x ≡ kind_of kind) where
  pub critical-seal : n ≡ 24 → t ≡ critical_answer (layout_of x) SealCustomCritical k w → t ≡ asked_critical (kind_of kind) n k w
  unfolding asked_critical only_if is_among pick
  critical-seal h a = rw (← e, h) (a ∙ go x)
    where
      go : (x : Record) → critical_answer (layout_of x) SealCustomCritical k w ≡ asked_critical x 24 k w
      go Seal = refl
      go Signature = refl

  pub critical_signed : x ≡ Signature → n ≡ 37 → t ≡ critical_answer signature SignedCustomCritical k w → t ≡ asked_critical (kind_of kind) n k w
  unfolding asked_critical only_if is_among pick
  critical_signed i h a = rw (← e, i, h) a

  pub critical_no_seal : x ≡ Seal → (n ≡ 24 → ⊥) → told_none absent ≡ asked_critical (kind_of kind) n k w
  unfolding asked_critical only_if is_among pick
  critical_no_seal i a = rw (← e, i, ne_eqb n 24 a)

  pub critical_no_signature : x ≡ Signature → (n ≡ 24 → ⊥) → (n ≡ 37 → ⊥) → told_none absent ≡ asked_critical (kind_of kind) n k w
  unfolding asked_critical only_if is_among pick
  critical_no_signature i a b = rw (← e, i, ne_eqb n 24 a, ne_eqb n 37 b)

-- ---- counts

module _ (kind n : ℕ) (w : List ℕ) (x : Record) (t : Told) (e : x ≡ kind_of kind) where
  pub count_list : n ≡ 8 → t ≡ count_answer (layout_of x) CertificateList w → t ≡ asked_count (kind_of kind) n w
  unfolding asked_count only_if is_among pick
  count_list h a = rw (← e, h) (a ∙ go x)
    where
      go : (x : Record) → count_answer (layout_of x) CertificateList w ≡ asked_count x 8 w
      go Seal = refl
      go Signature = refl

  pub count-items : n ≡ 21 → t ≡ count_answer (layout_of x) SealCustomData w → t ≡ asked_count (kind_of kind) n w
  unfolding asked_count only_if is_among pick
  count-items h a = rw (← e, h) (a ∙ go x)
    where
      go : (x : Record) → count_answer (layout_of x) SealCustomData w ≡ asked_count x 21 w
      go Seal = refl
      go Signature = refl

  pub count_signed : x ≡ Signature → n ≡ 34 → t ≡ count_answer signature SignedCustomData w → t ≡ asked_count (kind_of kind) n w
  unfolding asked_count only_if is_among pick
  count_signed i h a = rw (← e, i, h) a

  pub count_no_seal : x ≡ Seal → (n ≡ 8 → ⊥) → (n ≡ 21 → ⊥) → told_none absent ≡ asked_count (kind_of kind) n w
  unfolding asked_count only_if is_among pick
  count_no_seal i a b = rw (← e, i, ne_eqb n 8 a, ne_eqb n 21 b)

  pub count_no_signature : x ≡ Signature → (n ≡ 8 → ⊥) → (n ≡ 21 → ⊥) → (n ≡ 34 → ⊥) → told_none absent ≡ asked_count (kind_of kind) n w
  unfolding asked_count only_if is_among pick
  count_no_signature i a b c = rw (← e, i, ne_eqb n 8 a, ne_eqb n 21 b, ne_eqb n 34 c)
