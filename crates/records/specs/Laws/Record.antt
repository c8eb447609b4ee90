-- What holds of seals and signature records beyond every layout: their layouts are clear, a signature's sheet begins with its seal's,
-- and equal signed bytes are those of equal fields. Assumes nothing.
use Rattle.std.specs.Prelude.{◌≡◌, refl, ℕ, ◌+◌, ◌≤◌, ◌<◌, List, [], ◌++◌, T, leb}
use Rattle.std.proofs.Common.{sym, ap, ◌∙◌, arith, append_assoc, append-nil}
use Rattle.std.proofs.Math.ListN.{length, length-append}
use Rattle.terms.specs.declared.Field.{Field}
use Rattle.terms.specs.declared.Field.TheVariants.{SignedPart, SealInformation}
use Rattle.terms.specs.Numbers.{largest_record}
use Rattle.terms.specs.Answer.{Res, good, pick, enough, same}
use Rattle.terms.specs.Laws.Answer.{good_inj, and_l, and_r}
use Rattle.terms.specs.Digits.{number_from}
use Rattle.heads.specs.Head.{forms, Cut, cut_off, tlv, before, head}
use Rattle.heads.proofs.Laws.Head.{length-tlv, head-tlv, unspelled}
use Rattle.contents.specs.Content.{ask, passes}
use Rattle.contents.specs.Integer.{sign, shortest, well_formed, value, turned}
use Rattle.contents.specs.Text.{within, starts, follows, text_from}
use Rattle.contents.specs.Rules.{integer_rule, string_rule, also, only_rule}
use Rattle.layouts.specs.Layout.{node, Members, ◌▸◌, one, Values, encode, encodes}
use Rattle.layouts.specs.Sheet.{sheet, sheets}
use Rattle.layouts.specs.Whole.{sequence, record_of}
use Rattle.layouts.specs.Fields.{item_fields, fields, is_field, first, bytes_in}
use Rattle.layouts.proofs.Laws.Reading.{clear, clears, apart, tells, spare, injective}
use Rattle.layouts.proofs.Laws.Whole.{accept_back}
use Rattle.records.specs.Record.{seal_information, seal, signed_part, signature}
use Rattle.records.specs.Handing.{read_record, signed_bytes, information_of, signed_part_of, seal_of}

-- ---- the layouts are clear

pub seal-clear : T (clear (node sequence seal))
unfolding clear apart tells spare passes ask same also only_rule integer_rule string_rule well_formed shortest sign value turned number_from pick within starts follows text_from enough
seal-clear = tt

pub signature-clear : T (clear (node sequence signature))
unfolding clear apart tells spare passes ask same also only_rule integer_rule string_rule well_formed shortest sign value turned number_from pick within starts follows text_from enough
signature-clear = tt

pub record_spelled : largest_record < unspelled
record_spelled = omega arith

-- ---- "a signature's sheet begins with its seal's"

pub sheet-begins : (v : Values signature) → (rest : List ℕ) × (sheets signature v ≡ sheets seal (seal_of v) ++ rest)
unfolding sheet
sheet-begins v = (_, append_assoc (sheets seal (seal_of v)) _ _)

-- ---- signed bytes

pub signed_signature : (v : Values signature) → signed_bytes SignedPart signature v ≡ record_of signed_part (signed_part_of v)
unfolding signed_bytes bytes_in first is_field fields item_fields pick
signed_signature v = refl

pub signed_seal : (v : Values seal) → signed_bytes SealInformation seal v ≡ record_of seal_information (information_of v)
unfolding signed_bytes bytes_in first is_field fields item_fields pick
signed_seal v = refl

-- a record whose first member is a SEQUENCE: two accepted records with equal bytes there have equal values there
module _ (f : Field) (q rest : Members) (k : T (clear (node sequence (one f (node sequence q) ▸ rest)))) where
  abbrev whole : Members
  whole = one f (node sequence q) ▸ rest

  inner_clear : T (clear (node sequence q))
  unfolding clear tells
  inner_clear =
      let k₁ = and_r (leb (spare whole) 16) (clears whole) k in
      and_l (clear (node sequence q)) (clears rest) k₁

  inner_short : (v : Values whole) → length (record_of whole v) ≤ largest_record → length (record_of q v.0) < unspelled
  unfolding encode
  inner_short v h = omega (arith, length-tlv sequence (encodes whole v), length-append (record_of q v.0) (encodes rest v.1))

  same_first : (w x : List ℕ) (u v : Values whole) → read_record whole w ≡ good u → read_record whole x ≡ good v → record_of q u.0 ≡ record_of q v.0 → u.0 ≡ v.0
  unfolding encode
  same_first w x u v e g h =
      let a = accept_back largest_record whole w u e in
      let b = accept_back largest_record whole x v g in
      let l : length (record_of whole u) ≤ largest_record = rw (← a.0) a.2 in
      injective (node sequence q) inner_clear u.0 v.0 a.1.0 b.1.0 (inner_short u l) h

-- "equal signed bytes mean equal fields, the seal included"
pub equal_signature : (w x : List ℕ) (u v : Values signature) → read_record signature w ≡ good u → read_record signature x ≡ good v
    → signed_bytes SignedPart signature u ≡ signed_bytes SignedPart signature v → (signed_part_of u ≡ signed_part_of v) × (seal_of u ≡ seal_of v)
equal_signature w x u v e g h =
    let p : signed_part_of u ≡ signed_part_of v = same_first SignedPart signed_part _ signature-clear w x u v e g (sym (signed_signature u) ∙ h ∙ signed_signature v) in
    (p, ap (λ (y : Values signed_part). y.1.0) p)

pub equal_seal : (w x : List ℕ) (u v : Values seal) → read_record seal w ≡ good u → read_record seal x ≡ good v
    → signed_bytes SealInformation seal u ≡ signed_bytes SealInformation seal v → information_of u ≡ information_of v
equal_seal w x u v e g h = same_first SealInformation seal_information _ seal-clear w x u v e g (sym (signed_seal u) ∙ h ∙ signed_seal v)

-- "no record is the beginning of a longer one": a record's own length says where it ends, whatever its layout
pub no_beginning : (r q : Members) (w x : List ℕ) (u : Values r) (v : Values q) → read_record r w ≡ good u → read_record q x ≡ good v → (rest : List ℕ) → w ++ rest ≡ x → rest ≡ []
no_beginning r q w x u v e g rest h =
    let a = accept_back largest_record r w u e in
    let b = accept_back largest_record q x v g in
    let m : tlv sequence (encodes r u) ++ rest ≡ tlv sequence (encodes q v) ++ [] = ap (λ (y : List ℕ). y ++ rest) (sym a.0) ∙ h ∙ b.0 ∙ sym (append-nil (record_of q v)) in
    let c : ◌≡◌ {A = Res Cut} (good (cut_off (encodes r u) rest (0 + before (length (encodes r u))))) (good (cut_off (encodes q v) [] (0 + before (length (encodes q v))))) =
    sym (head-tlv sequence (encodes r u) rest 0 (omega (arith, a.2, ap length a.0, length-tlv sequence (encodes r u))))
    ∙ ap (λ (y : List ℕ). head forms sequence y 0) m
    ∙ head-tlv sequence (encodes q v) [] 0 (omega (arith, b.2, ap length b.0, length-tlv sequence (encodes q v))) in
    ap (λ (y : Cut). y.rest) (good_inj c)
