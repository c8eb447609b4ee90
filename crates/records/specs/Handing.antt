-- Reading a seal and a signature record, filling and writing their sheets, and handing out (01, "Handing out"). Assumes nothing.
use Rattle.std.specs.Prelude.{ℕ, Bool, false, ◌&&◌, ◌||◌, List, [], ◌∷◌, length, ℤ}
use Rattle.std.proofs.Math.Option.{Option, none, some}
use Rattle.terms.specs.declared.Field.{Field}
use Rattle.terms.specs.declared.Field.TheVariants.{CertificateList, Created, End, Height, ListKind, ListedCertificate, ListedDigest, ListedType, MakerCertificate, OriginalDigest, PictureData, PictureType, PropertyText, SealAlgorithm, SealCustomCritical, SealCustomData, SealCustomId, SealCustomItem, SealCustomValue, SealId, SealInformation, SealName, SealSignedValue, SealType, SignatureAlgorithm, SignatureValue, SignedCustomCritical, SignedCustomData, SignedCustomId, SignedCustomItem, SignedCustomValue, SignedPart, SignerCertificate, SigningTime, Stamp, Start, Vendor, Width}
use Rattle.terms.specs.Names.{same_name}
use Rattle.terms.specs.Numbers.{done, absent, largest_record}
use Rattle.terms.specs.Answer.{Res, good, fault, pick, bind, same, bit, Told, gives, told_one, told_two, told_none, refusal, answered}
use Rattle.contents.specs.Integer.{value}
use Rattle.layouts.specs.Layout.{Members, Values}
use Rattle.layouts.specs.Whole.{accept, fill_sheet, write_record, stored}
use Rattle.layouts.specs.Fields.{Entry, fields, is_field, first, is_there, bytes_in}
use Rattle.records.specs.Record.{seal_information, seal, signed_part, signature}
use Rattle.records.specs.declared.Record.{Record}
use Rattle.records.specs.declared.Record.TheVariants.{Seal, Signature}
use Rattle.records.specs.Found.{Found, told_found}
use Rattle.records.specs.declared.Part.{Part}

-- ---- whole records

-- the layout of each of the two
abbrev pub layout_of : Record → Members
layout_of Seal = seal
layout_of Signature = signature

-- what is told of a record of at most `most` bytes: "ACCEPTED and its length, or REFUSED, number, place"
abbrev pub told_record : ℕ → Members → List ℕ → Told
told_record most r w = answered (λ v. length w) (accept most r w)

-- "A record has at most 65,535 bytes, header included."
abbrev pub read_record : (r : Members) → List ℕ → Res (Values r)
read_record r w = accept largest_record r w

abbrev pub record_answer : Members → List ℕ → Told
record_answer r w = told_record largest_record r w

-- a sheet filled from a record, and a record written from a sheet: the answer, and the bytes of the destination `d` after it
unfoldable pub fill_answer : Members → List ℕ → List ℕ → Told
fill_answer r w d = answered (λ x. length x) (fill_sheet largest_record r w (length d))

unfoldable pub fill_after : Members → List ℕ → List ℕ → List ℕ
fill_after r w d = stored (fill_sheet largest_record r w (length d)) d

unfoldable pub write_answer : Members → List ℕ → List ℕ → Told
write_answer r x d = answered (λ w. length w) (write_record largest_record r x (length d))

unfoldable pub write_after : Members → List ℕ → List ℕ → List ℕ
write_after r x d = stored (write_record largest_record r x (length d)) d

-- ---- asking for a field

-- the fields of an accepted record; a refused one has none
abbrev pub fields_of : (r : Members) → Res (Values r) → List Entry
fields_of r (good v) = fields r v
fields_of r (fault n p) = []

abbrev pub fields_in : Members → List ℕ → List Entry
fields_in r w = fields_of r (read_record r w)

-- the first field that passes, none, or the record's refusal
unfoldable pub seek : Members → (Entry → Bool) → List ℕ → Res (Option Entry)
seek r p w = bind (read_record r w) λ v. good (first p (fields r v))

-- what is told of it
abbrev pub tell : (Entry → Told) → Res (Option Entry) → Told
tell t (good (some x)) = t x
tell t (good none) = told_none absent
tell t (fault n p) = refusal n p

-- "With a refusal, an absent field or no match, the part is empty, at the record's start": start and length of what is handed out
abbrev pub handed_out : Res (Option Entry) → ℕ × ℕ
handed_out (good (some x)) = (x.place, length x.bytes)
handed_out (good none) = (0, 0)
handed_out (fault n p) = (0, 0)

-- where a field lies, start and length
abbrev pub told_place : Entry → Told
told_place x = told_two done x.place (length x.bytes)

-- a name is one of some
abbrev pub is_one_of : List Field → Field → Bool
is_one_of [] f = false
is_one_of (x ∷ xs) f = same_name x f || is_one_of xs f

-- a field, by one of some names and its index
abbrev pub is_among : List Field → Field → ℕ → Entry → Bool
is_among names f k x = is_one_of names f && is_field f k x

-- "the bytes its section has, or the signed bytes": the fields that are handed out as parts. Integers and critical come as values.
abbrev pub part_names : List Field
part_names =
    SealInformation ∷ Vendor ∷ SealId ∷ SealName ∷ ListedCertificate ∷ ListedType ∷ ListedDigest ∷ Created ∷ Start
    ∷ End ∷ PictureType ∷ PictureData ∷ SealCustomId ∷ SealCustomValue ∷ MakerCertificate ∷ SealAlgorithm ∷ SealSignedValue ∷ SignedPart
    ∷ SigningTime ∷ OriginalDigest ∷ PropertyText ∷ SignedCustomId ∷ SignedCustomValue ∷ SignerCertificate ∷ SignatureAlgorithm ∷ SignatureValue ∷ Stamp ∷ []

-- "in a list by index, absent past the last"
abbrev pub field_in : Members → Field → ℕ → List ℕ → Res (Option Entry)
field_in r f k w = seek r (is_among part_names f k) w

abbrev pub field_answer : Members → Field → ℕ → List ℕ → Told
field_answer r f k w = tell told_place (field_in r f k w)

-- "the first equal entry in the record. For kind 1 the given bytes are compared with the certificates; for kind 2 the part is the digest."
unfoldable pub is_listed : List ℕ → Entry → Bool
is_listed given x = is_one_of (ListedCertificate ∷ ListedDigest ∷ []) x.name && same given x.bytes

abbrev pub match_in : Members → List ℕ → List ℕ → Res (Option Entry)
match_in r given w = seek r (is_listed given) w

abbrev pub match_answer : Members → List ℕ → List ℕ → Told
match_answer r given w = tell told_place (match_in r given w)

-- "Integers and critical come as values."
abbrev pub integer_names : List Field
integer_names = SealType ∷ ListKind ∷ Width ∷ Height ∷ []

abbrev pub value_answer : Members → Field → List ℕ → Told
value_answer r f w = tell (λ x. gives done (value x.bytes ∷ [])) (seek r (is_among integer_names f 0) w)

-- the names of critical
abbrev pub critical_names : List Field
critical_names = SealCustomCritical ∷ SignedCustomCritical ∷ []

-- the custom item that a critical belongs to
abbrev pub owner_of : Field → Field
owner_of f = pick (same_name f SealCustomCritical) SealCustomItem SignedCustomItem

abbrev pub is_owner : Field → ℕ → Entry → Bool
is_owner f k x = is_one_of critical_names f && is_field (owner_of f) k x

-- a critical that is left out is false; past the last item it is absent
abbrev pub told_critical : Field → ℕ → List Entry → Entry → Told
told_critical f k xs x = told_one done (bit (is_there (first (is_field f k) xs)))

abbrev pub critical_answer : Members → Field → ℕ → List ℕ → Told
critical_answer r f k w = tell (told_critical f k (fields_in r w)) (seek r (is_owner f k) w)

-- "Absent and present-with-no-items are different field values."
abbrev pub list_names : List Field
list_names = CertificateList ∷ SealCustomData ∷ SignedCustomData ∷ []

abbrev pub count_answer : Members → Field → List ℕ → Told
count_answer r f w = tell (λ x. told_one done x.items) (seek r (is_among list_names f 0) w)

-- ---- signed bytes

-- "Signed bytes are the signed part, or the seal information, with its own tag and length."
unfoldable pub signed_bytes : Field → (r : Members) → Values r → List ℕ
signed_bytes f r v = bytes_in (first (is_field f 0) (fields r v))

-- the values of what is signed, and of a signature record's seal
abbrev pub information_of : Values seal → Values seal_information
information_of v = v.0

abbrev pub signed_part_of : Values signature → Values signed_part
signed_part_of v = v.0

abbrev pub seal_of : Values signature → Values seal
seal_of v = (signed_part_of v).1.0

-- ---- what the code's answers say in the paper's terms

abbrev pub told_part : Found Part → Told
told_part x = told_found (λ p. told_two done p.start p.length) x

abbrev pub told_number : Found ℤ → Told
told_number x = told_found (λ z. gives done (z ∷ [])) x

abbrev pub told_is : Found Bool → Told
told_is x = told_found (λ t. told_one done (bit t)) x

abbrev pub told_items : Found ℕ → Told
told_items x = told_found (λ n. told_one done n) x
