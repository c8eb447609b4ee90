-- Records S and D, evaluated; `Parts`, `Sheets`, `Refusals` and `About` have more of them. Assumes nothing.
pub mod Parts
pub mod Sheets
pub mod Refusals
pub mod About
use Rattle.std.specs.Prelude.{◌≡◌, refl, ℕ, Bool, true, ◌&&◌, List, [], ◌∷◌, ◌++◌, replicate, set, take, drop, ℤ, pos, negsuc}
use Rattle.std.proofs.Math.Option.{Option}
use Rattle.terms.specs.declared.Field.{Field}
use Rattle.terms.specs.declared.Field.TheVariants.{SealInformation, Seal, Vendor, SealId, SealType, SealName, ListKind, CertificateList, ListedCertificate, ListedType, ListedDigest, Created, Start, End, PictureType, PictureData, Width, Height, SealCustomData, SealCustomId, SealCustomCritical, SealCustomValue, MakerCertificate, SealAlgorithm, SealSignedValue, SignedPart, SigningTime, OriginalDigest, PropertyText, SignedCustomData, SignedCustomId, SignedCustomCritical, SignedCustomValue, SignerCertificate, SignatureAlgorithm, SignatureValue, Stamp}
use Rattle.terms.specs.Numbers.{done, absent}
use Rattle.terms.specs.declared.Reason.TheVariants.{OtherTag, BadBoolean, LeftOver, BadLength, ItemMissing}
use Rattle.terms.specs.Answer.{Res, good, fault, pick, bind, need, have, every, enough, same, finish, Told, gives, told_one, told_two, told_none, refusal}
use Rattle.terms.specs.Laws.Table.{Row, asks, answers, same_number, same_numbers, same_told, agree, agreed}
use Rattle.terms.specs.Digits.{digits, number_from, leading}
use Rattle.heads.specs.Head.{spell, octets, tlv, unspell, any_size, is_shortest, size, opening, cut, head, outermost}
use Rattle.contents.specs.Content.{ask, passes, place_of, judge}
use Rattle.contents.specs.Integer.{sign, shortest, well_formed, turned, value, shrink, sign_of, stretch, unstretch}
use Rattle.contents.specs.Text.{within, starts, follows, text_from, parts_from, is_identifier}
use Rattle.contents.specs.Time.{leap, month_length, possible, is_digit, part_from, zulu, time_from, time_check, time_rule}
use Rattle.contents.specs.Rules.{integer_rule, string_rule, octets_rule, identifier_rule, boolean_rule, also, only_rule}
use Rattle.layouts.specs.Layout.{Members, Values, each, option, either, encode_leaf, critical, encode}
use Rattle.layouts.specs.Reading.{behind, read_leaf, begins, many, read_option, read_flag, read_either, read}
use Rattle.layouts.specs.Sheet.{count, section, critical_byte, sheet_option, sheet_list, sheet, read_count, read_section, fill_leaf, times, critical_in, fill_flag, fill_option, fill_list, fill}
use Rattle.layouts.specs.Whole.{record_at, accept, accept_sheet, fit, fill_sheet, write_record, stored}
use Rattle.layouts.specs.Fields.{Entry, each_fields, option_fields, either_fields, flag_fields, item_fields, fields, is_field, first, bytes_in, is_there}
use Rattle.layouts.specs.Places.{numbers_of}
use Rattle.records.specs.Record.{seal, signature}
use Rattle.records.specs.Handing.{read_record, fields_in, record_answer, fill_answer, fill_after, write_answer, write_after, seek, field_answer, is_listed, match_answer, value_answer, critical_answer, count_answer, signed_bytes}
use Rattle.records.specs.Samples.{record_s, record_d}

-- to name this one on a line is to name all that a reading, a sheet and a handing out compute with
unfoldable pub evaluate : Unit {0}
unfolding pick bind need have every enough same digits number_from leading spell octets tlv unspell any_size is_shortest size opening cut head outermost ask passes place_of judge sign shortest well_formed turned value shrink sign_of stretch unstretch within starts follows text_from parts_from is_identifier leap month_length possible is_digit part_from zulu time_from time_check time_rule integer_rule string_rule octets_rule identifier_rule boolean_rule also only_rule each option either encode_leaf critical encode behind read_leaf begins finish many read_option read_flag read_either read count section critical_byte sheet_option sheet_list sheet read_count read_section fill_leaf times critical_in fill_flag fill_option fill_list fill record_at accept accept_sheet fit fill_sheet write_record stored each_fields option_fields either_fields flag_fields item_fields fields is_field first bytes_in is_there fill_answer fill_after write_answer write_after seek is_listed same_number same_numbers same_told agree
evaluate = tt

abbrev pub at : ℕ → ℕ → Told
at a n = told_two done a n

abbrev whole : ℤ → Told
whole z = gives done (z ∷ [])

-- ---- the sizes of S, its signed bytes, and the check program's four lines

-- the seal of S: 115 bytes from offset 9
abbrev pub seal_s : List ℕ
seal_s = take 115 (drop 9 record_s)

-- the seal of D: 170 bytes from offset 9
abbrev pub seal_d : List ℕ
seal_d = take 170 (drop 9 record_d)

abbrev plenty : List ℕ
plenty = replicate 300 0x5A

-- "The seal has 115 bytes (sheet 163), the record 165 (sheet 222). Signed bytes: 145 from offset 3; the seal's: 96 from offset 11."
abbrev numbers_s : List Row
numbers_s =
    (record_answer seal seal_s, told_one done 115)
    ∷ (fill_answer seal seal_s plenty, told_one done 163)
    ∷ (record_answer signature record_s, told_one done 165)
    ∷ (fill_answer signature record_s plenty, told_one done 222)
    ∷ (field_answer signature SignedPart 0 record_s, at 3 145)
    ∷ (field_answer signature SealInformation 0 record_s, at 11 96)
    ∷ (field_answer seal SealInformation 0 seal_s, at 2 96)
    ∷ (record_answer signature (record_s ++ (0x00 ∷ [])), refusal LeftOver 165)
    ∷ (record_answer signature (0x30 ∷ 0x80 ∷ []), refusal BadLength 0)
    ∷ (record_answer signature [], refusal ItemMissing 0)
    ∷ []

numbers_of_S : asks numbers_s ≡ answers numbers_s
unfolding evaluate
numbers_of_S = agreed numbers_s tt

-- "Signed bytes are the signed part, or the seal information, with its own tag and length."
abbrev signed_in : Field → (r : Members) → Res (Values r) → List ℕ
signed_in f r (good v) = signed_bytes f r v
signed_in f r (fault n p) = []

signed_bytes_of_S : signed_in SignedPart signature (read_record signature record_s) ≡ take 145 (drop 3 record_s)
unfolding evaluate signed_bytes
signed_bytes_of_S = refl

sealed_bytes_of_S : signed_in SealInformation seal (read_record seal seal_s) ≡ take 96 (drop 11 record_s)
unfolding evaluate signed_bytes
sealed_bytes_of_S = refl

-- where some of its parts stand: whether, start, length, items
abbrev places_s : List (Field × List ℕ)
places_s =
    (SignedPart, 1 ∷ 3 ∷ 145 ∷ 0 ∷ [])
    ∷ (Seal, 1 ∷ 9 ∷ 115 ∷ 0 ∷ [])
    ∷ (Vendor, 1 ∷ 24 ∷ 0 ∷ 0 ∷ [])
    ∷ (CertificateList, 1 ∷ 37 ∷ 5 ∷ 1 ∷ [])
    ∷ (ListedCertificate, 1 ∷ 41 ∷ 1 ∷ 0 ∷ [])
    ∷ (SealCustomData, 0 ∷ 0 ∷ 0 ∷ 0 ∷ [])
    ∷ (SealSignedValue, 1 ∷ 123 ∷ 1 ∷ 0 ∷ [])
    ∷ (Stamp, 0 ∷ 0 ∷ 0 ∷ 0 ∷ [])
    ∷ []

-- and in D, of two that come as values: its list kind and its first critical
abbrev places_d : List (Field × List ℕ)
places_d = (ListKind, 1 ∷ 46 ∷ 1 ∷ 0 ∷ []) ∷ (SealCustomCritical, 1 ∷ 148 ∷ 1 ∷ 0 ∷ []) ∷ []

abbrev spots : List ℕ → List (Field × List ℕ) → List (List ℕ)
spots w [] = []
spots w (x ∷ xs) = numbers_of (first (is_field x.0 0) (fields_in signature w)) ∷ spots w xs

abbrev expected_spots : List (Field × List ℕ) → List (List ℕ)
expected_spots [] = []
expected_spots (x ∷ xs) = x.1 ∷ expected_spots xs

places_of_S : spots record_s places_s ≡ expected_spots places_s
unfolding evaluate
places_of_S = refl

places_of_D : spots record_d places_d ≡ expected_spots places_d
unfolding evaluate
places_of_D = refl

-- ---- D, field by field, by name

abbrev entries_d : List Entry
entries_d = fields_in signature record_d

-- a name, an index, and the bytes that the field must have
abbrev Expected : Type 0
Expected = Field × ℕ × List ℕ

abbrev as_expected : List Expected → List (Option Entry)
as_expected [] = []
as_expected (x ∷ xs) = first (is_field x.0 x.1) entries_d ∷ as_expected xs

abbrev bytes_of : List (Option Entry) → List (List ℕ)
bytes_of [] = []
bytes_of (x ∷ xs) = bytes_in x ∷ bytes_of xs

abbrev expected_bytes : List Expected → List (List ℕ)
expected_bytes [] = []
expected_bytes (x ∷ xs) = x.2 ∷ expected_bytes xs

abbrev fields_d : List Expected
fields_d =
    (Vendor, 0, 0x4C ∷ 0x69 ∷ 0x6D ∷ 0x65 ∷ [])
    ∷ (SealId, 0, 0x4B ∷ 0x37 ∷ [])
    ∷ (SealType, 0, 0xFD ∷ [])
    ∷ (SealName, 0, 0xE5 ∷ 0x8D ∷ 0xB0 ∷ [])
    ∷ (ListKind, 0, 0x02 ∷ [])
    ∷ (ListedType, 0, 0x41 ∷ 0x64 ∷ 0x61 ∷ [])
    ∷ (ListedDigest, 0, 0xD1 ∷ 0xD2 ∷ [])
    ∷ (ListedType, 1, 0x42 ∷ 0x6F ∷ [])
    ∷ (ListedDigest, 1, 0xD3 ∷ [])
    ∷ (Created, 0, 0x32 ∷ 0x30 ∷ 0x32 ∷ 0x30 ∷ 0x30 ∷ 0x31 ∷ 0x30 ∷ 0x32 ∷ 0x30 ∷ 0x33 ∷ 0x30 ∷ 0x34 ∷ 0x30 ∷ 0x35 ∷ 0x5A ∷ [])
    ∷ (Start, 0, 0x32 ∷ 0x30 ∷ 0x32 ∷ 0x31 ∷ 0x30 ∷ 0x32 ∷ 0x30 ∷ 0x33 ∷ 0x30 ∷ 0x34 ∷ 0x30 ∷ 0x35 ∷ 0x30 ∷ 0x36 ∷ 0x5A ∷ [])
    ∷ (End, 0, 0x32 ∷ 0x30 ∷ 0x32 ∷ 0x39 ∷ 0x30 ∷ 0x33 ∷ 0x30 ∷ 0x34 ∷ 0x30 ∷ 0x35 ∷ 0x30 ∷ 0x36 ∷ 0x30 ∷ 0x37 ∷ 0x5A ∷ [])
    ∷ (PictureType, 0, 0x50 ∷ 0x4E ∷ 0x47 ∷ [])
    ∷ (PictureData, 0, 0x89 ∷ 0x50 ∷ [])
    ∷ (Width, 0, 0x01 ∷ 0x2C ∷ [])
    ∷ (Height, 0, 0x2D ∷ [])
    ∷ (SealCustomId, 0, 0x2A ∷ 0x03 ∷ [])
    ∷ (SealCustomCritical, 0, 0xFF ∷ [])
    ∷ (SealCustomValue, 0, 0x71 ∷ [])
    ∷ (SealCustomId, 1, 0x2A ∷ 0x04 ∷ [])
    ∷ (SealCustomValue, 1, [])
    ∷ (MakerCertificate, 0, 0xC1 ∷ 0xC2 ∷ [])
    ∷ (SealAlgorithm, 0, 0x2A ∷ 0x81 ∷ 0x1C ∷ 0xCF ∷ 0x55 ∷ 0x01 ∷ 0x83 ∷ 0x75 ∷ [])
    ∷ (SealSignedValue, 0, 0xE1 ∷ 0xE2 ∷ [])
    ∷ (SigningTime, 0, 0x32 ∷ 0x30 ∷ 0x32 ∷ 0x32 ∷ 0x30 ∷ 0x34 ∷ 0x30 ∷ 0x35 ∷ 0x30 ∷ 0x36 ∷ 0x30 ∷ 0x37 ∷ 0x30 ∷ 0x38 ∷ 0x5A ∷ [])
    ∷ (OriginalDigest, 0, 0xF1 ∷ 0xF2 ∷ 0xF3 ∷ [])
    ∷ (PropertyText, 0, 0x70 ∷ 0x61 ∷ 0x67 ∷ 0x65 ∷ 0x20 ∷ 0x31 ∷ [])
    ∷ (SignedCustomId, 0, 0x2A ∷ 0x05 ∷ [])
    ∷ (SignedCustomCritical, 0, 0xFF ∷ [])
    ∷ (SignedCustomValue, 0, 0x72 ∷ 0x73 ∷ [])
    ∷ (SignerCertificate, 0, 0xC3 ∷ [])
    ∷ (SignatureAlgorithm, 0, 0x2A ∷ 0x86 ∷ 0x48 ∷ 0x86 ∷ 0xF7 ∷ 0x0D ∷ 0x01 ∷ 0x01 ∷ 0x0B ∷ [])
    ∷ (SignatureValue, 0, 0x91 ∷ 0x92 ∷ [])
    ∷ (Stamp, 0, 0xA1 ∷ 0xA2 ∷ 0xA3 ∷ [])
    ∷ []

fields_of_D : bytes_of (as_expected fields_d) ≡ expected_bytes fields_d
unfolding evaluate
fields_of_D = refl

-- they are all there, and values, counts, matches and what is absent
abbrev all_there : List (Option Entry) → Bool
all_there [] = true
all_there (x ∷ xs) = is_there x && all_there xs

names_of_D : all_there (as_expected fields_d) ≡ true
unfolding evaluate
names_of_D = refl

abbrev answers_d : List Row
answers_d =
    (value_answer signature SealType record_d, whole (negsuc 2))
    ∷ (value_answer signature ListKind record_d, whole (pos 2))
    ∷ (value_answer signature Width record_d, whole (pos 300))
    ∷ (value_answer signature Height record_d, whole (pos 45))
    ∷ (value_answer signature Vendor record_d, told_none absent)
    ∷ (critical_answer signature SealCustomCritical 0 record_d, told_one done 1)
    ∷ (critical_answer signature SealCustomCritical 1 record_d, told_one done 0)
    ∷ (critical_answer signature SealCustomCritical 2 record_d, told_none absent)
    ∷ (critical_answer signature SignedCustomCritical 0 record_d, told_one done 1)
    ∷ (critical_answer signature SignedCustomCritical 1 record_d, told_none absent)
    ∷ (critical_answer signature SealCustomId 0 record_d, told_none absent)
    ∷ (count_answer signature CertificateList record_d, told_one done 2)
    ∷ (count_answer signature SealCustomData record_d, told_one done 2)
    ∷ (count_answer signature SignedCustomData record_d, told_one done 1)
    ∷ (count_answer signature SealInformation record_d, told_none absent)
    ∷ (match_answer signature (0xD3 ∷ []) record_d, at 68 1)
    ∷ (match_answer signature (0xAA ∷ []) record_d, told_none absent)
    ∷ (match_answer signature (0xAA ∷ []) record_s, at 41 1)
    ∷ (field_answer signature ListedCertificate 0 record_d, told_none absent)
    ∷ (field_answer signature ListedDigest 2 record_d, told_none absent)
    ∷ (field_answer signature Stamp 0 record_s, told_none absent)
    ∷ (field_answer signature Vendor 0 (0x30 ∷ 0x80 ∷ []), refusal BadLength 0)
    ∷ []

answers_of_D : asks answers_d ≡ answers answers_d
unfolding evaluate
answers_of_D = agreed answers_d tt

-- ---- the three slips of "Slips seen in other readers"

-- "Telling the list's kind by its first tag, so kind 1 with digests passes.": D with kind 1 is refused at the first entry's tag
abbrev digests_as_kind1 : List ℕ
digests_as_kind1 = set record_d 46 0x01

-- "Taking 01 01 00 for "not critical".": D with its first critical so
abbrev false_written : List ℕ
false_written = set record_d 148 0x00

-- "Treating an empty custom list as absent.": S with 30 00 at the end of its seal information
abbrev empty_custom : List ℕ
empty_custom =
    let longer : List ℕ = set (set (set (set record_s 2 0xA4) 5 0x90) 10 0x73) 12 0x60 in
    take 107 longer ++ (0x30 ∷ 0x00 ∷ drop 107 longer)

abbrev slip_rows : List Row
slip_rows =
    (record_answer signature digests_as_kind1, refusal OtherTag 49)
    ∷ (record_answer signature false_written, refusal BadBoolean 146)
    ∷ (record_answer signature empty_custom, told_one done 167)
    ∷ (count_answer signature SealCustomData empty_custom, told_one done 0)
    ∷ (count_answer signature SealCustomData record_s, told_none absent)
    ∷ (fill_answer signature empty_custom plenty, told_one done 226)
    ∷ []

slips : asks slip_rows ≡ answers slip_rows
unfolding evaluate
slips = agreed slip_rows tt
