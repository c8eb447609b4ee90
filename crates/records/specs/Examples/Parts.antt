-- What is handed out as a part, by every name that has one, evaluated. The expected places are those of the bytes of S and D. Assumes nothing.
use Rattle.std.specs.Prelude.{◌≡◌, refl, ℕ, true, false, List, [], ◌∷◌, ◌++◌, set, take, drop, pos, negsuc, Ok, Some, None}
use Rattle.terms.specs.declared.Field.TheVariants.{SealInformation, Header, Vendor, SealId, Property, SealType, SealName, ListKind, CertificateList, ListedCertificate, ListedEntry, ListedType, ListedDigest, Created, Start, End, Picture, PictureType, PictureData, Width, Height, SealCustomData, SealCustomItem, SealCustomId, SealCustomCritical, SealCustomValue, MakerCertificate, SealAlgorithm, SealSignedValue, SignedPart, Seal, SigningTime, OriginalDigest, PropertyText, SignedCustomData, SignedCustomItem, SignedCustomId, SignedCustomCritical, SignedCustomValue, SignerCertificate, SignatureAlgorithm, SignatureValue, Stamp}
use Rattle.terms.specs.Numbers.{absent}
use Rattle.terms.specs.declared.Reason.TheVariants.{BadLength, ItemMissing}
use Rattle.terms.specs.Answer.{gives, refuses, told_none, refusal, refused}
use Rattle.terms.specs.Laws.Table.{Row, asks, answers, agreed}
use Rattle.records.specs.Record.{seal, signature}
use Rattle.records.specs.Handing.{handed_out, field_in, field_answer, match_answer, told_part, told_number, told_is, told_items}
use Rattle.records.specs.Samples.{record_s, record_d}
use Rattle.records.specs.Examples.{evaluate, at, seal_d}
use Rattle.records.specs.Found.{part}

-- S with a second certificate AA: each length around it is 3 more
abbrev twice : List ℕ
twice =
    let longer : List ℕ = set (set (set (set (set (set record_s 2 0xA5) 5 0x91) 10 0x74) 12 0x61) 28 0x43) 38 0x06 in
    take 42 longer ++ 0x04 ∷ 0x01 ∷ 0xAA ∷ drop 42 longer

-- "A field is handed out as a part of the lent record, never a copy: the bytes its section has, or the signed bytes; in a list by index, absent past
-- the last." Start and length as D's bytes show them; a bit string begins behind its 00, and one in [0] behind both heads.
abbrev parts_d : List Row
parts_d =
    (field_answer signature SignedPart 0 record_d, at 3 224)
    ∷ (field_answer signature SealInformation 0 record_d, at 12 148)
    ∷ (field_answer signature Vendor 0 record_d, at 26 4)
    ∷ (field_answer signature SealId 0 record_d, at 32 2)
    ∷ (field_answer signature SealName 0 record_d, at 41 3)
    ∷ (field_answer signature ListedType 0 record_d, at 53 3)
    ∷ (field_answer signature ListedDigest 0 record_d, at 58 2)
    ∷ (field_answer signature ListedType 1 record_d, at 64 2)
    ∷ (field_answer signature ListedDigest 1 record_d, at 68 1)
    ∷ (field_answer signature Created 0 record_d, at 71 15)
    ∷ (field_answer signature Start 0 record_d, at 88 15)
    ∷ (field_answer signature End 0 record_d, at 105 15)
    ∷ (field_answer signature PictureType 0 record_d, at 124 3)
    ∷ (field_answer signature PictureData 0 record_d, at 129 2)
    ∷ (field_answer signature SealCustomId 0 record_d, at 144 2)
    ∷ (field_answer signature SealCustomValue 0 record_d, at 151 1)
    ∷ (field_answer signature SealCustomId 1 record_d, at 156 2)
    ∷ (field_answer signature SealCustomValue 1 record_d, at 160 0)
    ∷ (field_answer signature MakerCertificate 0 record_d, at 162 2)
    ∷ (field_answer signature SealAlgorithm 0 record_d, at 166 8)
    ∷ (field_answer signature SealSignedValue 0 record_d, at 177 2)
    ∷ (field_answer signature SigningTime 0 record_d, at 181 15)
    ∷ (field_answer signature OriginalDigest 0 record_d, at 199 3)
    ∷ (field_answer signature PropertyText 0 record_d, at 204 6)
    ∷ (field_answer signature SignedCustomId 0 record_d, at 218 2)
    ∷ (field_answer signature SignedCustomValue 0 record_d, at 225 2)
    ∷ (field_answer signature SignerCertificate 0 record_d, at 229 1)
    ∷ (field_answer signature SignatureAlgorithm 0 record_d, at 232 9)
    ∷ (field_answer signature SignatureValue 0 record_d, at 244 2)
    ∷ (field_answer signature Stamp 0 record_d, at 251 3)
    ∷ (field_answer signature ListedCertificate 0 record_s, at 41 1)
    ∷ (field_answer signature ListedCertificate 1 record_s, told_none absent)
    ∷ (field_answer signature ListedCertificate 1 twice, at 44 1)
    ∷ (field_answer signature SealCustomValue 2 record_d, told_none absent)
    -- "Integers and critical come as values."; a structure that is not signed, and a list, has no section
    ∷ (field_answer signature Header 0 record_d, told_none absent)
    ∷ (field_answer signature Property 0 record_d, told_none absent)
    ∷ (field_answer signature SealType 0 record_d, told_none absent)
    ∷ (field_answer signature ListKind 0 record_d, told_none absent)
    ∷ (field_answer signature CertificateList 0 record_d, told_none absent)
    ∷ (field_answer signature ListedEntry 0 record_d, told_none absent)
    ∷ (field_answer signature Picture 0 record_d, told_none absent)
    ∷ (field_answer signature Width 0 record_d, told_none absent)
    ∷ (field_answer signature Height 0 record_d, told_none absent)
    ∷ (field_answer signature SealCustomData 0 record_d, told_none absent)
    ∷ (field_answer signature SealCustomItem 0 record_d, told_none absent)
    ∷ (field_answer signature SealCustomCritical 0 record_d, told_none absent)
    ∷ (field_answer signature Seal 0 record_d, told_none absent)
    ∷ (field_answer signature SignedCustomData 0 record_d, told_none absent)
    ∷ (field_answer signature SignedCustomItem 0 record_d, told_none absent)
    ∷ (field_answer signature SignedCustomCritical 0 record_d, told_none absent)
    -- a seal by itself: its places count from its own start, and it has no field of the signed part
    ∷ (field_answer seal SealInformation 0 seal_d, at 3 148)
    ∷ (field_answer seal SealSignedValue 0 seal_d, at 168 2)
    ∷ (field_answer seal SigningTime 0 seal_d, told_none absent)
    -- "given record and digest, the first equal entry in the record"; PrintableStrings are not compared, and no bytes equal nothing
    ∷ (match_answer signature (0xAA ∷ []) twice, at 41 1)
    ∷ (match_answer signature (0xD1 ∷ 0xD2 ∷ []) record_d, at 58 2)
    ∷ (match_answer signature (0xD1 ∷ []) record_d, told_none absent)
    ∷ (match_answer signature (0x42 ∷ 0x6F ∷ []) record_d, told_none absent)
    ∷ (match_answer signature [] record_d, told_none absent)
    ∷ (match_answer seal (0xD3 ∷ []) seal_d, at 59 1)
    ∷ (match_answer signature (0xAA ∷ []) [], refusal ItemMissing 0)
    ∷ []

parts_of_D : asks parts_d ≡ answers parts_d
unfolding evaluate
parts_of_D = agreed parts_d tt

-- the code's answers in numbers: 0 for what is there, 254 for what is absent (03, 42), a refusal with its own
abbrev tellings : List Row
tellings =
    (told_part (Ok (Some (part 26 4))), gives 0 (pos 26 ∷ pos 4 ∷ []))
    ∷ (told_part (Ok None), gives 254 [])
    ∷ (told_part (refused BadLength 7), refuses 3 (pos 7 ∷ []))
    ∷ (told_number (Ok (Some (negsuc 2))), gives 0 (negsuc 2 ∷ []))
    ∷ (told_number (Ok None), gives 254 [])
    ∷ (told_number (refused BadLength 7), refuses 3 (pos 7 ∷ []))
    ∷ (told_is (Ok (Some true)), gives 0 (pos 1 ∷ []))
    ∷ (told_is (Ok (Some false)), gives 0 (pos 0 ∷ []))
    ∷ (told_is (Ok None), gives 254 [])
    ∷ (told_is (refused BadLength 7), refuses 3 (pos 7 ∷ []))
    ∷ (told_items (Ok (Some 2)), gives 0 (pos 2 ∷ []))
    ∷ (told_items (Ok None), gives 254 [])
    ∷ (told_items (refused BadLength 7), refuses 3 (pos 7 ∷ []))
    ∷ []

told-answers : asks tellings ≡ answers tellings
unfolding evaluate
told-answers = agreed tellings tt

-- "With a refusal, an absent field or no match, the part is empty, at the record's start"
handings : handed_out (field_in signature Vendor 0 record_d) ∷ handed_out (field_in signature Stamp 0 record_s) ∷ handed_out (field_in signature Vendor 0 (0x30 ∷ 0x80 ∷ [])) ∷ [] ≡ (26, 4) ∷ (0, 0) ∷ (0, 0) ∷ []
unfolding evaluate
handings = refl
