-- What a refusal is about, and the fields that were passed before it: records S and D, and others made of them, each with a fault. Assumes nothing.
use Rattle.std.specs.Prelude.{◌≡◌, refl, ℕ, List, [], ◌∷◌, ◌++◌, set}
use Rattle.terms.specs.declared.Field.{Field}
use Rattle.terms.specs.declared.Field.TheVariants.{SealInformation, Header, Vendor, SealId, Property, SealType, SealName, ListKind, CertificateList, ListedCertificate, ListedEntry, ListedType, ListedDigest, SealCustomCritical, SealCustomValue, SignedPart, Seal, SigningTime, PropertyText, SignedCustomCritical, Stamp}
use Rattle.terms.specs.Numbers.{largest_record}
use Rattle.layouts.specs.Fields.{Entry}
use Rattle.layouts.specs.About.{about_many, about, record_about}
use Rattle.layouts.specs.Passed.{passed_leaf, passed_many, passed, record_passed}
use Rattle.layouts.specs.declared.Whose.{Whose}
use Rattle.layouts.specs.declared.Whose.TheVariants.{Nothing, Record, Field as field}
use Rattle.records.specs.Record.{signature}
use Rattle.records.specs.Samples.{record_s, record_d}
use Rattle.records.specs.Examples.{evaluate}
use Rattle.records.specs.Examples.Refusals.{list_of0, list_of65}

-- a signature record, and whose fault its refusal is
abbrev faults : List (List ℕ × Whose)
faults =
    -- an accepted record; the outermost head; 17; bytes after the record, and in it
    (record_s, Nothing)
    ∷ (set record_s 0 0x31, Record)
    ∷ (0x30 ∷ 0x82 ∷ 0xFF ∷ 0xFC ∷ [], Record)
    ∷ (record_s ++ 0x00 ∷ [], Record)
    ∷ (set record_d 246 0xA1, Record)
    -- a missing item: the signed part, the seal in it, a custom item's value
    ∷ (0x30 ∷ 0x00 ∷ [], field SignedPart)
    ∷ (0x30 ∷ 0x06 ∷ 0x30 ∷ 0x03 ∷ 0x02 ∷ 0x01 ∷ 0x04 ∷ 0x30 ∷ [], field Seal)
    ∷ (set record_d 141 0x07, field SealCustomValue)
    -- a head: the signed part's, the seal id's, the list's of each kind, the stamp's [0] and what stands in it
    ∷ (set record_s 5 0xA0, field SignedPart)
    ∷ (set record_s 24 0x0C, field SealId)
    ∷ (set record_s 37 0x31, field CertificateList)
    ∷ (set record_d 47 0x31, field CertificateList)
    ∷ (set record_d 247 0x80, field Stamp)
    ∷ (set record_d 248 0x04, field Stamp)
    -- an item's own rule: the list kind, a certificate, a PrintableString, critical, also inside [0], the signing time, the text
    ∷ (set record_s 36 0x03, field ListKind)
    ∷ (set record_s 40 0x00, field ListedCertificate)
    ∷ (set record_d 64 0x40, field ListedType)
    ∷ (set record_d 148 0x01, field SealCustomCritical)
    ∷ (set record_d 221 0x00, field SignedCustomCritical)
    ∷ (set record_s 125 0x0E, field SigningTime)
    ∷ (set record_s 147 0x80, field PropertyText)
    -- an item of one content: the two versions and "ES"
    ∷ (set record_s 8 0x05, field SignedPart)
    ∷ (set record_s 21 0x05, field Header)
    ∷ (set record_s 18 0x58, field Header)
    -- bytes left over: in the header, the seal information, the signed part, and the stamp's [0]
    ∷ (set record_d 25 0x03, field Header)
    ∷ (set record_d 138 0x31, field SealInformation)
    ∷ (set record_d 210 0xA1, field SignedPart)
    ∷ (set record_d 249 0x03, field Stamp)
    -- a list with no item, and with one too many, of any tag; a fault in one of its items goes before
    ∷ (list_of0, field CertificateList)
    ∷ (list_of65 (0x04 ∷ 0x01 ∷ 0xAA ∷ []), field CertificateList)
    ∷ (list_of65 (0x05 ∷ 0x01 ∷ 0xAA ∷ []), field CertificateList)
    ∷ (set (list_of65 (0x04 ∷ 0x01 ∷ 0xAA ∷ [])) 237 0x05, field ListedCertificate)
    ∷ []

abbrev found : List (List ℕ × Whose) → List Whose
found [] = []
found (x ∷ xs) = record_about largest_record signature x.0 ∷ found xs

abbrev expected : List (List ℕ × Whose) → List Whose
expected [] = []
expected (x ∷ xs) = x.1 ∷ expected xs

whose_faults : found faults ≡ expected faults
unfolding evaluate about about_many record_about
whose_faults = refl

-- 17 goes before what stands in the record: S has 165 bytes
when_too_large : record_about 164 signature record_s ∷ record_about 164 signature (set record_s 24 0x0C) ∷ record_about 165 signature (set record_s 24 0x0C) ∷ [] ≡ Record ∷ Record ∷ field SealId ∷ []
unfolding evaluate about about_many record_about
when_too_large = refl

-- ---- the fields before a fault

abbrev names_in : List Entry → List Field
names_in [] = []
names_in (x ∷ xs) = x.name ∷ names_in xs

-- the second entry of D's list has a PrintableString that is none: the entry's head was read, the list is not over
before-the-second-entry : names_in (record_passed largest_record signature (set record_d 64 0x40))
    ≡ SignedPart ∷ Seal ∷ SealInformation ∷ Header ∷ Vendor ∷ SealId ∷ Property ∷ SealType ∷ SealName ∷ ListKind ∷ ListedEntry ∷ ListedType ∷ ListedDigest ∷ ListedEntry ∷ []
unfolding evaluate passed passed_leaf passed_many record_passed
before-the-second-entry = refl

-- nothing stands before a head of another tag
before_the_record : record_passed largest_record signature (set record_s 0 0x31) ≡ []
unfolding evaluate passed passed_leaf passed_many record_passed
before_the_record = refl
