-- Records, refused with each number that a record can get, and at its place. The expected answers are document 01's. Assumes nothing.
use Rattle.std.specs.Prelude.{pos, ◌≡◌, ℕ, suc, zero, List, [], ◌∷◌, ◌++◌, set, take, drop}
use Rattle.terms.specs.declared.Field.TheVariants.{CertificateList, ListedType, ListedDigest}
use Rattle.terms.specs.Numbers.{done}
use Rattle.terms.specs.declared.Reason.TheVariants.{ItemMissing, OtherTag, BadLength, PastEnd, LeftOver, BadInteger, NotAllowed, NotEs, BadCharacter, BadTime, BadIdentifier, BadBits, BadBoolean, NoBytes, NoItem, TooManyItems, TooLarge}
use Rattle.terms.specs.Answer.{refuses, Told, told_one, told_two, refusal}
use Rattle.terms.specs.Laws.Table.{Row, asks, answers, agreed}
use Rattle.records.specs.Record.{seal, signature}
use Rattle.records.specs.Handing.{record_answer, fill_answer, write_answer, field_answer, count_answer}
use Rattle.records.specs.Samples.{record_s, record_d}
use Rattle.records.specs.Examples.{evaluate}

-- the answer to a signature record
abbrev gets : List ℕ → Told
gets w = record_answer signature w

-- ---- S and D with a byte changed, in the order of the numbers

abbrev damaged : List Row
damaged =
    -- 1, "the encloser or input ends where an item must begin; place: that end"
    (gets (0x30 ∷ 0x00 ∷ []), refusal ItemMissing 2)
    ∷ (gets (0x30 ∷ 0x02 ∷ 0x30 ∷ 0x00 ∷ []), refusal ItemMissing 4)
    -- a signed part that ends after its version, and a byte more in the record
    ∷ (gets (0x30 ∷ 0x06 ∷ 0x30 ∷ 0x03 ∷ 0x02 ∷ 0x01 ∷ 0x04 ∷ 0x30 ∷ []), refusal ItemMissing 7)
    -- 2, "another tag than the required one": the record's, the seal id's, the stamp's inside its [0]
    ∷ (gets (set record_s 0 0x31), refusal OtherTag 0)
    ∷ (gets (set record_s 24 0x0C), refusal OtherTag 24)
    ∷ (gets (set record_d 248 0x04), refusal OtherTag 248)
    -- 3, "length missing, cut or not a form above": 30; 81; 82 and one byte; 81 7F; 82 00 FF; 83; and where the encloser cuts it
    ∷ (gets (0x30 ∷ []), refusal BadLength 0)
    ∷ (gets (0x30 ∷ 0x81 ∷ []), refusal BadLength 0)
    ∷ (gets (0x30 ∷ 0x82 ∷ 0x01 ∷ []), refusal BadLength 0)
    ∷ (gets (0x30 ∷ 0x81 ∷ 0x7F ∷ []), refusal BadLength 0)
    ∷ (gets (0x30 ∷ 0x82 ∷ 0x00 ∷ 0xFF ∷ []), refusal BadLength 0)
    ∷ (gets (0x30 ∷ 0x83 ∷ 0x00 ∷ 0x01 ∷ 0x00 ∷ []), refusal BadLength 0)
    ∷ (gets (0x30 ∷ 0x01 ∷ 0x30 ∷ 0x00 ∷ []), refusal BadLength 2)
    -- 4, "content passes the encloser's end, or the input's": S cut by a byte, its signed part a byte too long for it, the last string of its signed part
    ∷ (gets (take 164 record_s), refusal PastEnd 0)
    ∷ (gets (set record_s 5 0xA0), refusal PastEnd 3)
    ∷ (gets (set record_s 146 0x02), refusal PastEnd 145)
    -- 5, "bytes left after the last item; place: the first": header, [0] and record
    ∷ (gets (set record_d 25 0x03), refusal LeftOver 29)
    ∷ (gets (set record_d 249 0x03), refusal LeftOver 253)
    ∷ (gets (record_d ++ 0x00 ∷ []), refusal LeftOver 254)
    -- 6, "integer empty, over 8 bytes or not shortest": the type, a width of 00 2C, and 6 before 7 in the list kind
    ∷ (gets (set record_s 30 0x00), refusal BadInteger 29)
    ∷ (gets (set record_d 133 0x00), refusal BadInteger 131)
    ∷ (gets (set record_s 35 0x00), refusal BadInteger 34)
    -- 7, "version, list kind, width or height not allowed"
    ∷ (gets (set record_s 8 0x05), refusal NotAllowed 6)
    ∷ (gets (set record_s 21 0x05), refusal NotAllowed 19)
    ∷ (gets (set record_s 36 0x03), refusal NotAllowed 34)
    ∷ (gets (set record_s 103 0x00), refusal NotAllowed 101)
    ∷ (gets (set record_s 106 0xFF), refusal NotAllowed 104)
    -- 8, "header name not "ES"": "EX"; 9 goes before it
    ∷ (gets (set record_s 18 0x58), refusal NotEs 15)
    ∷ (gets (set record_s 18 0xD3), refusal BadCharacter 15)
    -- 9, "byte outside the string's alphabet or bad UTF-8": vendor, seal id, name, PrintableString, picture type, property text
    ∷ (gets (set record_d 29 0x80), refusal BadCharacter 24)
    ∷ (gets (set record_s 26 0x80), refusal BadCharacter 24)
    ∷ (gets (set record_d 43 0x41), refusal BadCharacter 39)
    ∷ (gets (set record_d 64 0x40), refusal BadCharacter 62)
    ∷ (gets (set record_d 124 0xD0), refusal BadCharacter 122)
    ∷ (gets (set record_s 147 0x80), refusal BadCharacter 145)
    -- 10: created in month 21, the end of S on the thirty-second, a start of no bytes, a signing time without its Z
    ∷ (gets (set record_s 48 0x32), refusal BadTime 42)
    ∷ (gets (set record_s 85 0x32), refusal BadTime 76)
    ∷ (gets (set record_s 60 0x00), refusal BadTime 59)
    ∷ (gets (set record_s 125 0x0E), refusal BadTime 124)
    -- 11: a last byte above 80, a part that begins with 80, no bytes
    ∷ (gets (set record_s 119 0xF5), refusal BadIdentifier 110)
    ∷ (gets (set record_d 233 0x80), refusal BadIdentifier 230)
    ∷ (gets (set record_d 143 0x00), refusal BadIdentifier 142)
    -- 12, "bit string empty, or first byte not 00"; 12 before 14
    ∷ (gets (set record_s 122 0x01), refusal BadBits 120)
    ∷ (gets (set record_s 162 0x00), refusal BadBits 161)
    ∷ (gets (set record_d 250 0x07), refusal BadBits 248)
    -- 13, "BOOLEAN not FF alone": 01, and no bytes
    ∷ (gets (set record_d 148 0x01), refusal BadBoolean 146)
    ∷ (gets (set record_d 221 0x00), refusal BadBoolean 220)
    -- 14, "no bytes where some are needed": header name, seal id, certificate, picture data, maker, signed value, property text, signer
    ∷ (gets (set record_s 16 0x00), refusal NoBytes 15)
    ∷ (gets (set record_s 25 0x00), refusal NoBytes 24)
    ∷ (gets (set record_s 40 0x00), refusal NoBytes 39)
    ∷ (gets (set record_s 99 0x00), refusal NoBytes 98)
    ∷ (gets (set record_s 108 0x00), refusal NoBytes 107)
    ∷ (gets (set record_s 121 0x01), refusal NoBytes 120)
    ∷ (gets (set record_s 146 0x00), refusal NoBytes 145)
    ∷ (gets (set record_s 149 0x00), refusal NoBytes 148)
    -- 17, "outermost record over 65,535 bytes; place 0": by the declared size, before 4; a seal inside is not outermost
    ∷ (gets (0x30 ∷ 0x82 ∷ 0xFF ∷ 0xFC ∷ []), refusal TooLarge 0)
    ∷ (gets (0x30 ∷ 0x82 ∷ 0xFF ∷ 0xFF ∷ []), refusal TooLarge 0)
    ∷ (gets (0x30 ∷ 0x82 ∷ 0xFF ∷ 0xFB ∷ []), refusal PastEnd 0)
    ∷ (gets (0x30 ∷ 0x04 ∷ 0x30 ∷ 0x82 ∷ 0xFF ∷ 0xFC ∷ []), refusal PastEnd 2)
    ∷ (record_answer seal (0x30 ∷ 0x82 ∷ 0xFF ∷ 0xFC ∷ []), refusal TooLarge 0)
    ∷ []

damaged_records : asks damaged ≡ answers damaged
unfolding evaluate
damaged_records = agreed damaged tt

-- ---- optional items

-- "An optional item is absent if nothing is left or another tag stands there; what stands there then gets 5 in seal information, signed part and record,
-- and, unless it is the value, 2 in custom items."
abbrev optionals : List Row
optionals =
    (gets (set record_d 138 0x31), refusal LeftOver 138)
    ∷ (gets (set record_d 210 0xA1), refusal LeftOver 210)
    ∷ (gets (set record_d 246 0xA1), refusal LeftOver 246)
    ∷ (gets (set record_d 146 0x02), refusal OtherTag 146)
    -- the right tag alone makes it present, whatever is wrong behind it
    ∷ (gets (set record_d 139 0x80), refusal BadLength 138)
    ∷ (gets (set record_d 211 0x80), refusal BadLength 210)
    ∷ (gets (set record_d 247 0x80), refusal BadLength 246)
    ∷ (gets (set record_d 147 0x02), refusal BadBoolean 146)
    -- a custom item that ends after its identifier, and after its critical
    ∷ (gets (set record_d 141 0x04), refusal ItemMissing 146)
    ∷ (gets (set record_d 141 0x07), refusal ItemMissing 149)
    ∷ []

optional_items : asks optionals ≡ answers optionals
unfolding evaluate
optional_items = agreed optionals tt

-- ---- a list's items

abbrev certificates_aa : ℕ → List ℕ
certificates_aa zero = []
certificates_aa (suc n) = 0x04 ∷ 0x01 ∷ 0xAA ∷ certificates_aa n

-- S's header and seal id, its type, name and list kind, and what stands behind its list
abbrev before_property : List ℕ
before_property = take 14 (drop 13 record_s)

abbrev before_list : List ℕ
before_list = take 8 (drop 29 record_s)

abbrev behind_list : List ℕ
behind_list = drop 42 record_s

-- S with a list of none: each length around it is 3 less
abbrev pub list_of0 : List ℕ
list_of0 =
    0x30 ∷ 0x81 ∷ 0x9F ∷ 0x30 ∷ 0x81 ∷ 0x8B ∷ 0x02 ∷ 0x01 ∷ 0x04
    ∷ 0x30 ∷ 0x6E ∷ 0x30 ∷ 0x5B ∷ before_property
    ++ 0x30 ∷ 0x3D ∷ before_list
    ++ 0x30 ∷ 0x00 ∷ behind_list

-- S with kind 2 and a digest under an empty PrintableString: each length around it is 4 more
abbrev unnamed : List ℕ
unnamed =
    0x30 ∷ 0x81 ∷ 0xA6 ∷ 0x30 ∷ 0x81 ∷ 0x92 ∷ 0x02 ∷ 0x01 ∷ 0x04
    ∷ 0x30 ∷ 0x75 ∷ 0x30 ∷ 0x62 ∷ before_property
    ++ 0x30 ∷ 0x44 ∷ set before_list 7 0x02
    ++ 0x30 ∷ 0x07 ∷ 0x30 ∷ 0x05 ∷ 0x13 ∷ 0x00 ∷ 0x04 ∷ 0x01 ∷ 0xAA ∷ behind_list

-- S with a list of 64: the list has 192 bytes, the property 254, the seal information 285, the seal 306, the signed part 337, the record 358
abbrev list_of64 : List ℕ
list_of64 =
    0x30 ∷ 0x82 ∷ 0x01 ∷ 0x66 ∷ 0x30 ∷ 0x82 ∷ 0x01 ∷ 0x51 ∷ 0x02 ∷ 0x01 ∷ 0x04
    ∷ 0x30 ∷ 0x82 ∷ 0x01 ∷ 0x32 ∷ 0x30 ∷ 0x82 ∷ 0x01 ∷ 0x1D ∷ before_property
    ++ 0x30 ∷ 0x81 ∷ 0xFE ∷ before_list
    ++ 0x30 ∷ 0x81 ∷ 0xC0 ∷ certificates_aa 64 ++ behind_list

-- S with a list of 64 and an item of three bytes more: 195, 257, 289, 310, 341, 362
abbrev pub list_of65 : List ℕ → List ℕ
list_of65 last =
    0x30 ∷ 0x82 ∷ 0x01 ∷ 0x6A ∷ 0x30 ∷ 0x82 ∷ 0x01 ∷ 0x55 ∷ 0x02 ∷ 0x01 ∷ 0x04
    ∷ 0x30 ∷ 0x82 ∷ 0x01 ∷ 0x36 ∷ 0x30 ∷ 0x82 ∷ 0x01 ∷ 0x21 ∷ before_property
    ++ 0x30 ∷ 0x82 ∷ 0x01 ∷ 0x01 ∷ before_list
    ++ 0x30 ∷ 0x81 ∷ 0xC3 ∷ certificates_aa 64 ++ last ++ behind_list

-- "Certificate list, SEQUENCE of 1 to 64 items." 15 at its tag; 16, "a 65th item in a list, of any tag; place: its tag", before its 3 and 4
abbrev lists : List Row
lists =
    (gets list_of0, refusal NoItem 37)
    -- "May have no bytes: .. digest's PrintableString"
    ∷ (gets unnamed, told_one done 169)
    ∷ (field_answer signature ListedType 0 unnamed, told_two done 43 0)
    ∷ (field_answer signature ListedDigest 0 unnamed, told_two done 45 1)
    ∷ (gets list_of64, told_one done 362)
    ∷ (count_answer signature CertificateList list_of64, told_one done 64)
    ∷ (gets (list_of65 (0x04 ∷ 0x01 ∷ 0xAA ∷ [])), refusal TooManyItems 240)
    ∷ (gets (list_of65 (0x05 ∷ 0x01 ∷ 0xAA ∷ [])), refusal TooManyItems 240)
    ∷ (gets (list_of65 (0x04 ∷ 0x80 ∷ 0xAA ∷ [])), refusal TooManyItems 240)
    ∷ (gets (list_of65 (0x04 ∷ 0x7F ∷ 0xAA ∷ [])), refusal TooManyItems 240)
    -- a fault in one of the 64 goes before
    ∷ (gets (set (list_of65 (0x04 ∷ 0x01 ∷ 0xAA ∷ [])) 237 0x05), refusal OtherTag 237)
    ∷ []

list_items : asks lists ≡ answers lists
unfolding evaluate
list_items = agreed lists tt

-- ---- the table of refusal numbers, a record for each, by the number that stands there

abbrev numbered : List Row
numbered =
    (gets [], refuses 1 (pos 0 ∷ []))
    ∷ (gets (0x00 ∷ []), refuses 2 (pos 0 ∷ []))
    ∷ (gets (0x30 ∷ 0x80 ∷ []), refuses 3 (pos 0 ∷ []))
    ∷ (gets (0x30 ∷ 0x01 ∷ []), refuses 4 (pos 0 ∷ []))
    ∷ (gets (record_s ++ 0x00 ∷ []), refuses 5 (pos 165 ∷ []))
    ∷ (gets (set record_s 30 0x00), refuses 6 (pos 29 ∷ []))
    ∷ (gets (set record_s 36 0x03), refuses 7 (pos 34 ∷ []))
    ∷ (gets (set record_s 18 0x58), refuses 8 (pos 15 ∷ []))
    ∷ (gets (set record_s 26 0x80), refuses 9 (pos 24 ∷ []))
    ∷ (gets (set record_s 48 0x32), refuses 10 (pos 42 ∷ []))
    ∷ (gets (set record_s 119 0xF5), refuses 11 (pos 110 ∷ []))
    ∷ (gets (set record_s 122 0x01), refuses 12 (pos 120 ∷ []))
    ∷ (gets (set record_d 148 0x00), refuses 13 (pos 146 ∷ []))
    ∷ (gets (set record_s 25 0x00), refuses 14 (pos 24 ∷ []))
    ∷ (gets list_of0, refuses 15 (pos 37 ∷ []))
    ∷ (gets (list_of65 (0x04 ∷ 0x01 ∷ 0xAA ∷ [])), refuses 16 (pos 240 ∷ []))
    ∷ (gets (0x30 ∷ 0x82 ∷ 0xFF ∷ 0xFC ∷ []), refuses 17 (pos 0 ∷ []))
    ∷ (write_answer signature [] [], refuses 19 (pos 0 ∷ []))
    ∷ (fill_answer signature record_s [], refuses 20 (pos 222 ∷ []))
    ∷ []

numbered_refusals : asks numbered ≡ answers numbered
unfolding evaluate
numbered_refusals = agreed numbered tt
