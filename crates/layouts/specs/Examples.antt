-- A small layout with an optional list, a choice and a flag, and a list of such, evaluated. Assumes nothing.
use Rattle.std.specs.Prelude.{◌≡◌, refl, ℕ, true, List, [], ◌∷◌, ◌++◌, length, replicate, set, take, drop, Ok, pos}
use Rattle.terms.specs.declared.Field.{Field}
use Rattle.terms.specs.declared.Field.TheVariants.{Header, Property, ListKind, CertificateList, ListedEntry, ListedDigest, SealCustomData, SealCustomItem, SealCustomCritical, Stamp}
use Rattle.terms.specs.Numbers.{done}
use Rattle.terms.specs.declared.Reason.TheVariants.{OtherTag, BadBoolean, LeftOver, BadBits, NoBytes, TooManyItems, TooLarge, BadSheet, NoRoom}
use Rattle.terms.specs.Answer.{good, pick, bind, need, have, every, enough, same, finish, Told, told_one, refusal, refuses, answered, never_empty, refused}
use Rattle.terms.specs.Digits.{digits, number_from, number, leading}
use Rattle.terms.specs.Laws.Table.{Row, asks, answers, same_number, same_numbers, same_told, agree, agreed}
use Rattle.heads.specs.Head.{spell, octets, tlv, unspell, any_size, is_shortest, size, opening, cut, head, outermost}
use Rattle.contents.specs.Content.{ask, place_of, judge}
use Rattle.contents.specs.Rules.{octets_rule, boolean_rule}
use Rattle.contents.specs.Leaves.{octet_string, bit_string}
use Rattle.layouts.specs.Layout.{Members, end, ◌▸◌, leaf, node, list, wrap, one, maybe, flag, choose, each, option, either, encode_leaf, critical, encode}
use Rattle.layouts.specs.Reading.{behind, read_leaf, begins, many, read_option, read_flag, read_either, read}
use Rattle.layouts.specs.Sheet.{count, section, critical_byte, sheet_option, sheet_list, sheet, read_count, read_section, fill_leaf, times, critical_in, fill_flag, fill_option, fill_list, fill}
use Rattle.layouts.specs.Whole.{sequence, record_of, record_at, accept, accept_sheet, fit, fill_sheet, write_record, stored, told_outcome}
use Rattle.layouts.specs.Fields.{Entry, list_entry, each_fields, option_fields, either_fields, flag_fields, item_fields, fields}
use Rattle.layouts.specs.Passed.{passed_leaf, passed_many, passed, record_passed}
use Rattle.layouts.specs.Places.{table_size, slot, under, wanted}

evaluate : Unit {0}
unfolding pick bind need have every enough same same_number same_numbers same_told agree digits number_from leading spell octets tlv unspell any_size is_shortest size opening cut head outermost ask place_of judge octets_rule boolean_rule each option either encode_leaf critical encode behind read_leaf begins finish many read_option read_flag read_either read count section critical_byte sheet_option sheet_list sheet read_count read_section fill_leaf times critical_in fill_flag fill_option fill_list fill record_at accept accept_sheet fit fill_sheet write_record stored
evaluate = tt

-- an octet string, by which a second one or a SEQUENCE of one follows, then a flag, then up to two octet strings in a list, optional
abbrev small : Members
small =
    choose ListKind (octet_string never_empty) (λ c. same c (0x01 ∷ [])) CertificateList (leaf (octet_string never_empty)) (node sequence (one ListedDigest (leaf (octet_string never_empty)) ▸ end))
    ▸ flag SealCustomCritical ▸ maybe SealCustomData (list sequence true 2 SealCustomItem (leaf (octet_string never_empty))) ▸ end

abbrev accepted : List ℕ → Told
accepted w = answered (λ v. length (record_of small v)) (accept 100 small w)

-- the bytes of a sheet that a record of at most `most` bytes fills, into `room`
abbrev filled_at_most : ℕ → List ℕ → ℕ → Told
filled_at_most most w room = answered (λ x. length x) (fill_sheet most small w room)

abbrev filled : List ℕ → Told
filled w = filled_at_most 100 w 100

-- a record whose first string is 01, and what stands behind its second
abbrev of1 : ℕ → List ℕ → List ℕ
of1 n more = 0x30 ∷ n ∷ 0x04 ∷ 0x01 ∷ 0x01 ∷ 0x04 ∷ 0x01 ∷ 0xAA ∷ more

abbrev rows : List Row
rows =
    (accepted (of1 6 []), told_one done 8)
    -- the kind decides, not the tag that stands there
    ∷ (accepted (0x30 ∷ 8 ∷ 0x04 ∷ 0x01 ∷ 0x02 ∷ 0x30 ∷ 0x03 ∷ 0x04 ∷ 0x01 ∷ 0xAA ∷ []), told_one done 10)
    ∷ (accepted (0x30 ∷ 8 ∷ 0x04 ∷ 0x01 ∷ 0x01 ∷ 0x30 ∷ 0x03 ∷ 0x04 ∷ 0x01 ∷ 0xAA ∷ []), refusal OtherTag 5)
    ∷ (accepted (0x30 ∷ 6 ∷ 0x04 ∷ 0x01 ∷ 0x02 ∷ 0x04 ∷ 0x01 ∷ 0xAA ∷ []), refusal OtherTag 5)
    -- a flag: there, absent, written out as false, there twice
    ∷ (accepted (of1 9 (0x01 ∷ 0x01 ∷ 0xFF ∷ [])), told_one done 11)
    ∷ (accepted (of1 9 (0x01 ∷ 0x01 ∷ 0x00 ∷ [])), refusal BadBoolean 8)
    ∷ (accepted (of1 12 (0x01 ∷ 0x01 ∷ 0xFF ∷ 0x01 ∷ 0x01 ∷ 0xFF ∷ [])), refusal LeftOver 11)
    -- an optional list: with no items, with a third one
    ∷ (accepted (of1 8 (0x30 ∷ 0x00 ∷ [])), told_one done 10)
    ∷ (accepted (of1 17 (0x30 ∷ 0x09 ∷ 0x04 ∷ 0x01 ∷ 0x01 ∷ 0x04 ∷ 0x01 ∷ 0x02 ∷ 0x05 ∷ 0x01 ∷ 0x03 ∷ [])), refusal TooManyItems 16)
    -- absent and empty have different sheets: 5 + 5 + 5 + 4, and one count more
    ∷ (filled (of1 6 []), told_one done 19)
    ∷ (filled (of1 8 (0x30 ∷ 0x00 ∷ [])), told_one done 23)
    -- "A reader that fills a sheet gives 20 after all else."
    ∷ (filled_at_most 8 (of1 6 []) 19, told_one done 19)
    ∷ (filled_at_most 8 (of1 6 []) 18, refusal NoRoom 19)
    ∷ (filled_at_most 7 (of1 6 []) 18, refusal TooLarge 0)
    -- the code's answer in numbers
    ∷ (told_outcome (Ok 165), told_one 0 165)
    ∷ (told_outcome (refused LeftOver 165), refuses 5 (pos 165 ∷ []))
    ∷ []

small_records : asks rows ≡ answers rows
unfolding evaluate
small_records = agreed rows tt

-- ---- a bit string: 12 before 14; its value is what stands behind its 00

abbrev bits_of : List ℕ → Told
bits_of w = answered (λ a. number 256 a.value) (read (leaf bit_string) w 0)

abbrev bit_strings : List Row
bit_strings =
    (bits_of (0x03 ∷ 0x02 ∷ 0x00 ∷ 0xCC ∷ []), told_one done 0xCC)
    ∷ (bits_of (0x03 ∷ 0x03 ∷ 0x00 ∷ 0x00 ∷ 0x01 ∷ []), told_one done 0x01)
    ∷ (bits_of (0x03 ∷ 0x00 ∷ []), refusal BadBits 0)
    ∷ (bits_of (0x03 ∷ 0x01 ∷ 0x01 ∷ []), refusal BadBits 0)
    ∷ (bits_of (0x03 ∷ 0x02 ∷ 0x08 ∷ 0xCC ∷ []), refusal BadBits 0)
    ∷ (bits_of (0x03 ∷ 0x01 ∷ 0x00 ∷ []), refusal NoBytes 0)
    ∷ []

bit-strings : asks bit_strings ≡ answers bit_strings
unfolding evaluate
bit-strings = agreed bit_strings tt

-- ---- a sheet and its record, byte by byte

-- the flag, and a list of B1 and B2
abbrev full : List ℕ
full = of1 17 (0x01 ∷ 0x01 ∷ 0xFF ∷ 0x30 ∷ 0x06 ∷ 0x04 ∷ 0x01 ∷ 0xB1 ∷ 0x04 ∷ 0x01 ∷ 0xB2 ∷ [])

-- "each after its count, four bytes, big_endian", "critical, of one byte 0 or 1", "A list's count is its items", "An optional field has count 0 or 1"
abbrev full_sheet : List ℕ
full_sheet =
    0x00 ∷ 0x00 ∷ 0x00 ∷ 0x01 ∷ 0x01  -- the first string
    ∷ 0x00 ∷ 0x00 ∷ 0x00 ∷ 0x01 ∷ 0xAA  -- the second
    ∷ 0x00 ∷ 0x00 ∷ 0x00 ∷ 0x01 ∷ 0x01  -- the flag
    ∷ 0x00 ∷ 0x00 ∷ 0x00 ∷ 0x01  -- the optional list: present
    ∷ 0x00 ∷ 0x00 ∷ 0x00 ∷ 0x02  -- its two items
    ∷ 0x00 ∷ 0x00 ∷ 0x00 ∷ 0x01 ∷ 0xB1
    ∷ 0x00 ∷ 0x00 ∷ 0x00 ∷ 0x01 ∷ 0xB2
    ∷ []

-- no flag, no list
abbrev bare_sheet : List ℕ
bare_sheet = take 10 full_sheet ++ 0x00 ∷ 0x00 ∷ 0x00 ∷ 0x01 ∷ 0x00 ∷ 0x00 ∷ 0x00 ∷ 0x00 ∷ 0x00 ∷ []

big_endian : count 0x010203 ≡ 0x00 ∷ 0x01 ∷ 0x02 ∷ 0x03 ∷ []
unfolding evaluate
big_endian = refl

full-filled : fill_sheet 100 small full 33 ≡ good full_sheet
unfolding evaluate
full-filled = refl

full-written : write_record 100 small full_sheet 19 ≡ good full
unfolding evaluate
full-written = refl

bare-filled : fill_sheet 100 small (of1 6 []) 19 ≡ good bare_sheet
unfolding evaluate
bare-filled = refl

bare-written : write_record 100 small bare_sheet 8 ≡ good (of1 6 [])
unfolding evaluate
bare-written = refl

-- "on success only the reported number of first bytes changes"
front-stored : stored (write_record 100 small bare_sheet 10) (0x91 ∷ 0x92 ∷ 0x93 ∷ 0x94 ∷ 0x95 ∷ 0x96 ∷ 0x97 ∷ 0x98 ∷ 0x99 ∷ 0x9A ∷ []) ≡ of1 6 (0x99 ∷ 0x9A ∷ [])
unfolding evaluate
front-stored = refl

-- ---- a writer's answers

-- the bytes of a record that a sheet gives: at most `most`, into `room`
abbrev written : ℕ → List ℕ → ℕ → Told
written most x room = answered (λ w. length w) (write_record most small x room)

-- "A writer reads the whole sheet first, then 17, then 20."
abbrev writings : List Row
writings =
    (written 19 full_sheet 19, told_one done 19)
    ∷ (written 19 full_sheet 18, refusal NoRoom 19)
    ∷ (written 18 full_sheet 19, refusal TooLarge 0)
    ∷ (written 18 full_sheet 18, refusal TooLarge 0)
    ∷ (written 18 (full_sheet ++ 0x00 ∷ []) 18, refusal BadSheet 33)
    -- 19: cut, the flag's count and byte, the optional's count; 16 at the list's count
    ∷ (written 100 (take 32 full_sheet) 100, refusal BadSheet 28)
    ∷ (written 100 (take 22 full_sheet) 100, refusal BadSheet 19)
    ∷ (written 100 (set full_sheet 13 0x02) 100, refusal BadSheet 10)
    ∷ (written 100 (set full_sheet 14 0x02) 100, refusal BadSheet 10)
    ∷ (written 100 (set full_sheet 18 0x02) 100, refusal BadSheet 15)
    ∷ (written 100 (set full_sheet 22 0x03) 100, refusal TooManyItems 19)
    -- a second string of 65,536 bytes, whose length no record can have
    ∷ (written 65535 (take 5 bare_sheet ++ 0x00 ∷ 0x01 ∷ 0x00 ∷ 0x00 ∷ replicate 65536 0x5A ++ drop 10 bare_sheet) 100, refusal TooLarge 0)
    -- a list of none, and behind it what were its items
    ∷ (written 100 (set full_sheet 22 0x00) 100, refusal BadSheet 23)
    ∷ []

small-sheets : asks writings ≡ answers writings
unfolding evaluate
small-sheets = agreed writings tt

-- ---- the table of places: four numbers under each of 43 names, then the index that is wanted

places : under Header (0 ∷ 1 ∷ 2 ∷ 3 ∷ 4 ∷ 5 ∷ 6 ∷ 7 ∷ []) ++ slot Stamp ∷ wanted (replicate 172 0 ++ 9 ∷ []) ∷ table_size ∷ [] ≡ 4 ∷ 5 ∷ 6 ∷ 7 ∷ 168 ∷ 9 ∷ 173 ∷ []
unfolding under slot wanted
places = refl

-- ---- the fields that are passed

-- one to three items in a list, each a small record in [0]
abbrev nested : Members
nested = one Property (list sequence never_empty 3 ListedEntry (wrap 0xA0 (node sequence small))) ▸ end

abbrev three_items : List ℕ
three_items =
    0x30 ∷ 0x2D ∷ 0x30 ∷ 0x2B
    ∷ 0xA0 ∷ 0x08 ∷ 0x30 ∷ 0x06 ∷ 0x04 ∷ 0x01 ∷ 0x01 ∷ 0x04 ∷ 0x01 ∷ 0xAA
    ∷ 0xA0 ∷ 0x15 ∷ 0x30 ∷ 0x13 ∷ 0x04 ∷ 0x01 ∷ 0x02 ∷ 0x30 ∷ 0x03 ∷ 0x04 ∷ 0x01 ∷ 0xBB
    ∷ 0x01 ∷ 0x01 ∷ 0xFF
    ∷ 0x30 ∷ 0x06 ∷ 0x04 ∷ 0x01 ∷ 0xC1 ∷ 0x04 ∷ 0x01 ∷ 0xC2
    ∷ 0xA0 ∷ 0x08 ∷ 0x30 ∷ 0x06 ∷ 0x04 ∷ 0x01 ∷ 0x01 ∷ 0x04 ∷ 0x01 ∷ 0xAB ∷ []

-- a byte more in the last item's SEQUENCE
abbrev a_byte_more : List ℕ
a_byte_more = set (set (set (set three_items 1 0x2E) 3 0x2C) 38 0x09) 40 0x07 ++ 0x00 ∷ []

-- a field: its name, its index, where it starts, how many bytes it has, and of a list how many items
abbrev Standing : Type 0
Standing = Field × ℕ × ℕ × ℕ × ℕ

-- those of the items, the last of which has `n` bytes
abbrev in_items : ℕ → List Standing
in_items n =
    (ListedEntry, 0, 6, 8, 0) ∷ (ListKind, 0, 10, 1, 0) ∷ (CertificateList, 0, 13, 1, 0)
    ∷ (ListedEntry, 1, 16, 21, 0) ∷ (ListKind, 1, 20, 1, 0) ∷ (CertificateList, 1, 21, 5, 0) ∷ (ListedDigest, 1, 25, 1, 0)
    ∷ (SealCustomCritical, 1, 28, 1, 0)
    ∷ (SealCustomItem, 0, 33, 1, 0) ∷ (SealCustomItem, 1, 36, 1, 0) ∷ (SealCustomData, 1, 29, 8, 2)
    ∷ (ListedEntry, 2, 39, n, 0) ∷ (ListKind, 2, 43, 1, 0) ∷ (CertificateList, 2, 46, 1, 0) ∷ []

-- a record of at most so many bytes, and the fields that are passed in it
abbrev passings : List (Members × ℕ × List ℕ × List Standing)
passings =
    -- an accepted record; bytes left over in an item: the list is not over
    (nested, 100, three_items, in_items 8 ++ (Property, 0, 2, 45, 3) ∷ [])
    ∷ (nested, 100, a_byte_more, in_items 9)
    -- a list with no item, and with a third one; what is left over is no field
    ∷ (nested, 100, 0x30 ∷ 0x02 ∷ 0x30 ∷ 0x00 ∷ [], [])
    ∷ (small, 100, of1 17 (0x30 ∷ 0x09 ∷ 0x04 ∷ 0x01 ∷ 0x01 ∷ 0x04 ∷ 0x01 ∷ 0x02 ∷ 0x04 ∷ 0x01 ∷ 0x03 ∷ []), (ListKind, 0, 4, 1, 0) ∷ (CertificateList, 0, 7, 1, 0) ∷ (SealCustomItem, 0, 12, 1, 0) ∷ (SealCustomItem, 1, 15, 1, 0) ∷ [])
    ∷ (small, 100, of1 12 (0x01 ∷ 0x01 ∷ 0xFF ∷ 0x01 ∷ 0x01 ∷ 0xFF ∷ []), (ListKind, 0, 4, 1, 0) ∷ (CertificateList, 0, 7, 1, 0) ∷ (SealCustomCritical, 0, 10, 1, 0) ∷ [])
    -- a record that is too large
    ∷ (small, 7, of1 6 [], [])
    ∷ []

-- each with its own bytes in the record
abbrev standing : List ℕ → List Standing → List Entry
standing w [] = []
standing w (x ∷ xs) = list_entry x.0 x.1 x.2 (take x.3 (drop x.2 w)) x.4 ∷ standing w xs

abbrev found : List (Members × ℕ × List ℕ × List Standing) → List (List Entry)
found [] = []
found (x ∷ xs) = record_passed x.1 x.0 x.2 ∷ found xs

abbrev expected : List (Members × ℕ × List ℕ × List Standing) → List (List Entry)
expected [] = []
expected (x ∷ xs) = standing x.2 x.3 ∷ expected xs

fields-passed : found passings ≡ expected passings
unfolding evaluate each_fields option_fields either_fields flag_fields item_fields fields passed passed_leaf passed_many record_passed
fields-passed = refl
