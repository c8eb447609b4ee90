-- Sheets, evaluated: those of S and D byte by byte, each fault that a sheet can have, and what a destination holds after each answer.
-- The expected answers are document 01's. Assumes nothing.
use Rattle.std.specs.Prelude.{◌≡◌, refl, ℕ, List, [], ◌∷◌, ◌++◌, length, replicate, set, take, drop}
use Rattle.terms.specs.Numbers.{done}
use Rattle.terms.specs.declared.Reason.TheVariants.{BadLength, NotAllowed, BadCharacter, BadTime, BadIdentifier, NoBytes, NoItem, TooManyItems, TooLarge, BadSheet, NoRoom}
use Rattle.terms.specs.Answer.{Told, told_one, refusal, answered}
use Rattle.terms.specs.Laws.Table.{Row, asks, answers, agreed}
use Rattle.layouts.specs.Whole.{write_record}
use Rattle.records.specs.Record.{seal, signature}
use Rattle.records.specs.Handing.{fill_answer, fill_after, write_answer, write_after}
use Rattle.records.specs.Samples.{record_s, record_d, sheet_s, sheet_d}
use Rattle.records.specs.Examples.{evaluate, seal_s, seal_d}

-- ---- what is stored

-- a destination of `n` bytes
abbrev room : ℕ → List ℕ
room n = replicate n 0x99

-- a destination afterwards, and what it must hold
abbrev Holding : Type 0
Holding = List ℕ × List ℕ

abbrev held : List Holding → List (List ℕ)
held [] = []
held (x ∷ xs) = x.0 ∷ held xs

abbrev expected_held : List Holding → List (List ℕ)
expected_held [] = []
expected_held (x ∷ xs) = x.1 ∷ expected_held xs

-- "On any refusal the destination keeps all its bytes; on success only the reported number of first bytes changes."
abbrev holdings : List Holding
holdings =
    -- a sheet of a record, and a record of a sheet, byte by byte
    (fill_after signature record_s (room 222), sheet_s)
    ∷ (fill_after signature record_d (room 326), sheet_d)
    ∷ (write_after signature sheet_s (room 165), record_s)
    ∷ (write_after signature sheet_d (room 254), record_d)
    -- "a signature's sheet begins with its seal's"
    ∷ (fill_after seal seal_s (room 163), take 163 sheet_s)
    ∷ (fill_after seal seal_d (room 230), take 230 sheet_d)
    ∷ (write_after seal (take 163 sheet_s) (room 115), seal_s)
    ∷ (write_after seal (take 230 sheet_d) (room 170), seal_d)
    -- bytes behind the last one
    ∷ (fill_after signature record_s (room 225), sheet_s ++ room 3)
    ∷ (write_after signature sheet_s (room 168), record_s ++ room 3)
    -- one byte too short; a refused record, a refused sheet
    ∷ (fill_after signature record_s (room 221), room 221)
    ∷ (write_after signature sheet_s (room 164), room 164)
    ∷ (fill_after signature (0x30 ∷ 0x80 ∷ []) (room 4), room 4)
    ∷ (write_after signature (take 221 sheet_s) (room 300), room 300)
    ∷ []

stored_bytes : held holdings ≡ expected_held holdings
unfolding evaluate
stored_bytes = refl

-- ---- the answers

-- a writer of records of at most `most` bytes
abbrev written_at_most : ℕ → List ℕ → ℕ → Told
written_at_most most x n = answered (λ w. length w) (write_record most signature x n)

-- "A writer reads the whole sheet first, then 17, then 20. A reader that fills a sheet gives 20 after all else."
abbrev room_rows : List Row
room_rows =
    (fill_answer signature record_d (room 326), told_one done 326)
    ∷ (write_answer signature sheet_s (room 165), told_one done 165)
    ∷ (write_answer signature sheet_d (room 300), told_one done 254)
    ∷ (write_answer seal (take 163 sheet_s) (room 115), told_one done 115)
    -- "destination too short; place: bytes needed"
    ∷ (fill_answer signature record_s (room 221), refusal NoRoom 222)
    ∷ (fill_answer signature record_s [], refusal NoRoom 222)
    ∷ (write_answer signature sheet_s (room 164), refusal NoRoom 165)
    ∷ (write_answer signature sheet_s [], refusal NoRoom 165)
    ∷ (fill_answer signature (0x30 ∷ 0x80 ∷ []) [], refusal BadLength 0)
    ∷ (write_answer signature (sheet_s ++ 0x00 ∷ []) [], refusal BadSheet 222)
    -- S has 165 bytes: 17 where fewer are allowed, before 20 and after 19
    ∷ (written_at_most 165 sheet_s 165, told_one done 165)
    ∷ (written_at_most 165 sheet_s 10, refusal NoRoom 165)
    ∷ (written_at_most 164 sheet_s 165, refusal TooLarge 0)
    ∷ (written_at_most 164 sheet_s 10, refusal TooLarge 0)
    ∷ (written_at_most 164 (sheet_s ++ 0x00 ∷ []) 10, refusal BadSheet 222)
    ∷ []

rooms : asks room_rows ≡ answers room_rows
unfolding evaluate
rooms = agreed room_rows tt

-- ---- refused sheets

-- the answer to a sheet for a signature record
abbrev written : List ℕ → Told
written x = write_answer signature x (room 300)

-- a sheet whose section from `a` to `z` has no bytes
abbrev emptied : ℕ → ℕ → List ℕ → List ℕ
emptied a z x = take a x ++ 0x00 ∷ 0x00 ∷ 0x00 ∷ 0x00 ∷ drop z x

-- 19: "sheet cut, left over, an integer's count not 8, critical's not 1, optional count or critical byte not 0 or 1; place: where the count concerned
-- begins (cut or missing too), or first byte left over"
abbrev bad_sheets : List Row
bad_sheets =
    -- cut: the first count missing, cut; the end's bytes, the signature's; the stamp's count missing, cut
    (written [], refusal BadSheet 0)
    ∷ (written (take 3 sheet_s), refusal BadSheet 0)
    ∷ (written (take 102 sheet_s), refusal BadSheet 84)
    ∷ (written (take 217 sheet_s), refusal BadSheet 213)
    ∷ (written (take 218 sheet_s), refusal BadSheet 218)
    ∷ (written (take 221 sheet_s), refusal BadSheet 218)
    -- left over
    ∷ (written (sheet_s ++ 0x00 ∷ []), refusal BadSheet 222)
    ∷ (written (sheet_d ++ 0x00 ∷ 0x00 ∷ 0x00 ∷ 0x00 ∷ []), refusal BadSheet 326)
    -- the vendor's count in the other order of bytes, and of S's type, list kind, width and height another count than 8
    ∷ (written (0x04 ∷ 0x00 ∷ 0x00 ∷ 0x00 ∷ drop 4 sheet_d), refusal BadSheet 0)
    ∷ (written (set sheet_s 12 7), refusal BadSheet 9)
    ∷ (written (set sheet_s 12 9), refusal BadSheet 9)
    ∷ (written (emptied 9 21 sheet_s), refusal BadSheet 9)
    ∷ (written (set sheet_s 28 7), refusal BadSheet 25)
    ∷ (written (set sheet_s 116 7), refusal BadSheet 113)
    ∷ (written (set sheet_s 128 9), refusal BadSheet 125)
    -- critical of D's first custom item: two bytes, none, the byte 2, the byte FF; and of the signed part's
    ∷ (written (set sheet_d 184 2), refusal BadSheet 181)
    ∷ (written (emptied 181 186 sheet_d), refusal BadSheet 181)
    ∷ (written (set sheet_d 185 2), refusal BadSheet 181)
    ∷ (written (set sheet_d 185 0xFF), refusal BadSheet 181)
    ∷ (written (set sheet_d 284 2), refusal BadSheet 280)
    -- an optional count of 2, and of 256: the seal's custom data, the signed part's, the stamp
    ∷ (written (set sheet_s 140 2), refusal BadSheet 137)
    ∷ (written (set sheet_s 139 1), refusal BadSheet 137)
    ∷ (written (set sheet_s 195 2), refusal BadSheet 192)
    ∷ (written (set sheet_s 221 2), refusal BadSheet 218)
    -- a stamp that is said to be there, and is missing
    ∷ (written (set sheet_s 221 1), refusal BadSheet 222)
    ∷ []

-- "In a sheet 19 comes before a section's own rule.", and the others with "the offset .. in a sheet, of its section's count"
abbrev bad_sections : List Row
bad_sections =
    -- 7: list kind 3 and 0, width 0 and 65,576, a height below 0
    (written (set sheet_s 36 3), refusal NotAllowed 25)
    ∷ (written (set sheet_s 36 0), refusal NotAllowed 25)
    ∷ (written (set sheet_s 124 0), refusal NotAllowed 113)
    ∷ (written (set sheet_s 122 1), refusal NotAllowed 113)
    ∷ (written (set sheet_s 129 0x80), refusal NotAllowed 125)
    -- 9: a bad vendor in a sheet that ends with it; 19 if its count passes the end
    ∷ (written (0x00 ∷ 0x00 ∷ 0x00 ∷ 0x01 ∷ 0x80 ∷ []), refusal BadCharacter 0)
    ∷ (written (0x00 ∷ 0x00 ∷ 0x00 ∷ 0x02 ∷ 0x80 ∷ []), refusal BadSheet 0)
    ∷ (written (set sheet_d 32 0x41), refusal BadCharacter 26)
    ∷ (written (set sheet_d 53 0x2A), refusal BadCharacter 49)
    -- 10: no bytes, the thirty-second of December
    ∷ (written (emptied 46 65 sheet_s), refusal BadTime 46)
    ∷ (written (set sheet_s 95 0x32), refusal BadTime 84)
    -- 11: no bytes, a last byte above 80
    ∷ (written (emptied 146 158 sheet_s), refusal BadIdentifier 146)
    ∷ (written (set sheet_s 212 0xF5), refusal BadIdentifier 201)
    ∷ (written (emptied 175 181 sheet_d), refusal BadIdentifier 175)
    -- 14: seal id, certificate, picture type and data, maker, signed value, original digest, property text, signer, signature, digest, stamp
    ∷ (written (emptied 4 9 sheet_s), refusal NoBytes 4)
    ∷ (written (emptied 41 46 sheet_s), refusal NoBytes 41)
    ∷ (written (emptied 103 108 sheet_s), refusal NoBytes 103)
    ∷ (written (emptied 108 113 sheet_s), refusal NoBytes 108)
    ∷ (written (emptied 141 146 sheet_s), refusal NoBytes 141)
    ∷ (written (emptied 158 163 sheet_s), refusal NoBytes 158)
    ∷ (written (emptied 182 187 sheet_s), refusal NoBytes 182)
    ∷ (written (emptied 187 192 sheet_s), refusal NoBytes 187)
    ∷ (written (emptied 196 201 sheet_s), refusal NoBytes 196)
    ∷ (written (emptied 213 218 sheet_s), refusal NoBytes 213)
    ∷ (written (emptied 56 62 sheet_d), refusal NoBytes 56)
    ∷ (written (emptied 319 326 sheet_d), refusal NoBytes 319)
    -- "May have no bytes: vendor, name, digest's PrintableString, custom value.": D has 4, 3, 3 and 1 bytes less, its lengths are in the same forms
    ∷ (written (emptied 0 8 sheet_d), told_one done 250)
    ∷ (written (emptied 26 33 sheet_d), told_one done 251)
    ∷ (written (emptied 49 56 sheet_d), told_one done 251)
    ∷ (written (emptied 186 191 sheet_d), told_one done 253)
    -- 15, and 16 at the list's count: 65, 257 and 16,777,217 items; of digests, and of custom data, not at the count before
    ∷ (written (set sheet_s 40 0), refusal NoItem 37)
    ∷ (written (set sheet_s 40 65), refusal TooManyItems 37)
    ∷ (written (set sheet_s 39 1), refusal TooManyItems 37)
    ∷ (written (set sheet_s 37 1), refusal TooManyItems 37)
    ∷ (written (set sheet_d 48 0), refusal NoItem 45)
    ∷ (written (set sheet_d 48 65), refusal TooManyItems 45)
    ∷ (written (set sheet_d 174 65), refusal TooManyItems 171)
    ∷ (written (set sheet_d 273 65), refusal TooManyItems 270)
    -- a count of 64 is no fault, but there the second item is missing
    ∷ (written (take 46 (set sheet_s 40 64)), refusal BadSheet 46)
    ∷ []

refused_sheets : asks (bad_sheets ++ bad_sections) ≡ answers (bad_sheets ++ bad_sections)
unfolding evaluate
refused_sheets = agreed (bad_sheets ++ bad_sections) tt
