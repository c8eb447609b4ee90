-- "Proved, as a single table with a single statement": P1 to P14 of document 01. Assumes nothing.
use Rattle.std.specs.Prelude.{pos, ◌≡◌, ℕ, true, List, [], ◌∷◌, negsuc, Some, None}
use Rattle.terms.specs.Numbers.{done}
use Rattle.terms.specs.Answer.{Res, good, fault, Got, Told, gives, refuses, told_none, told_one, refusal, answered, may_be_empty}
use Rattle.terms.specs.Laws.Table.{Row, asks, answers, agreed}
use Rattle.heads.specs.Head.{forms, size}
use Rattle.contents.specs.Content.{told_check}
use Rattle.contents.specs.Integer.{value, any}
use Rattle.contents.specs.Leaves.{Leaf, rule_of, integer, identifier, utf8_string, generalized_time}
use Rattle.layouts.specs.Layout.{leaf}
use Rattle.layouts.specs.Reading.{read}
use Rattle.verdicts.specs.declared.Stamping.TheVariants.{Unchecked}
use Rattle.verdicts.specs.Examples.{evaluate_verdict, certificate, findings, c, G, on_s, plain, notice}

-- an INTEGER, read: its number
abbrev told_integer : Res (Got (List ℕ)) → Told
told_integer (good x) = gives done (value x.value ∷ [])
told_integer (fault n p) = refusal n p

abbrev an_integer : List ℕ → Told
an_integer w = told_integer (read (leaf (integer any)) w 0)

-- a length, read: its number
abbrev a_length : List ℕ → Told
a_length w = answered (λ z. z.content) (size forms 0 w)

-- a content, by its rule
abbrev a_content : Leaf → List ℕ → Told
a_content l x = told_check (rule_of l.holds x)

abbrev taken : Told
taken = told_none done

abbrev gets : ℕ → Told
gets n = refuses n []

abbrev P : List Row
P =
    -- P1 02 01 80 is -128. P2 02 02 00 80 is 128. P3 02 02 FF 80 gets 6.
    (an_integer (0x02 ∷ 0x01 ∷ 0x80 ∷ []), gives done (negsuc 127 ∷ []))
    ∷ (an_integer (0x02 ∷ 0x02 ∷ 0x00 ∷ 0x80 ∷ []), told_one done 128)
    ∷ (an_integer (0x02 ∷ 0x02 ∷ 0xFF ∷ 0x80 ∷ []), refuses 6 (pos 0 ∷ []))
    -- P4 length 81 7F gets 3. P5 82 01 00 is 256.
    ∷ (a_length (0x81 ∷ 0x7F ∷ []), refuses 3 (pos 0 ∷ []))
    ∷ (a_length (0x82 ∷ 0x01 ∷ 0x00 ∷ []), told_one done 256)
    -- P6 20000229000000Z is taken. P7 19000229000000Z gets 10.
    ∷ (a_content generalized_time (0x32 ∷ 0x30 ∷ 0x30 ∷ 0x30 ∷ 0x30 ∷ 0x32 ∷ 0x32 ∷ 0x39 ∷ 0x30 ∷ 0x30 ∷ 0x30 ∷ 0x30 ∷ 0x30 ∷ 0x30 ∷ 0x5A ∷ []), taken)
    ∷ (a_content generalized_time (0x31 ∷ 0x39 ∷ 0x30 ∷ 0x30 ∷ 0x30 ∷ 0x32 ∷ 0x32 ∷ 0x39 ∷ 0x30 ∷ 0x30 ∷ 0x30 ∷ 0x30 ∷ 0x30 ∷ 0x30 ∷ 0x5A ∷ []), gets 10)
    -- P8 identifier 2A 80 01 gets 11. P9 UTF-8 E5 8D B0 is taken. P10 ED A0 80 gets 9.
    ∷ (a_content identifier (0x2A ∷ 0x80 ∷ 0x01 ∷ []), gets 11)
    ∷ (a_content (utf8_string may_be_empty) (0xE5 ∷ 0x8D ∷ 0xB0 ∷ []), taken)
    ∷ (a_content (utf8_string may_be_empty) (0xED ∷ 0xA0 ∷ 0x80 ∷ []), gets 9)
    -- P11 S with G: 0. P12 signer revoked 20240630120000: 30. P13 revoked 20240630120001: 0.
    ∷ (on_s G, plain 0)
    ∷ (on_s (findings true true 20240701000000 c (certificate true true 20230101000000 20251231235959 (Some 20240630120000)) None Unchecked), plain 30)
    ∷ (on_s (findings true true 20240701000000 c (certificate true true 20230101000000 20251231235959 (Some 20240630120001)) None Unchecked), plain 0)
    -- P14 now 20260101000000 and maker from 20240701000000: 0 with notice.
    ∷ (on_s (findings true true 20260101000000 (certificate true true 20240701000000 20251231235959 None) c None Unchecked), notice 0)
    ∷ []

pub P-1-to-14 : asks P ≡ answers P
unfolding evaluate_verdict
P-1-to-14 = agreed P tt
