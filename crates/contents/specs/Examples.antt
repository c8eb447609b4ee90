-- Every class of damage to a content is refused with its number, and the edges beside it are taken. Assumes nothing.
use Rattle.std.specs.Prelude.{◌≡◌, refl, ℕ, suc, zero, ◌+◌, ◌-◌, ◌^◌, Bool, true, false, List, [], ◌∷◌, ◌++◌, replicate, ℤ, pos, negsuc}
use Rattle.terms.specs.Numbers.{reason_number, done}
use Rattle.terms.specs.declared.Reason.{Reason}
use Rattle.terms.specs.declared.Reason.TheVariants.{BadInteger, NotAllowed, NotEs, BadCharacter, BadTime, BadIdentifier, BadBoolean, NoBytes}
use Rattle.terms.specs.Answer.{pick, bind, need, every, enough, same, Told, refuses, told_none, may_be_empty, never_empty}
use Rattle.terms.specs.Digits.{digits, number_from}
use Rattle.terms.specs.Laws.Table.{Row, asks, answers, same_number, same_numbers, same_told, agree, agreed}
use Rattle.contents.specs.Content.{told_check, ask, passes}
use Rattle.contents.specs.Integer.{sign, shortest, well_formed, turned, value, eight, shrink, content_of, any, is_kind, is_millimetres}
use Rattle.contents.specs.Text.{within, starts, follows, text_from, ia5, printable, utf8, parts_from, is_identifier}
use Rattle.contents.specs.Time.{leap, month_length, possible, is_digit, part_from, zulu, not_later, time_from, time_check, time_rule, moment_in, moment_of, written, is_real, moment_at}
use Rattle.contents.specs.Rules.{integer_rule, string_rule, octets_rule, identifier_rule, boolean_rule, also, only_rule}
use Rattle.contents.specs.Leaves.{rule_of, bit_string, header_name, version, known_rule}

evaluate : Unit {0}
unfolding pick bind need every enough same same_number same_numbers same_told agree digits number_from ask passes sign shortest well_formed turned value eight shrink content_of within starts follows text_from parts_from is_identifier leap month_length possible is_digit part_from zulu not_later time_from time_check time_rule moment_in moment_of written is_real integer_rule string_rule octets_rule identifier_rule boolean_rule also only_rule
evaluate = tt

-- a rule that refuses with a number
abbrev gets : Reason → Told
gets n = refuses (reason_number n) []

-- 6: empty, over 8 bytes, not shortest; edges of 1 to 8 bytes are taken
abbrev integers : List Row
integers =
    (told_check (integer_rule any (0x00 ∷ [])), told_none done)
    ∷ (told_check (integer_rule any (0x80 ∷ [])), told_none done)
    ∷ (told_check (integer_rule any (0x7F ∷ [])), told_none done)
    ∷ (told_check (integer_rule any (0x00 ∷ 0x80 ∷ [])), told_none done)
    ∷ (told_check (integer_rule any (0xFF ∷ 0x7F ∷ [])), told_none done)
    ∷ (told_check (integer_rule any (0x80 ∷ 0x00 ∷ 0x00 ∷ 0x00 ∷ 0x00 ∷ 0x00 ∷ 0x00 ∷ 0x00 ∷ [])), told_none done)
    ∷ (told_check (integer_rule any (0x7F ∷ 0xFF ∷ 0xFF ∷ 0xFF ∷ 0xFF ∷ 0xFF ∷ 0xFF ∷ 0xFF ∷ [])), told_none done)
    ∷ (told_check (integer_rule any ([])), gets BadInteger)
    ∷ (told_check (integer_rule any (0x00 ∷ 0x80 ∷ 0x00 ∷ 0x00 ∷ 0x00 ∷ 0x00 ∷ 0x00 ∷ 0x00 ∷ 0x00 ∷ [])), gets BadInteger)
    ∷ (told_check (integer_rule any (0x00 ∷ 0x7F ∷ [])), gets BadInteger)
    ∷ (told_check (integer_rule any (0xFF ∷ 0x80 ∷ [])), gets BadInteger)
    ∷ (told_check (integer_rule any (0x00 ∷ 0x00 ∷ [])), gets BadInteger)
    ∷ (told_check (integer_rule any (0xFF ∷ 0xFF ∷ [])), gets BadInteger)
    ∷ []

-- 7 by the list kind, after 6
abbrev kinds : List Row
kinds =
    (told_check (integer_rule is_kind (0x01 ∷ [])), told_none done)
    ∷ (told_check (integer_rule is_kind (0x02 ∷ [])), told_none done)
    ∷ (told_check (integer_rule is_kind (0x00 ∷ [])), gets NotAllowed)
    ∷ (told_check (integer_rule is_kind (0x03 ∷ [])), gets NotAllowed)
    ∷ (told_check (integer_rule is_kind (0xFF ∷ [])), gets NotAllowed)
    ∷ (told_check (integer_rule is_kind (0x00 ∷ 0x01 ∷ [])), gets BadInteger)
    ∷ (told_check (integer_rule is_kind (0x00 ∷ 0x05 ∷ [])), gets BadInteger)
    ∷ []

-- 7 by the millimetres
abbrev sizes : List Row
sizes =
    (told_check (integer_rule is_millimetres (0x01 ∷ [])), told_none done)
    ∷ (told_check (integer_rule is_millimetres (0x00 ∷ 0xFF ∷ 0xFF ∷ [])), told_none done)
    ∷ (told_check (integer_rule is_millimetres (0x00 ∷ [])), gets NotAllowed)
    ∷ (told_check (integer_rule is_millimetres (0x01 ∷ 0x00 ∷ 0x00 ∷ [])), gets NotAllowed)
    ∷ (told_check (integer_rule is_millimetres (0xFF ∷ [])), gets NotAllowed)
    ∷ (told_check (integer_rule is_millimetres (0x80 ∷ 0x00 ∷ 0x00 ∷ 0x00 ∷ 0x00 ∷ 0x00 ∷ 0x00 ∷ 0x00 ∷ [])), gets NotAllowed)
    ∷ []

-- 9 by RFC 3629, section 4: overlong, surrogates, above 10FFFF, cut, a stray tail; both edges of each of its rows are taken
abbrev names : List Row
names =
    (told_check (string_rule utf8 may_be_empty ([])), told_none done)
    ∷ (told_check (string_rule utf8 may_be_empty (0xE5 ∷ 0x8D ∷ 0xB0 ∷ [])), told_none done)
    ∷ (told_check (string_rule utf8 may_be_empty (0x00 ∷ 0x7F ∷ [])), told_none done)
    ∷ (told_check (string_rule utf8 may_be_empty (0xC2 ∷ 0x80 ∷ 0xDF ∷ 0xBF ∷ [])), told_none done)
    ∷ (told_check (string_rule utf8 may_be_empty (0xE0 ∷ 0xA0 ∷ 0x80 ∷ 0xE0 ∷ 0xBF ∷ 0xBF ∷ [])), told_none done)
    ∷ (told_check (string_rule utf8 may_be_empty (0xE1 ∷ 0x80 ∷ 0x80 ∷ 0xEC ∷ 0xBF ∷ 0xBF ∷ [])), told_none done)
    ∷ (told_check (string_rule utf8 may_be_empty (0xED ∷ 0x80 ∷ 0x80 ∷ 0xED ∷ 0x9F ∷ 0xBF ∷ [])), told_none done)
    ∷ (told_check (string_rule utf8 may_be_empty (0xEE ∷ 0x80 ∷ 0x80 ∷ 0xEE ∷ 0xBF ∷ 0xBF ∷ 0xEF ∷ 0xBF ∷ 0xBF ∷ [])), told_none done)
    ∷ (told_check (string_rule utf8 may_be_empty (0xF0 ∷ 0x90 ∷ 0x80 ∷ 0x80 ∷ 0xF0 ∷ 0xBF ∷ 0xBF ∷ 0xBF ∷ [])), told_none done)
    ∷ (told_check (string_rule utf8 may_be_empty (0xF1 ∷ 0x80 ∷ 0x80 ∷ 0x80 ∷ 0xF2 ∷ 0x80 ∷ 0xBF ∷ 0x80 ∷ 0xF3 ∷ 0xBF ∷ 0xBF ∷ 0xBF ∷ [])), told_none done)
    ∷ (told_check (string_rule utf8 may_be_empty (0xF4 ∷ 0x80 ∷ 0x80 ∷ 0x80 ∷ 0xF4 ∷ 0x8F ∷ 0xBF ∷ 0xBF ∷ [])), told_none done)
    ∷ (told_check (string_rule utf8 may_be_empty (0xEF ∷ 0xBB ∷ 0xBF ∷ [])), told_none done)
    ∷ (told_check (string_rule utf8 may_be_empty (0xC0 ∷ 0x80 ∷ [])), gets BadCharacter)
    ∷ (told_check (string_rule utf8 may_be_empty (0xC1 ∷ 0xBF ∷ [])), gets BadCharacter)
    ∷ (told_check (string_rule utf8 may_be_empty (0xE0 ∷ 0x80 ∷ 0x80 ∷ [])), gets BadCharacter)
    ∷ (told_check (string_rule utf8 may_be_empty (0xE0 ∷ 0x9F ∷ 0xBF ∷ [])), gets BadCharacter)
    ∷ (told_check (string_rule utf8 may_be_empty (0xED ∷ 0xA0 ∷ 0x80 ∷ [])), gets BadCharacter)
    ∷ (told_check (string_rule utf8 may_be_empty (0xED ∷ 0xBF ∷ 0xBF ∷ [])), gets BadCharacter)
    ∷ (told_check (string_rule utf8 may_be_empty (0xF0 ∷ 0x8F ∷ 0xBF ∷ 0xBF ∷ [])), gets BadCharacter)
    ∷ (told_check (string_rule utf8 may_be_empty (0xF4 ∷ 0x90 ∷ 0x80 ∷ 0x80 ∷ [])), gets BadCharacter)
    ∷ (told_check (string_rule utf8 may_be_empty (0xF5 ∷ 0x80 ∷ 0x80 ∷ 0x80 ∷ [])), gets BadCharacter)
    ∷ (told_check (string_rule utf8 may_be_empty (0x80 ∷ [])), gets BadCharacter)
    ∷ (told_check (string_rule utf8 may_be_empty (0xFF ∷ [])), gets BadCharacter)
    ∷ (told_check (string_rule utf8 may_be_empty (0xE5 ∷ 0x8D ∷ [])), gets BadCharacter)
    ∷ (told_check (string_rule utf8 may_be_empty (0x41 ∷ 0xC2 ∷ [])), gets BadCharacter)
    ∷ (told_check (string_rule utf8 may_be_empty (0xE5 ∷ 0x8D ∷ 0x41 ∷ [])), gets BadCharacter)
    -- a byte below 80 or above BF where a character goes on, in each row
    ∷ (told_check (string_rule utf8 may_be_empty (0xC2 ∷ 0x7F ∷ [])), gets BadCharacter)
    ∷ (told_check (string_rule utf8 may_be_empty (0xDF ∷ 0xC0 ∷ [])), gets BadCharacter)
    ∷ (told_check (string_rule utf8 may_be_empty (0xE0 ∷ 0xA0 ∷ 0x7F ∷ [])), gets BadCharacter)
    ∷ (told_check (string_rule utf8 may_be_empty (0xE0 ∷ 0xBF ∷ 0xC0 ∷ [])), gets BadCharacter)
    ∷ (told_check (string_rule utf8 may_be_empty (0xE0 ∷ 0xC0 ∷ 0x80 ∷ [])), gets BadCharacter)
    ∷ (told_check (string_rule utf8 may_be_empty (0xE1 ∷ 0x7F ∷ 0x80 ∷ [])), gets BadCharacter)
    ∷ (told_check (string_rule utf8 may_be_empty (0xEC ∷ 0xC0 ∷ 0x80 ∷ [])), gets BadCharacter)
    ∷ (told_check (string_rule utf8 may_be_empty (0xE1 ∷ 0x80 ∷ 0x7F ∷ [])), gets BadCharacter)
    ∷ (told_check (string_rule utf8 may_be_empty (0xEC ∷ 0xBF ∷ 0xC0 ∷ [])), gets BadCharacter)
    ∷ (told_check (string_rule utf8 may_be_empty (0xED ∷ 0x7F ∷ 0x80 ∷ [])), gets BadCharacter)
    ∷ (told_check (string_rule utf8 may_be_empty (0xED ∷ 0x80 ∷ 0x7F ∷ [])), gets BadCharacter)
    ∷ (told_check (string_rule utf8 may_be_empty (0xED ∷ 0x9F ∷ 0xC0 ∷ [])), gets BadCharacter)
    ∷ (told_check (string_rule utf8 may_be_empty (0xEE ∷ 0x7F ∷ 0x80 ∷ [])), gets BadCharacter)
    ∷ (told_check (string_rule utf8 may_be_empty (0xEF ∷ 0xC0 ∷ 0x80 ∷ [])), gets BadCharacter)
    ∷ (told_check (string_rule utf8 may_be_empty (0xEE ∷ 0x80 ∷ 0x7F ∷ [])), gets BadCharacter)
    ∷ (told_check (string_rule utf8 may_be_empty (0xEF ∷ 0xBF ∷ 0xC0 ∷ [])), gets BadCharacter)
    ∷ (told_check (string_rule utf8 may_be_empty (0xF0 ∷ 0xC0 ∷ 0x80 ∷ 0x80 ∷ [])), gets BadCharacter)
    ∷ (told_check (string_rule utf8 may_be_empty (0xF0 ∷ 0x90 ∷ 0x7F ∷ 0x80 ∷ [])), gets BadCharacter)
    ∷ (told_check (string_rule utf8 may_be_empty (0xF0 ∷ 0xBF ∷ 0xC0 ∷ 0x80 ∷ [])), gets BadCharacter)
    ∷ (told_check (string_rule utf8 may_be_empty (0xF0 ∷ 0x90 ∷ 0x80 ∷ 0x7F ∷ [])), gets BadCharacter)
    ∷ (told_check (string_rule utf8 may_be_empty (0xF0 ∷ 0xBF ∷ 0xBF ∷ 0xC0 ∷ [])), gets BadCharacter)
    ∷ (told_check (string_rule utf8 may_be_empty (0xF1 ∷ 0x7F ∷ 0x80 ∷ 0x80 ∷ [])), gets BadCharacter)
    ∷ (told_check (string_rule utf8 may_be_empty (0xF3 ∷ 0xC0 ∷ 0x80 ∷ 0x80 ∷ [])), gets BadCharacter)
    ∷ (told_check (string_rule utf8 may_be_empty (0xF1 ∷ 0x80 ∷ 0x7F ∷ 0x80 ∷ [])), gets BadCharacter)
    ∷ (told_check (string_rule utf8 may_be_empty (0xF3 ∷ 0xBF ∷ 0xC0 ∷ 0x80 ∷ [])), gets BadCharacter)
    ∷ (told_check (string_rule utf8 may_be_empty (0xF1 ∷ 0x80 ∷ 0x80 ∷ 0x7F ∷ [])), gets BadCharacter)
    ∷ (told_check (string_rule utf8 may_be_empty (0xF3 ∷ 0xBF ∷ 0xBF ∷ 0xC0 ∷ [])), gets BadCharacter)
    ∷ (told_check (string_rule utf8 may_be_empty (0xF4 ∷ 0x7F ∷ 0x80 ∷ 0x80 ∷ [])), gets BadCharacter)
    ∷ (told_check (string_rule utf8 may_be_empty (0xF4 ∷ 0x80 ∷ 0x7F ∷ 0x80 ∷ [])), gets BadCharacter)
    ∷ (told_check (string_rule utf8 may_be_empty (0xF4 ∷ 0x8F ∷ 0xC0 ∷ 0x80 ∷ [])), gets BadCharacter)
    ∷ (told_check (string_rule utf8 may_be_empty (0xF4 ∷ 0x80 ∷ 0x80 ∷ 0x7F ∷ [])), gets BadCharacter)
    ∷ (told_check (string_rule utf8 may_be_empty (0xF4 ∷ 0x8F ∷ 0xBF ∷ 0xC0 ∷ [])), gets BadCharacter)
    ∷ []

abbrev in_printable : List ℕ → Told
in_printable c = told_check (string_rule printable may_be_empty c)

-- `n` bytes from `a` on
abbrev bytes_from : ℕ → ℕ → List ℕ
bytes_from a zero = []
bytes_from a (suc n) = a ∷ bytes_from (a + 1) n

abbrev refused_each : List ℕ → List Row
refused_each [] = []
refused_each (b ∷ bs) = (in_printable (b ∷ []), gets BadCharacter) ∷ refused_each bs

-- 9, "PrintableString as X.680": its 74 characters are taken, and each other byte, alone, is refused
abbrev printables : List Row
printables =
    (in_printable [], told_none done)
    -- A to Z, a to z, 0 to 9
    ∷ (in_printable (bytes_from 0x41 26), told_none done)
    ∷ (in_printable (bytes_from 0x61 26), told_none done)
    ∷ (in_printable (bytes_from 0x30 10), told_none done)
    -- space ' ( ) + , - . / : = ?
    ∷ (in_printable (0x20 ∷ 0x27 ∷ 0x28 ∷ 0x29 ∷ 0x2B ∷ 0x2C ∷ 0x2D ∷ 0x2E ∷ 0x2F ∷ 0x3A ∷ 0x3D ∷ 0x3F ∷ []), told_none done)
    -- one that is refused after one that is taken
    ∷ (in_printable (0x41 ∷ 0x2A ∷ []), gets BadCharacter)
    -- 00 to 1F, 21 to 26, 2A, 3B and 3C, 3E, 40, 5B to 60, 7B to FF
    ∷ refused_each (bytes_from 0x00 32 ++ bytes_from 0x21 6 ++ (0x2A ∷ 0x3B ∷ 0x3C ∷ 0x3E ∷ 0x40 ∷ []) ++ bytes_from 0x5B 6 ++ bytes_from 0x7B 133)

-- 9 above 7F
abbrev ia5s : List Row
ia5s =
    (told_check (string_rule ia5 may_be_empty (0x00 ∷ [])), told_none done)
    ∷ (told_check (string_rule ia5 may_be_empty (0x7F ∷ [])), told_none done)
    ∷ (told_check (string_rule ia5 may_be_empty (0x80 ∷ [])), gets BadCharacter)
    ∷ (told_check (string_rule ia5 may_be_empty (0x41 ∷ 0xFF ∷ [])), gets BadCharacter)
    ∷ []

-- 14: no bytes where some are needed, before 9
abbrev empties : List Row
empties =
    (told_check (string_rule ia5 never_empty (0x41 ∷ [])), told_none done)
    ∷ (told_check (string_rule ia5 never_empty ([])), gets NoBytes)
    ∷ (told_check (string_rule ia5 never_empty (0x80 ∷ [])), gets BadCharacter)
    ∷ []

-- 14 of an OCTET STRING
abbrev octets : List Row
octets =
    (told_check (octets_rule never_empty (0x00 ∷ [])), told_none done)
    ∷ (told_check (octets_rule never_empty ([])), gets NoBytes)
    ∷ []

-- a value that may have no bytes
abbrev values : List Row
values =
    (told_check (octets_rule may_be_empty ([])), told_none done)
    ∷ (told_check (octets_rule may_be_empty (0xFF ∷ [])), told_none done)
    ∷ []

-- "IA5String "ES"": "14 and 9 before 8"
abbrev header_names : List Row
header_names =
    (told_check (known_rule header_name (0x45 ∷ 0x53 ∷ [])), told_none done)
    ∷ (told_check (known_rule header_name (0x45 ∷ 0x58 ∷ [])), gets NotEs)
    ∷ (told_check (known_rule header_name (0x65 ∷ 0x73 ∷ [])), gets NotEs)
    ∷ (told_check (known_rule header_name (0x53 ∷ 0x45 ∷ [])), gets NotEs)
    ∷ (told_check (known_rule header_name (0x45 ∷ [])), gets NotEs)
    ∷ (told_check (known_rule header_name (0x45 ∷ 0x53 ∷ 0x00 ∷ [])), gets NotEs)
    ∷ (told_check (known_rule header_name ([])), gets NoBytes)
    ∷ (told_check (known_rule header_name (0x45 ∷ 0xD3 ∷ [])), gets BadCharacter)
    ∷ []

-- "INTEGER 4": "6 before 7"
abbrev versions : List Row
versions =
    (told_check (known_rule version (0x04 ∷ [])), told_none done)
    ∷ (told_check (known_rule version (0x03 ∷ [])), gets NotAllowed)
    ∷ (told_check (known_rule version (0x05 ∷ [])), gets NotAllowed)
    ∷ (told_check (known_rule version (0xFC ∷ [])), gets NotAllowed)
    ∷ (told_check (known_rule version (0x04 ∷ 0x04 ∷ [])), gets NotAllowed)
    ∷ (told_check (known_rule version (0x00 ∷ 0x04 ∷ [])), gets BadInteger)
    ∷ (told_check (known_rule version ([])), gets BadInteger)
    ∷ []

-- 14: no byte behind the 00
abbrev bit_strings : List Row
bit_strings =
    (told_check (rule_of bit_string.holds (0xCC ∷ [])), told_none done)
    ∷ (told_check (rule_of bit_string.holds (0x00 ∷ [])), told_none done)
    ∷ (told_check (rule_of bit_string.holds []), gets NoBytes)
    ∷ []

-- 13: FF alone
abbrev booleans : List Row
booleans =
    (told_check (boolean_rule (0xFF ∷ [])), told_none done)
    ∷ (told_check (boolean_rule (0x00 ∷ [])), gets BadBoolean)
    ∷ (told_check (boolean_rule (0x01 ∷ [])), gets BadBoolean)
    ∷ (told_check (boolean_rule ([])), gets BadBoolean)
    ∷ (told_check (boolean_rule (0xFF ∷ 0xFF ∷ [])), gets BadBoolean)
    ∷ []

-- 11: empty, 65 bytes, a part that begins with 80, a last byte of 80 or above
abbrev identifiers : List Row
identifiers =
    (told_check (identifier_rule (0x2A ∷ 0x81 ∷ 0x1C ∷ 0xCF ∷ 0x55 ∷ 0x01 ∷ 0x83 ∷ 0x75 ∷ [])), told_none done)
    ∷ (told_check (identifier_rule (0x00 ∷ [])), told_none done)
    ∷ (told_check (identifier_rule (0x2A ∷ 0x81 ∷ 0x00 ∷ [])), told_none done)
    -- a part with 80 inside and 7F at its end, a part of 7F
    ∷ (told_check (identifier_rule (0x2A ∷ 0x81 ∷ 0x80 ∷ 0x7F ∷ 0x7F ∷ [])), told_none done)
    ∷ (told_check (identifier_rule (replicate 64 0x2A)), told_none done)
    ∷ (told_check (identifier_rule ([])), gets BadIdentifier)
    ∷ (told_check (identifier_rule (replicate 65 0x2A)), gets BadIdentifier)
    ∷ (told_check (identifier_rule (0x2A ∷ 0x80 ∷ 0x01 ∷ [])), gets BadIdentifier)
    ∷ (told_check (identifier_rule (0x80 ∷ 0x01 ∷ [])), gets BadIdentifier)
    ∷ (told_check (identifier_rule (0x2A ∷ 0x81 ∷ [])), gets BadIdentifier)
    ∷ (told_check (identifier_rule (0x81 ∷ [])), gets BadIdentifier)
    ∷ (told_check (identifier_rule (0x2A ∷ 0x81 ∷ 0x80 ∷ [])), gets BadIdentifier)
    ∷ []

-- 10: the Gregorian rule, hours, minutes and seconds, another length, another character
abbrev times : List Row
times =
    (told_check (time_rule (0x32 ∷ 0x30 ∷ 0x30 ∷ 0x30 ∷ 0x30 ∷ 0x32 ∷ 0x32 ∷ 0x39 ∷ 0x30 ∷ 0x30 ∷ 0x30 ∷ 0x30 ∷ 0x30 ∷ 0x30 ∷ 0x5A ∷ [])), told_none done)
    ∷ (told_check (time_rule (0x30 ∷ 0x30 ∷ 0x30 ∷ 0x30 ∷ 0x30 ∷ 0x32 ∷ 0x32 ∷ 0x39 ∷ 0x30 ∷ 0x30 ∷ 0x30 ∷ 0x30 ∷ 0x30 ∷ 0x30 ∷ 0x5A ∷ [])), told_none done)
    ∷ (told_check (time_rule (0x32 ∷ 0x30 ∷ 0x32 ∷ 0x34 ∷ 0x30 ∷ 0x32 ∷ 0x32 ∷ 0x39 ∷ 0x32 ∷ 0x33 ∷ 0x35 ∷ 0x39 ∷ 0x35 ∷ 0x39 ∷ 0x5A ∷ [])), told_none done)
    ∷ (told_check (time_rule (0x39 ∷ 0x39 ∷ 0x39 ∷ 0x39 ∷ 0x31 ∷ 0x32 ∷ 0x33 ∷ 0x31 ∷ 0x32 ∷ 0x33 ∷ 0x35 ∷ 0x39 ∷ 0x35 ∷ 0x39 ∷ 0x5A ∷ [])), told_none done)
    ∷ (told_check (time_rule (0x30 ∷ 0x30 ∷ 0x30 ∷ 0x30 ∷ 0x30 ∷ 0x31 ∷ 0x30 ∷ 0x31 ∷ 0x30 ∷ 0x30 ∷ 0x30 ∷ 0x30 ∷ 0x30 ∷ 0x30 ∷ 0x5A ∷ [])), told_none done)
    ∷ (told_check (time_rule (0x32 ∷ 0x30 ∷ 0x32 ∷ 0x34 ∷ 0x30 ∷ 0x31 ∷ 0x33 ∷ 0x31 ∷ 0x30 ∷ 0x30 ∷ 0x30 ∷ 0x30 ∷ 0x30 ∷ 0x30 ∷ 0x5A ∷ [])), told_none done)
    ∷ (told_check (time_rule (0x32 ∷ 0x30 ∷ 0x32 ∷ 0x33 ∷ 0x30 ∷ 0x32 ∷ 0x32 ∷ 0x38 ∷ 0x30 ∷ 0x30 ∷ 0x30 ∷ 0x30 ∷ 0x30 ∷ 0x30 ∷ 0x5A ∷ [])), told_none done)
    ∷ (told_check (time_rule (0x32 ∷ 0x30 ∷ 0x32 ∷ 0x33 ∷ 0x30 ∷ 0x33 ∷ 0x33 ∷ 0x31 ∷ 0x30 ∷ 0x30 ∷ 0x30 ∷ 0x30 ∷ 0x30 ∷ 0x30 ∷ 0x5A ∷ [])), told_none done)
    ∷ (told_check (time_rule (0x32 ∷ 0x30 ∷ 0x32 ∷ 0x33 ∷ 0x30 ∷ 0x34 ∷ 0x33 ∷ 0x30 ∷ 0x30 ∷ 0x30 ∷ 0x30 ∷ 0x30 ∷ 0x30 ∷ 0x30 ∷ 0x5A ∷ [])), told_none done)
    ∷ (told_check (time_rule (0x32 ∷ 0x30 ∷ 0x32 ∷ 0x33 ∷ 0x30 ∷ 0x35 ∷ 0x33 ∷ 0x31 ∷ 0x30 ∷ 0x30 ∷ 0x30 ∷ 0x30 ∷ 0x30 ∷ 0x30 ∷ 0x5A ∷ [])), told_none done)
    ∷ (told_check (time_rule (0x32 ∷ 0x30 ∷ 0x32 ∷ 0x33 ∷ 0x30 ∷ 0x36 ∷ 0x33 ∷ 0x30 ∷ 0x30 ∷ 0x30 ∷ 0x30 ∷ 0x30 ∷ 0x30 ∷ 0x30 ∷ 0x5A ∷ [])), told_none done)
    ∷ (told_check (time_rule (0x32 ∷ 0x30 ∷ 0x32 ∷ 0x33 ∷ 0x30 ∷ 0x37 ∷ 0x33 ∷ 0x31 ∷ 0x30 ∷ 0x30 ∷ 0x30 ∷ 0x30 ∷ 0x30 ∷ 0x30 ∷ 0x5A ∷ [])), told_none done)
    ∷ (told_check (time_rule (0x32 ∷ 0x30 ∷ 0x32 ∷ 0x33 ∷ 0x30 ∷ 0x38 ∷ 0x33 ∷ 0x31 ∷ 0x30 ∷ 0x30 ∷ 0x30 ∷ 0x30 ∷ 0x30 ∷ 0x30 ∷ 0x5A ∷ [])), told_none done)
    ∷ (told_check (time_rule (0x32 ∷ 0x30 ∷ 0x32 ∷ 0x33 ∷ 0x30 ∷ 0x39 ∷ 0x33 ∷ 0x30 ∷ 0x30 ∷ 0x30 ∷ 0x30 ∷ 0x30 ∷ 0x30 ∷ 0x30 ∷ 0x5A ∷ [])), told_none done)
    ∷ (told_check (time_rule (0x32 ∷ 0x30 ∷ 0x32 ∷ 0x33 ∷ 0x31 ∷ 0x30 ∷ 0x33 ∷ 0x31 ∷ 0x30 ∷ 0x30 ∷ 0x30 ∷ 0x30 ∷ 0x30 ∷ 0x30 ∷ 0x5A ∷ [])), told_none done)
    ∷ (told_check (time_rule (0x32 ∷ 0x30 ∷ 0x32 ∷ 0x33 ∷ 0x31 ∷ 0x31 ∷ 0x33 ∷ 0x30 ∷ 0x30 ∷ 0x30 ∷ 0x30 ∷ 0x30 ∷ 0x30 ∷ 0x30 ∷ 0x5A ∷ [])), told_none done)
    ∷ (told_check (time_rule (0x32 ∷ 0x30 ∷ 0x32 ∷ 0x33 ∷ 0x31 ∷ 0x32 ∷ 0x33 ∷ 0x31 ∷ 0x30 ∷ 0x30 ∷ 0x30 ∷ 0x30 ∷ 0x30 ∷ 0x30 ∷ 0x5A ∷ [])), told_none done)
    ∷ (told_check (time_rule (0x31 ∷ 0x39 ∷ 0x30 ∷ 0x30 ∷ 0x30 ∷ 0x32 ∷ 0x32 ∷ 0x39 ∷ 0x30 ∷ 0x30 ∷ 0x30 ∷ 0x30 ∷ 0x30 ∷ 0x30 ∷ 0x5A ∷ [])), gets BadTime)
    ∷ (told_check (time_rule (0x32 ∷ 0x30 ∷ 0x32 ∷ 0x33 ∷ 0x30 ∷ 0x32 ∷ 0x32 ∷ 0x39 ∷ 0x30 ∷ 0x30 ∷ 0x30 ∷ 0x30 ∷ 0x30 ∷ 0x30 ∷ 0x5A ∷ [])), gets BadTime)
    ∷ (told_check (time_rule (0x32 ∷ 0x31 ∷ 0x30 ∷ 0x30 ∷ 0x30 ∷ 0x32 ∷ 0x32 ∷ 0x39 ∷ 0x30 ∷ 0x30 ∷ 0x30 ∷ 0x30 ∷ 0x30 ∷ 0x30 ∷ 0x5A ∷ [])), gets BadTime)
    ∷ (told_check (time_rule (0x32 ∷ 0x30 ∷ 0x32 ∷ 0x34 ∷ 0x30 ∷ 0x32 ∷ 0x33 ∷ 0x30 ∷ 0x30 ∷ 0x30 ∷ 0x30 ∷ 0x30 ∷ 0x30 ∷ 0x30 ∷ 0x5A ∷ [])), gets BadTime)
    ∷ (told_check (time_rule (0x32 ∷ 0x30 ∷ 0x32 ∷ 0x33 ∷ 0x30 ∷ 0x34 ∷ 0x33 ∷ 0x31 ∷ 0x30 ∷ 0x30 ∷ 0x30 ∷ 0x30 ∷ 0x30 ∷ 0x30 ∷ 0x5A ∷ [])), gets BadTime)
    ∷ (told_check (time_rule (0x32 ∷ 0x30 ∷ 0x32 ∷ 0x33 ∷ 0x30 ∷ 0x36 ∷ 0x33 ∷ 0x31 ∷ 0x30 ∷ 0x30 ∷ 0x30 ∷ 0x30 ∷ 0x30 ∷ 0x30 ∷ 0x5A ∷ [])), gets BadTime)
    ∷ (told_check (time_rule (0x32 ∷ 0x30 ∷ 0x32 ∷ 0x33 ∷ 0x30 ∷ 0x39 ∷ 0x33 ∷ 0x31 ∷ 0x30 ∷ 0x30 ∷ 0x30 ∷ 0x30 ∷ 0x30 ∷ 0x30 ∷ 0x5A ∷ [])), gets BadTime)
    ∷ (told_check (time_rule (0x32 ∷ 0x30 ∷ 0x32 ∷ 0x33 ∷ 0x31 ∷ 0x31 ∷ 0x33 ∷ 0x31 ∷ 0x30 ∷ 0x30 ∷ 0x30 ∷ 0x30 ∷ 0x30 ∷ 0x30 ∷ 0x5A ∷ [])), gets BadTime)
    ∷ (told_check (time_rule (0x32 ∷ 0x30 ∷ 0x32 ∷ 0x33 ∷ 0x30 ∷ 0x31 ∷ 0x33 ∷ 0x32 ∷ 0x30 ∷ 0x30 ∷ 0x30 ∷ 0x30 ∷ 0x30 ∷ 0x30 ∷ 0x5A ∷ [])), gets BadTime)
    ∷ (told_check (time_rule (0x32 ∷ 0x30 ∷ 0x32 ∷ 0x33 ∷ 0x30 ∷ 0x31 ∷ 0x30 ∷ 0x30 ∷ 0x30 ∷ 0x30 ∷ 0x30 ∷ 0x30 ∷ 0x30 ∷ 0x30 ∷ 0x5A ∷ [])), gets BadTime)
    ∷ (told_check (time_rule (0x32 ∷ 0x30 ∷ 0x32 ∷ 0x33 ∷ 0x30 ∷ 0x30 ∷ 0x30 ∷ 0x31 ∷ 0x30 ∷ 0x30 ∷ 0x30 ∷ 0x30 ∷ 0x30 ∷ 0x30 ∷ 0x5A ∷ [])), gets BadTime)
    ∷ (told_check (time_rule (0x32 ∷ 0x30 ∷ 0x32 ∷ 0x33 ∷ 0x31 ∷ 0x33 ∷ 0x30 ∷ 0x31 ∷ 0x30 ∷ 0x30 ∷ 0x30 ∷ 0x30 ∷ 0x30 ∷ 0x30 ∷ 0x5A ∷ [])), gets BadTime)
    ∷ (told_check (time_rule (0x32 ∷ 0x30 ∷ 0x32 ∷ 0x33 ∷ 0x30 ∷ 0x31 ∷ 0x30 ∷ 0x31 ∷ 0x32 ∷ 0x34 ∷ 0x30 ∷ 0x30 ∷ 0x30 ∷ 0x30 ∷ 0x5A ∷ [])), gets BadTime)
    ∷ (told_check (time_rule (0x32 ∷ 0x30 ∷ 0x32 ∷ 0x33 ∷ 0x30 ∷ 0x31 ∷ 0x30 ∷ 0x31 ∷ 0x30 ∷ 0x30 ∷ 0x36 ∷ 0x30 ∷ 0x30 ∷ 0x30 ∷ 0x5A ∷ [])), gets BadTime)
    ∷ (told_check (time_rule (0x32 ∷ 0x30 ∷ 0x32 ∷ 0x33 ∷ 0x30 ∷ 0x31 ∷ 0x30 ∷ 0x31 ∷ 0x30 ∷ 0x30 ∷ 0x30 ∷ 0x30 ∷ 0x36 ∷ 0x30 ∷ 0x5A ∷ [])), gets BadTime)
    ∷ (told_check (time_rule (0x32 ∷ 0x30 ∷ 0x32 ∷ 0x33 ∷ 0x30 ∷ 0x31 ∷ 0x30 ∷ 0x31 ∷ 0x30 ∷ 0x30 ∷ 0x30 ∷ 0x30 ∷ 0x30 ∷ 0x30 ∷ [])), gets BadTime)
    ∷ (told_check (time_rule (0x32 ∷ 0x30 ∷ 0x32 ∷ 0x33 ∷ 0x30 ∷ 0x31 ∷ 0x30 ∷ 0x31 ∷ 0x30 ∷ 0x30 ∷ 0x30 ∷ 0x30 ∷ 0x30 ∷ 0x5A ∷ [])), gets BadTime)
    ∷ (told_check (time_rule (0x32 ∷ 0x30 ∷ 0x32 ∷ 0x33 ∷ 0x30 ∷ 0x31 ∷ 0x30 ∷ 0x31 ∷ 0x30 ∷ 0x30 ∷ 0x30 ∷ 0x30 ∷ 0x30 ∷ 0x30 ∷ 0x7A ∷ [])), gets BadTime)
    ∷ (told_check (time_rule (0x32 ∷ 0x30 ∷ 0x32 ∷ 0x33 ∷ 0x30 ∷ 0x31 ∷ 0x30 ∷ 0x31 ∷ 0x30 ∷ 0x30 ∷ 0x30 ∷ 0x30 ∷ 0x30 ∷ 0x30 ∷ 0x2B ∷ [])), gets BadTime)
    ∷ (told_check (time_rule (0x32 ∷ 0x30 ∷ 0x32 ∷ 0x33 ∷ 0x30 ∷ 0x31 ∷ 0x30 ∷ 0x31 ∷ 0x30 ∷ 0x30 ∷ 0x30 ∷ 0x30 ∷ 0x30 ∷ 0x30 ∷ 0x5A ∷ 0x5A ∷ [])), gets BadTime)
    ∷ (told_check (time_rule (0x32 ∷ 0x30 ∷ 0x32 ∷ 0x33 ∷ 0x30 ∷ 0x31 ∷ 0x30 ∷ 0x31 ∷ 0x30 ∷ 0x30 ∷ 0x30 ∷ 0x30 ∷ 0x30 ∷ 0x30 ∷ 0x2E ∷ 0x35 ∷ 0x5A ∷ [])), gets BadTime)
    ∷ (told_check (time_rule (0x32 ∷ 0x30 ∷ 0x32 ∷ 0x33 ∷ 0x30 ∷ 0x31 ∷ 0x30 ∷ 0x31 ∷ 0x30 ∷ 0x30 ∷ 0x30 ∷ 0x30 ∷ 0x30 ∷ 0x3A ∷ 0x5A ∷ [])), gets BadTime)
    ∷ (told_check (time_rule (0x32 ∷ 0x30 ∷ 0x32 ∷ 0x33 ∷ 0x30 ∷ 0x31 ∷ 0x30 ∷ 0x31 ∷ 0x30 ∷ 0x30 ∷ 0x30 ∷ 0x30 ∷ 0x30 ∷ 0x2F ∷ 0x5A ∷ [])), gets BadTime)
    -- the thirty-second of each other month of 31 days
    ∷ (told_check (time_rule (0x32 ∷ 0x30 ∷ 0x32 ∷ 0x33 ∷ 0x30 ∷ 0x33 ∷ 0x33 ∷ 0x32 ∷ 0x30 ∷ 0x30 ∷ 0x30 ∷ 0x30 ∷ 0x30 ∷ 0x30 ∷ 0x5A ∷ [])), gets BadTime)
    ∷ (told_check (time_rule (0x32 ∷ 0x30 ∷ 0x32 ∷ 0x33 ∷ 0x30 ∷ 0x35 ∷ 0x33 ∷ 0x32 ∷ 0x30 ∷ 0x30 ∷ 0x30 ∷ 0x30 ∷ 0x30 ∷ 0x30 ∷ 0x5A ∷ [])), gets BadTime)
    ∷ (told_check (time_rule (0x32 ∷ 0x30 ∷ 0x32 ∷ 0x33 ∷ 0x30 ∷ 0x37 ∷ 0x33 ∷ 0x32 ∷ 0x30 ∷ 0x30 ∷ 0x30 ∷ 0x30 ∷ 0x30 ∷ 0x30 ∷ 0x5A ∷ [])), gets BadTime)
    ∷ (told_check (time_rule (0x32 ∷ 0x30 ∷ 0x32 ∷ 0x33 ∷ 0x30 ∷ 0x38 ∷ 0x33 ∷ 0x32 ∷ 0x30 ∷ 0x30 ∷ 0x30 ∷ 0x30 ∷ 0x30 ∷ 0x30 ∷ 0x5A ∷ [])), gets BadTime)
    ∷ (told_check (time_rule (0x32 ∷ 0x30 ∷ 0x32 ∷ 0x33 ∷ 0x31 ∷ 0x30 ∷ 0x33 ∷ 0x32 ∷ 0x30 ∷ 0x30 ∷ 0x30 ∷ 0x30 ∷ 0x30 ∷ 0x30 ∷ 0x5A ∷ [])), gets BadTime)
    ∷ (told_check (time_rule (0x32 ∷ 0x30 ∷ 0x32 ∷ 0x33 ∷ 0x31 ∷ 0x32 ∷ 0x33 ∷ 0x32 ∷ 0x30 ∷ 0x30 ∷ 0x30 ∷ 0x30 ∷ 0x30 ∷ 0x30 ∷ 0x5A ∷ [])), gets BadTime)
    ∷ (told_check (time_rule ([])), gets BadTime)
    ∷ (told_check (time_rule (0x5A ∷ [])), gets BadTime)
    ∷ []

-- ---- one statement over all of them

abbrev examples : List Row
examples = integers ++ kinds ++ sizes ++ versions ++ names ++ printables ++ ia5s ++ empties ++ header_names ++ octets ++ values ++ bit_strings ++ booleans ++ identifiers ++ times

all_examples : asks examples ≡ answers examples
unfolding evaluate
all_examples = agreed examples tt

-- ---- both ends of the signed numbers, and the ends of each width

abbrev ends : List ℤ
ends = negsuc (2 ^ 63 - 1) ∷ negsuc 128 ∷ negsuc 127 ∷ negsuc 0 ∷ pos 0 ∷ pos 127 ∷ pos 128 ∷ pos 255 ∷ pos 256 ∷ pos (2 ^ 63 - 1) ∷ []

abbrev contents : List ℤ → List (List ℕ)
contents [] = []
contents (z ∷ zs) = content_of z ∷ contents zs

ends-written : contents ends ≡
    (0x80 ∷ 0x00 ∷ 0x00 ∷ 0x00 ∷ 0x00 ∷ 0x00 ∷ 0x00 ∷ 0x00 ∷ [])
    ∷ (0xFF ∷ 0x7F ∷ [])
    ∷ (0x80 ∷ [])
    ∷ (0xFF ∷ [])
    ∷ (0x00 ∷ [])
    ∷ (0x7F ∷ [])
    ∷ (0x00 ∷ 0x80 ∷ [])
    ∷ (0x00 ∷ 0xFF ∷ [])
    ∷ (0x01 ∷ 0x00 ∷ [])
    ∷ (0x7F ∷ 0xFF ∷ 0xFF ∷ 0xFF ∷ 0xFF ∷ 0xFF ∷ 0xFF ∷ 0xFF ∷ [])
    ∷ []
unfolding evaluate
ends-written = refl

-- ---- times of the findings: 0 and what has more than fourteen digits are no dates, 101000000 is the first of January of year 0000

abbrev reals : List ℕ → List Bool
reals [] = []
reals (n ∷ ns) = is_real n ∷ reals ns

real_times : reals (0 ∷ 101000000 ∷ 229000000 ∷ 20240701000000 ∷ 99991231235959 ∷ 20240230000000 ∷ 100000101000000 ∷ []) ≡ false ∷ true ∷ true ∷ true ∷ true ∷ false ∷ false ∷ []
unfolding evaluate
real_times = refl

-- ---- a record's time as a moment, and one moment not later than another

moment-of : moment_of (0x32 ∷ 0x30 ∷ 0x32 ∷ 0x32 ∷ 0x30 ∷ 0x34 ∷ 0x30 ∷ 0x35 ∷ 0x30 ∷ 0x36 ∷ 0x30 ∷ 0x37 ∷ 0x30 ∷ 0x38 ∷ 0x5A ∷ []) ≡ moment_at 20220405060708
unfolding evaluate
moment-of = refl

not-later : not_later (moment_at 1) (moment_at 2) ∷ not_later (moment_at 2) (moment_at 2) ∷ not_later (moment_at 3) (moment_at 2) ∷ [] ≡ true ∷ true ∷ false ∷ []
unfolding evaluate
not-later = refl
