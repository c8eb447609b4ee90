-- The primitive items of document 01: what each holds, and its section in a sheet. Assumes nothing.
use Rattle.std.specs.Prelude.{Bool, List, [], ◌∷◌, ℕ, ℤ}
use Rattle.std.proofs.Math.Option.{Option, some}
use Rattle.terms.specs.declared.Reason.{Reason}
use Rattle.terms.specs.declared.Reason.TheVariants.{NotAllowed, NotEs}
use Rattle.terms.specs.Answer.{never_empty}
use Rattle.contents.specs.Content.{Check}
use Rattle.contents.specs.Integer.{stretch, unstretch, any}
use Rattle.contents.specs.Text as Text
use Rattle.contents.specs.Time.{time_rule}
use Rattle.contents.specs.Rules.{integer_rule, string_rule, octets_rule, identifier_rule, boolean_rule, only_rule}

-- what a value is: bytes that pass a rule, or an integer of the numbers that are allowed
pub data Holding : Type 0 where
  bytes : (List ℕ → Check) → Holding
  number : (ℤ → Bool) → Holding

-- a primitive item: its tag, what stands before the value in every content, and the value
pub record Leaf : Type 0 where
  pub tag : ℕ
  pub front : List ℕ
  pub holds : Holding

abbrev pub rule_of : Holding → List ℕ → Check
rule_of (bytes rule) v = rule v
rule_of (number allowed) v = integer_rule allowed v

-- "A string, identifier or time is a section of its content bytes (a bit string without its 00). An integer is a section of 8 bytes."
abbrev pub section_of : Holding → List ℕ → List ℕ
section_of (bytes rule) v = v
section_of (number allowed) v = stretch v

-- the value that a section has, if it has one
abbrev pub value_in : Holding → List ℕ → Option (List ℕ)
value_in (bytes rule) x = some x
value_in (number allowed) x = unstretch x

-- ---- by name

abbrev plain : ℕ → (List ℕ → Check) → Leaf
plain t rule = record { tag = t; front = []; holds = bytes rule }

abbrev pub integer : (ℤ → Bool) → Leaf
integer allowed = record { tag = 0x02; front = []; holds = number allowed }

-- "BIT STRING: first byte 00, then whole bytes"
abbrev pub bit_string : Leaf
bit_string = record { tag = 0x03; front = 0x00 ∷ []; holds = bytes (octets_rule never_empty) }

abbrev pub octet_string : Bool → Leaf
octet_string e = plain 0x04 (octets_rule e)

abbrev pub identifier : Leaf
identifier = plain 0x06 identifier_rule

abbrev pub utf8_string : Bool → Leaf
utf8_string e = plain 0x0C (string_rule Text.utf8 e)

abbrev pub printable_string : Bool → Leaf
printable_string e = plain 0x13 (string_rule Text.printable e)

abbrev pub ia5_string : Bool → Leaf
ia5_string e = plain 0x16 (string_rule Text.ia5 e)

abbrev pub generalized_time : Leaf
generalized_time = plain 0x18 time_rule

-- "critical, BOOLEAN"
abbrev pub boolean : Leaf
boolean = plain 0x01 boolean_rule

-- a primitive item that has one content only, and why any other is refused, after its own rule
pub record Known : Type 0 where
  pub leaf : Leaf
  pub content : List ℕ
  pub other : Reason

abbrev pub known_rule : Known → List ℕ → Check
known_rule k = only_rule (rule_of k.leaf.holds) k.content k.other

-- it is a primitive item whose rule admits that content alone
abbrev pub only : Known → Leaf
only k = plain k.leaf.tag (known_rule k)

-- "IA5String "ES"": 14, 9, then 8
abbrev pub header_name : Known
header_name = record { leaf = ia5_string never_empty; content = 0x45 ∷ 0x53 ∷ []; other = NotEs }

-- "INTEGER 4": 6, then 7
abbrev pub version : Known
version = record { leaf = integer any; content = 0x04 ∷ []; other = NotAllowed }
