-- What the names of the code's primitive items stand for. Assumes nothing.
use Rattle.std.specs.Prelude.{ℕ, Bool, true, false, List}
use Rattle.terms.specs.Answer.{may_be_empty, never_empty}
use Rattle.contents.specs.Integer.{any, is_kind, says_kind1, is_millimetres}
use Rattle.contents.specs.Leaves as leaves
use Rattle.contents.specs.Leaves.{Leaf}
use Rattle.primitives.specs.declared.Primitive.{Primitive}
use Rattle.primitives.specs.declared.Primitive.TheVariants.{Octets, AnyOctets, Bits, Ia5, AnyIa5, AnyPrintable, AnyUtf8, Identifier, Time, Integer, ListKind, Millimetres, Critical, HeaderName, Version}
use Rattle.primitives.specs.declared.Word.{Word}
use Rattle.primitives.specs.declared.Word.TheVariants as word
use Rattle.primitives.specs.declared.Content.{Content}
use Rattle.primitives.specs.declared.Content.TheVariants.{Kind1}

abbrev pub leaf_of : Primitive → Leaf
leaf_of Octets = leaves.octet_string never_empty
leaf_of AnyOctets = leaves.octet_string may_be_empty
leaf_of Bits = leaves.bit_string
leaf_of Ia5 = leaves.ia5_string never_empty
leaf_of AnyIa5 = leaves.ia5_string may_be_empty
leaf_of AnyPrintable = leaves.printable_string may_be_empty
leaf_of AnyUtf8 = leaves.utf8_string may_be_empty
leaf_of Identifier = leaves.identifier
leaf_of Time = leaves.generalized_time
leaf_of Integer = leaves.integer any
leaf_of ListKind = leaves.integer is_kind
leaf_of Millimetres = leaves.integer is_millimetres
leaf_of Critical = leaves.boolean
leaf_of HeaderName = leaves.only leaves.header_name
leaf_of Version = leaves.only leaves.version

abbrev pub known_of : Word → leaves.Known
known_of word.HeaderName = leaves.header_name
known_of word.Version = leaves.version

-- whether what a primitive item holds is a number
abbrev pub is_number : leaves.Holding → Bool
is_number (leaves.bytes rule) = false
is_number (leaves.number allowed) = true

-- whether a content is the one that is named
abbrev pub says : Content → List ℕ → Bool
says Kind1 = says_kind1
