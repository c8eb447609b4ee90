-- Tags and their bytes. Assumes nothing.
use Rattle.std.specs.Prelude.{◌≡◌, ℕ, Option, Some, None}
use Rattle.tags.specs.declared.Tag.{Tag}
use Rattle.tags.specs.declared.Tag.TheVariants.{Boolean, Integer, BitString, OctetString, Identifier, Utf8String, PrintableString, Ia5String, Time, Sequence, Context0}

abbrev pub tag_byte : Tag → ℕ
tag_byte Boolean = 0x01
tag_byte Integer = 0x02
tag_byte BitString = 0x03
tag_byte OctetString = 0x04
tag_byte Identifier = 0x06
tag_byte Utf8String = 0x0C
tag_byte PrintableString = 0x13
tag_byte Ia5String = 0x16
tag_byte Time = 0x18
tag_byte Sequence = 0x30
tag_byte Context0 = 0xA0

-- what is said of a byte is true of it
abbrev pub Tells : ℕ → Option Tag → Type 0
Tells b (Some t) = b ≡ tag_byte t
Tells b None = (t : Tag) → b ≡ tag_byte t → ⊥
