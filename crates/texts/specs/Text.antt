-- The characters of each alphabet. Assumes nothing.
use Rattle.std.specs.Prelude.{List}
use Rattle.contents.specs.Text.{Character, ia5, printable, utf8}
use Rattle.texts.specs.declared.Alphabet.{Alphabet}
use Rattle.texts.specs.declared.Alphabet.TheVariants.{Ia5, Printable, Utf8}

abbrev pub characters_of : Alphabet → List Character
characters_of Ia5 = ia5
characters_of Printable = printable
characters_of Utf8 = utf8
