-- What the names of the code's structures stand for: rows, items and builds as the layouts of `records`. Assumes nothing.
use Rattle.terms.specs.Answer.{never_empty}
use Rattle.contents.specs.Leaves as leaves
use Rattle.tags.specs.Tag.{tag_byte}
use Rattle.layouts.specs.Layout.{Item, leaf, node, list, wrap, Members}
use Rattle.layouts.specs.Whole.{sequence}
use Rattle.records.specs.Record as rules
use Rattle.primitives.specs.Primitive.{leaf_of}
use Rattle.structures.specs.declared.Row.{Row}
use Rattle.structures.specs.declared.Row.TheVariants as row
use Rattle.structures.specs.declared.Structure.{Structure}
use Rattle.structures.specs.declared.Structure.TheVariants as structure
use Rattle.structures.specs.declared.Build.{Build}
use Rattle.structures.specs.declared.Build.TheVariants as build

abbrev pub row_of : Row → Members
row_of row.Signature = rules.signature
row_of row.SignedPart = rules.signed_part
row_of row.Seal = rules.seal
row_of row.SealInformation = rules.seal_information
row_of row.Header = rules.header
row_of row.Property = rules.property
row_of row.Digest = rules.digest
row_of row.Picture = rules.picture
row_of row.SealCustomItem = rules.seal_custom_item
row_of row.SignedCustomItem = rules.signed_custom_item

abbrev pub layout_of : Structure → Item
layout_of structure.Signature = node sequence rules.signature
layout_of structure.SignedPart = node sequence rules.signed_part
layout_of structure.Seal = node sequence rules.seal
layout_of structure.SealInformation = node sequence rules.seal_information
layout_of structure.Header = node sequence rules.header
layout_of structure.Property = node sequence rules.property
layout_of structure.Certificates = rules.certificates
layout_of structure.Certificate = leaf (leaves.octet_string never_empty)
layout_of structure.Digests = rules.digests
layout_of structure.Digest = node sequence rules.digest
layout_of structure.Picture = node sequence rules.picture
layout_of structure.SealCustomData = rules.seal_custom_data
layout_of structure.SealCustomItem = node sequence rules.seal_custom_item
layout_of structure.TaggedCustomData = rules.tagged_0 rules.signed_custom_data
layout_of structure.SignedCustomData = rules.signed_custom_data
layout_of structure.SignedCustomItem = node sequence rules.signed_custom_item
layout_of structure.TaggedStamp = rules.tagged_0 (leaf leaves.bit_string)
layout_of structure.Stamp = leaf leaves.bit_string

-- an item by its build
abbrev pub item_of : Build → Item
item_of (build.Leaf p) = leaf (leaf_of p)
item_of (build.Node t r) = node (tag_byte t) (row_of r)
item_of (build.List t e n f x) = list (tag_byte t) e n f (layout_of x)
item_of (build.Wrap t x) = wrap (tag_byte t) (layout_of x)
