-- The layouts of document 01, "Layout (000, 6.1 and 7.1)", line by line; the parts of a structure stand above it. Assumes nothing.
use Rattle.terms.specs.declared.Field.{Field}
use Rattle.terms.specs.declared.Field.TheVariants.{SealInformation, Header, Vendor, SealId, Property, SealType, SealName, ListKind, CertificateList, ListedCertificate, ListedEntry, ListedType, ListedDigest, Created, Start, End, Picture, PictureType, PictureData, Width, Height, SealCustomData, SealCustomItem, SealCustomId, SealCustomCritical, SealCustomValue, MakerCertificate, SealAlgorithm, SealSignedValue, SignedPart, Seal, SigningTime, OriginalDigest, PropertyText, SignedCustomData, SignedCustomItem, SignedCustomId, SignedCustomCritical, SignedCustomValue, SignerCertificate, SignatureAlgorithm, SignatureValue, Stamp}
use Rattle.terms.specs.Numbers.{most_items}
use Rattle.terms.specs.Answer.{may_be_empty, never_empty}
use Rattle.contents.specs.Integer.{any, is_kind, says_kind1, is_millimetres}
use Rattle.contents.specs.Leaves.{Leaf, integer, bit_string, octet_string, identifier, utf8_string, printable_string, ia5_string, generalized_time, header_name, version}
use Rattle.layouts.specs.Layout.{Item, leaf, node, list, wrap, Members, end, ◌▸◌, Member, known, one, maybe, flag, choose}
use Rattle.layouts.specs.Whole.{sequence}

-- ---- ways of writing it

-- a field that is a primitive item
abbrev field : Field → Leaf → Member
field f l = one f (leaf l)

-- a field that is a SEQUENCE
abbrev part : Field → Members → Member
part f r = one f (node sequence r)

-- "[0] is explicit: A0 around one whole item."
abbrev pub tagged_0 : Item → Item
tagged_0 i = wrap 0xA0 i

-- ---- the seal

-- "Header, SEQUENCE: IA5String "ES"; INTEGER 4; vendor, IA5String."
abbrev pub header : Members
header = known header_name ▸ known version ▸ field Vendor (ia5_string may_be_empty) ▸ end

-- "Certificate list, SEQUENCE of 1 to 64 items. Kind 1: each a certificate, OCTET STRING."
abbrev pub certificates : Item
certificates = list sequence never_empty most_items ListedCertificate (leaf (octet_string never_empty))

-- "Kind 2: each a SEQUENCE of a PrintableString and a digest, OCTET STRING."
abbrev pub digest : Members
digest = field ListedType (printable_string may_be_empty) ▸ field ListedDigest (octet_string never_empty) ▸ end

abbrev pub digests : Item
digests = list sequence never_empty most_items ListedEntry (node sequence digest)

-- "list kind, INTEGER 1 or 2; certificate list": "The kind already read decides."
abbrev pub kind_and_list : Member
kind_and_list = choose ListKind (integer is_kind) says_kind1 CertificateList certificates digests

-- "Property, SEQUENCE: type, INTEGER; name, UTF8String; list kind, INTEGER 1 or 2; certificate list; created, start and end, GeneralizedTime."
abbrev pub property : Members
property =
    field SealType (integer any) ▸ field SealName (utf8_string may_be_empty)
    ▸ kind_and_list
    ▸ field Created generalized_time ▸ field Start generalized_time ▸ field End generalized_time ▸ end

-- "Picture, SEQUENCE: type, IA5String; data, OCTET STRING; width and height in mm, INTEGER 1 to 65,535 (a house bound)."
abbrev pub picture : Members
picture =
    field PictureType (ia5_string never_empty) ▸ field PictureData (octet_string never_empty)
    ▸ field Width (integer is_millimetres) ▸ field Height (integer is_millimetres) ▸ end

-- "Custom data, SEQUENCE of 0 to 64 SEQUENCEs: OBJECT IDENTIFIER; critical, BOOLEAN default FALSE; value, OCTET STRING."
-- It stands in a seal and in a signed part, under names of each.
abbrev pub custom_item : Field → Field → Field → Members
custom_item id critical value' = field id identifier ▸ flag critical ▸ field value' (octet_string may_be_empty) ▸ end

abbrev custom_data : Field → Members → Item
custom_data item members = list sequence may_be_empty most_items item (node sequence members)

abbrev pub seal_custom_item : Members
seal_custom_item = custom_item SealCustomId SealCustomCritical SealCustomValue

abbrev pub seal_custom_data : Item
seal_custom_data = custom_data SealCustomItem seal_custom_item

abbrev pub signed_custom_item : Members
signed_custom_item = custom_item SignedCustomId SignedCustomCritical SignedCustomValue

abbrev pub signed_custom_data : Item
signed_custom_data = custom_data SignedCustomItem signed_custom_item

-- "Seal information, SEQUENCE: header; seal id, IA5String; property; picture; custom data, optional, untagged."
abbrev pub seal_information : Members
seal_information =
    part Header header ▸ field SealId (ia5_string never_empty) ▸ part Property property ▸ part Picture picture
    ▸ maybe SealCustomData seal_custom_data ▸ end

-- "Seal, SEQUENCE: seal information; maker certificate, OCTET STRING; algorithm, OBJECT IDENTIFIER; signed value, BIT STRING."
abbrev pub seal : Members
seal = part SealInformation seal_information ▸ field MakerCertificate (octet_string never_empty) ▸ field SealAlgorithm identifier ▸ field SealSignedValue bit_string ▸ end

-- ---- the signature record

-- "Signed part, SEQUENCE: INTEGER 4; seal; signing time, GeneralizedTime; original digest, BIT STRING; property text, IA5String;
-- custom data, [0], optional."
abbrev pub signed_part : Members
signed_part =
    known version ▸ part Seal seal ▸ field SigningTime generalized_time ▸ field OriginalDigest bit_string ▸ field PropertyText (ia5_string never_empty)
    ▸ maybe SignedCustomData (tagged_0 signed_custom_data) ▸ end

-- "Signature record, SEQUENCE: signed part; signer certificate, OCTET STRING; algorithm; signature, BIT STRING; stamp, [0] BIT STRING, optional."
abbrev pub signature : Members
signature =
    part SignedPart signed_part ▸ field SignerCertificate (octet_string never_empty) ▸ field SignatureAlgorithm identifier ▸ field SignatureValue bit_string
    ▸ maybe Stamp (tagged_0 (leaf bit_string)) ▸ end
