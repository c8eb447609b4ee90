-- The names of a record's fields: which are the same. Assumes nothing.
use Rattle.std.specs.Prelude.{ℕ, Bool, List, [], ◌∷◌, get_or, eqb}
use Rattle.terms.specs.declared.Field.{Field}
use Rattle.terms.specs.declared.Field.TheVariants.{SealInformation, Header, Vendor, SealId, Property, SealType, SealName, ListKind, CertificateList, ListedCertificate, ListedEntry, ListedType, ListedDigest, Created, Start, End, Picture, PictureType, PictureData, Width, Height, SealCustomData, SealCustomItem, SealCustomId, SealCustomCritical, SealCustomValue, MakerCertificate, SealAlgorithm, SealSignedValue, SignedPart, Seal, SigningTime, OriginalDigest, PropertyText, SignedCustomData, SignedCustomItem, SignedCustomId, SignedCustomCritical, SignedCustomValue, SignerCertificate, SignatureAlgorithm, SignatureValue, Stamp}

-- a number for each name
abbrev pub code : Field → ℕ
code SealInformation = 0
code Header = 1
code Vendor = 2
code SealId = 3
code Property = 4
code SealType = 5
code SealName = 6
code ListKind = 7
code CertificateList = 8
code ListedCertificate = 9
code ListedEntry = 10
code ListedType = 11
code ListedDigest = 12
code Created = 13
code Start = 14
code End = 15
code Picture = 16
code PictureType = 17
code PictureData = 18
code Width = 19
code Height = 20
code SealCustomData = 21
code SealCustomItem = 22
code SealCustomId = 23
code SealCustomCritical = 24
code SealCustomValue = 25
code MakerCertificate = 26
code SealAlgorithm = 27
code SealSignedValue = 28
code SignedPart = 29
code Seal = 30
code SigningTime = 31
code OriginalDigest = 32
code PropertyText = 33
code SignedCustomData = 34
code SignedCustomItem = 35
code SignedCustomId = 36
code SignedCustomCritical = 37
code SignedCustomValue = 38
code SignerCertificate = 39
code SignatureAlgorithm = 40
code SignatureValue = 41
code Stamp = 42

-- how many names there are
abbrev pub names_count : ℕ
names_count = 43

-- the names in the order of their numbers
abbrev pub names : List Field
names = SealInformation ∷ Header ∷ Vendor ∷ SealId ∷ Property ∷ SealType ∷ SealName ∷ ListKind ∷ CertificateList ∷ ListedCertificate ∷ ListedEntry ∷ ListedType ∷ ListedDigest ∷ Created ∷ Start ∷ End ∷ Picture ∷ PictureType ∷ PictureData ∷ Width ∷ Height ∷ SealCustomData ∷ SealCustomItem ∷ SealCustomId ∷ SealCustomCritical ∷ SealCustomValue ∷ MakerCertificate ∷ SealAlgorithm ∷ SealSignedValue ∷ SignedPart ∷ Seal ∷ SigningTime ∷ OriginalDigest ∷ PropertyText ∷ SignedCustomData ∷ SignedCustomItem ∷ SignedCustomId ∷ SignedCustomCritical ∷ SignedCustomValue ∷ SignerCertificate ∷ SignatureAlgorithm ∷ SignatureValue ∷ Stamp ∷ []

-- the name of a number
abbrev pub name_of : ℕ → Field
name_of i = get_or names i SealInformation

abbrev pub same_name : Field → Field → Bool
same_name f g = eqb (code f) (code g)
