-- Lines of a screen, evaluated: names, depths and kinds of content as document 01's layout has them. Assumes nothing.
use Rattle.std.specs.Prelude.{◌≡◌, refl, ℕ, [], ◌∷◌, take, drop}
use Rattle.terms.specs.declared.Field.{Field}
use Rattle.terms.specs.declared.Field.TheVariants.{SealInformation, Header, Vendor, ListKind, CertificateList, ListedCertificate, ListedEntry, ListedType, ListedDigest, Created, SignedPart, Seal, PropertyText, SignedCustomData, SignedCustomItem, SignedCustomId, SignedCustomCritical, SignedCustomValue, SignerCertificate, SignatureAlgorithm, SignatureValue, Stamp}
use Rattle.screen_rows.specs.Screen.{rows, row_on, name_on}
use Rattle.screen_rows.specs.declared.Row.{Row}
use Rattle.screen_rows.specs.declared.Shows.{Shows}
use Rattle.screen_rows.specs.declared.Shows.TheVariants.{Structure, Text, Time, Number, Identifier, Bytes, Critical}
use Rattle.screen_rows.specs.declared.Shows.TheVariants as shows

abbrev line : Field → ℕ → Shows → Row
line f d s = record { 0 = f; 1 = d; 2 = s }

-- down to the vendor: "ES" and the two 4s have no line
first_lines : take 5 rows ≡ line SignedPart 0 Structure ∷ line Seal 1 Structure ∷ line SealInformation 2 Structure ∷ line Header 3 Structure ∷ line Vendor 4 Text ∷ []
first_lines = refl

-- the list kind, the list with the items of either kind, and what follows
list_lines : take 7 (drop 9 rows)
    ≡ line ListKind 4 Number ∷ line CertificateList 4 shows.List ∷ line ListedCertificate 5 Bytes ∷ line ListedEntry 5 Structure ∷ line ListedType 6 Text ∷ line ListedDigest 6 Bytes ∷ line Created 4 Time ∷ []
list_lines = refl

-- from the text to the end: [0] has no line of its own
last_lines : drop 33 rows
    ≡ line PropertyText 1 Text ∷ line SignedCustomData 1 shows.List ∷ line SignedCustomItem 2 Structure ∷ line SignedCustomId 3 Identifier ∷ line SignedCustomCritical 3 Critical ∷ line SignedCustomValue 3 Bytes
    ∷ line SignerCertificate 0 Bytes ∷ line SignatureAlgorithm 0 Identifier ∷ line SignatureValue 0 Bytes ∷ line Stamp 0 Bytes ∷ []
last_lines = refl

-- by their numbers
numbered_lines : row_on 9 ∷ row_on 42 ∷ row_on 43 ∷ [] ≡ line ListKind 4 Number ∷ line Stamp 0 Bytes ∷ line SignedPart 0 Structure ∷ []
numbered_lines = refl

numbered-names : name_on 9 ∷ name_on 42 ∷ name_on 43 ∷ [] ≡ ListKind ∷ Stamp ∷ SignedPart ∷ []
numbered-names = refl
