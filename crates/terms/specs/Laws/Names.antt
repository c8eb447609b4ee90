-- The numbers of the names: each is below their count, each number below that is one name's, and a name is that of its number. Assumes nothing.
use Rattle.std.specs.Prelude.{◌≡◌, refl, ℕ, suc, zero, ◌+◌, ◌<◌, Bool, true, ◌&&◌, List, [], ◌∷◌, length, get_or, T, eqb}
use Rattle.std.proofs.Common.{◌∙◌, arith, eqb→eq, lit<}
use Rattle.terms.specs.declared.Field.{Field}
use Rattle.terms.specs.declared.Field.TheVariants.{SealInformation, Header, Vendor, SealId, Property, SealType, SealName, ListKind, CertificateList, ListedCertificate, ListedEntry, ListedType, ListedDigest, Created, Start, End, Picture, PictureType, PictureData, Width, Height, SealCustomData, SealCustomItem, SealCustomId, SealCustomCritical, SealCustomValue, MakerCertificate, SealAlgorithm, SealSignedValue, SignedPart, Seal, SigningTime, OriginalDigest, PropertyText, SignedCustomData, SignedCustomItem, SignedCustomId, SignedCustomCritical, SignedCustomValue, SignerCertificate, SignatureAlgorithm, SignatureValue, Stamp}
use Rattle.terms.specs.Names.{code, names_count, names, name_of}
use Rattle.terms.specs.Laws.Answer.{and_l, and_r}

pub code_below : (f : Field) → code f < names_count
code_below SealInformation = lit< tt
code_below Header = lit< tt
code_below Vendor = lit< tt
code_below SealId = lit< tt
code_below Property = lit< tt
code_below SealType = lit< tt
code_below SealName = lit< tt
code_below ListKind = lit< tt
code_below CertificateList = lit< tt
code_below ListedCertificate = lit< tt
code_below ListedEntry = lit< tt
code_below ListedType = lit< tt
code_below ListedDigest = lit< tt
code_below Created = lit< tt
code_below Start = lit< tt
code_below End = lit< tt
code_below Picture = lit< tt
code_below PictureType = lit< tt
code_below PictureData = lit< tt
code_below Width = lit< tt
code_below Height = lit< tt
code_below SealCustomData = lit< tt
code_below SealCustomItem = lit< tt
code_below SealCustomId = lit< tt
code_below SealCustomCritical = lit< tt
code_below SealCustomValue = lit< tt
code_below MakerCertificate = lit< tt
code_below SealAlgorithm = lit< tt
code_below SealSignedValue = lit< tt
code_below SignedPart = lit< tt
code_below Seal = lit< tt
code_below SigningTime = lit< tt
code_below OriginalDigest = lit< tt
code_below PropertyText = lit< tt
code_below SignedCustomData = lit< tt
code_below SignedCustomItem = lit< tt
code_below SignedCustomId = lit< tt
code_below SignedCustomCritical = lit< tt
code_below SignedCustomValue = lit< tt
code_below SignerCertificate = lit< tt
code_below SignatureAlgorithm = lit< tt
code_below SignatureValue = lit< tt
code_below Stamp = lit< tt

-- the test that is computed over them
in_order : ℕ → List Field → Bool
in_order k [] = true
in_order k (f ∷ fs) = eqb (code f) k && in_order (suc k) fs

-- in a list that passes it a name's number says its place
in_order_lem : (k : ℕ) (fs : List Field) → T (in_order k fs) → (i : ℕ) → i < length fs → (f : Field) → code (get_or fs i f) ≡ k + i
unfolding in_order
in_order_lem k [] t i h f = absurd (omega arith)
in_order_lem k (x ∷ xs) t zero h f = eqb→eq (code x) k (and_l (eqb (code x) k) (in_order (suc k) xs) t) ∙ omega arith
in_order_lem k (x ∷ xs) t (suc i) h f = in_order_lem (suc k) xs (and_r (eqb (code x) k) (in_order (suc k) xs) t) i (omega arith) f ∙ omega arith

pub code_name : (i : ℕ) → i < names_count → code (name_of i) ≡ i
unfolding in_order
code_name i h = in_order_lem 0 names tt i h SealInformation ∙ omega arith

-- a name is that of its number
pub name_code : (f : Field) → name_of (code f) ≡ f
name_code SealInformation = refl
name_code Header = refl
name_code Vendor = refl
name_code SealId = refl
name_code Property = refl
name_code SealType = refl
name_code SealName = refl
name_code ListKind = refl
name_code CertificateList = refl
name_code ListedCertificate = refl
name_code ListedEntry = refl
name_code ListedType = refl
name_code ListedDigest = refl
name_code Created = refl
name_code Start = refl
name_code End = refl
name_code Picture = refl
name_code PictureType = refl
name_code PictureData = refl
name_code Width = refl
name_code Height = refl
name_code SealCustomData = refl
name_code SealCustomItem = refl
name_code SealCustomId = refl
name_code SealCustomCritical = refl
name_code SealCustomValue = refl
name_code MakerCertificate = refl
name_code SealAlgorithm = refl
name_code SealSignedValue = refl
name_code SignedPart = refl
name_code Seal = refl
name_code SigningTime = refl
name_code OriginalDigest = refl
name_code PropertyText = refl
name_code SignedCustomData = refl
name_code SignedCustomItem = refl
name_code SignedCustomId = refl
name_code SignedCustomCritical = refl
name_code SignedCustomValue = refl
name_code SignerCertificate = refl
name_code SignatureAlgorithm = refl
name_code SignatureValue = refl
name_code Stamp = refl
