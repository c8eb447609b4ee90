-- What a verdict rests on in a record. Assumes nothing.
use Rattle.std.specs.Prelude.{◌≡◌, ℕ, Bool, true, false, List, Ok, Err, Some, None}
use Rattle.terms.specs.declared.Field.TheVariants.{Start, End, SigningTime, ListKind, SignerCertificate, OriginalDigest, Stamp}
use Rattle.terms.specs.Answer.{good, fault, pick, same, Answer}
use Rattle.contents.specs.Integer.{says_kind1}
use Rattle.contents.specs.Time.{moment_of}
use Rattle.layouts.specs.Layout.{Members, Values}
use Rattle.records.specs.Handing.{read_record}
use Rattle.records.specs.declared.Part.{Part}
use Rattle.records.specs.Found.{Found}
use Rattle.verdicts.specs.declared.Findings.{Findings}
use Rattle.verdicts.specs.Verdict.{Facts, facts_of, the, time_of, signing, signer_listed, stamped}
use Rattle.fields.specs.Handed.{part_under}
use Rattle.moments.specs.Moment.{moment_in}
use Rattle.matching.specs.Match.{bytes_at, match_under}
use Rattle.grounds.specs.declared.Grounds.{Grounds}

-- each of them is what the steps look at
abbrev pub Rests : Facts → Grounds → Type 0
Rests x g =
    (moment_in g.start ≡ time_of Start x) × (moment_in g.end ≡ time_of End x) × (moment_in g.signing ≡ signing x)
    × (g.listed ≡ signer_listed x) × (g.alike ≡ same x.original_digest (the OriginalDigest x)) × (g.stamped ≡ stamped x)

-- an accepted record's grounds, or the record's refusal
abbrev pub GroundOf : (r : Members) → List ℕ → List ℕ → List ℕ → Answer Grounds → Type 0
GroundOf r w original signer (Ok g) = (v : Values r) × (read_record r w ≡ good v) × ((f : Findings) → Rests (facts_of r v f original signer) g)
GroundOf r w original signer (Err e) = read_record r w ≡ fault e.reason e.place

-- what is sought in the list
unfoldable pub sought_under : List ℕ → List ℕ → List ℕ → List ℕ
sought_under signer s d = pick (says_kind1 (bytes_at s (part_under ListKind d))) (bytes_at s (part_under SignerCertificate d)) signer

-- whether an answer names a part
abbrev pub is_part : Found Part → Bool
is_part (Ok (Some p)) = true
is_part (Ok None) = false
is_part (Err e) = false

-- what a table of places leads to
abbrev pub Leads : List ℕ → List ℕ → List ℕ → List ℕ → Grounds → Type 0
Leads s d original signer g =
    (moment_in g.start ≡ moment_of (bytes_at s (part_under Start d))) × (moment_in g.end ≡ moment_of (bytes_at s (part_under End d)))
    × (moment_in g.signing ≡ moment_of (bytes_at s (part_under SigningTime d))) × (g.listed ≡ is_part (match_under (sought_under signer s d) s d))
    × (g.alike ≡ same original (bytes_at s (part_under OriginalDigest d))) × (g.stamped ≡ is_part (part_under Stamp d))
