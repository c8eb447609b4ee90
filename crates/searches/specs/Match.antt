-- The entry of a certificate list that equals given bytes, by positions. Assumes nothing.
-- Nobody has to believe this page: matching `Laws.Match.match_is` proves that of an accepted record's table it is the first equal entry.
use Rattle.std.specs.Prelude.{ℕ, suc, zero, ◌-◌, Bool, true, false, List, length, take, drop, ltb, Ok, Err, Some, None}
use Rattle.std.proofs.Math.Seq.{slice}
use Rattle.terms.specs.declared.Field.TheVariants.{ListKind, CertificateList}
use Rattle.terms.specs.Numbers.{most_items}
use Rattle.terms.specs.Answer.{pick, same, Answer}
use Rattle.heads.specs.Scan.{head_at}
use Rattle.heads.specs.declared.Span.{Span}
use Rattle.contents.specs.Integer.{says_kind1}
use Rattle.layouts.specs.Whole.{sequence}
use Rattle.layouts.specs.Scan.{then_seen}
use Rattle.cuts.specs.Handed.{part_under, span_of, within}
use Rattle.records.specs.declared.Part.{Part}
use Rattle.records.specs.Found.{Found, part}

-- what is compared of the entry at a position: where the kind is 1 the certificate, else the digest
unfoldable pub entry_at : Bool → List ℕ → ℕ → ℕ → Answer Span
entry_at true s p e = head_at 0x04 s p e
entry_at false s p e = then_seen (head_at sequence s p e) λ a z. then_seen (head_at 0x13 s a z) λ b c. head_at 0x04 s c z

abbrev pub of_seen : Answer Span → (ℕ → ℕ → Found Part) → Found Part
of_seen (Ok i) k = k i.start i.end
of_seen (Err e) k = Ok None

-- the first of at most `n` entries from a position on that is the given bytes
unfoldable pub listed_at : List ℕ → Bool → List ℕ → ℕ → ℕ → ℕ → Found Part
listed_at g k s e zero p = Ok None
listed_at g k s e (suc n) p = pick (ltb p e) (of_seen (entry_at k s p e) λ a z. pick (same g (slice a z s)) (Ok (Some (part a (z - a)))) (listed_at g k s e n z)) (Ok None)

-- the bytes that an answer names
abbrev pub bytes_at : List ℕ → Found Part → List ℕ
bytes_at s p = take (within (length s) (span_of p)).1 (drop (within (length s) (span_of p)).0 s)

-- the entry in the list that a table of places has
abbrev pub of_part : Found Part → (ℕ → Found Part) → Found Part
of_part (Ok (Some p)) k = k p.start
of_part (Ok None) k = Ok None
of_part (Err e) k = Ok None

unfoldable pub match_under : List ℕ → List ℕ → List ℕ → Found Part
match_under g s d =
    of_part (part_under CertificateList d) λ p.
    of_seen (head_at sequence s p (length s)) λ a z. listed_at g (says_kind1 (bytes_at s (part_under ListKind d))) s z most_items a
