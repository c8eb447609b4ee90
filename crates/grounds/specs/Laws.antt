-- A record's grounds, from its table of places. Assumes nothing.
use Rattle.std.specs.Prelude.{◌≡◌, false, length, Ok, Err, None}
use Rattle.std.proofs.Math.Path.{refl, ap, subst}
use Rattle.std.proofs.Common.{sym, ◌∙◌, arith}
use Prim.Native.Nat.{ℕ}
use Rattle.std.proofs.Math.Option.{Option, none, some}
use mathlib.Core.List.{List}
use Rattle.terms.specs.declared.Field.{Field}
use Rattle.terms.specs.declared.Field.TheVariants.{Start, End, SigningTime, ListKind, SignerCertificate, OriginalDigest, Stamp}
use Rattle.terms.specs.Numbers.{largest_record}
use Rattle.terms.specs.Answer.{Res, good, fault, pick, same, Answer}
use Rattle.terms.specs.Laws.Told.{told_refusal, fault_one}
use Rattle.terms.specs.Laws.Answer.{clash, good_inj}
use Rattle.terms.specs.declared.Refusal.{Refusal}
use Rattle.contents.specs.Integer.{says_kind1}
use Rattle.contents.specs.Time.{moment_of}
use Rattle.layouts.specs.Layout.{Members, Values, All}
use Rattle.layouts.specs.Fields.{Entry, fields, is_field, first, Stands, bytes_in, is_there}
use Rattle.layouts.proofs.Laws.Fields.{Sought, fields_stand, stands_within, stands_cut, first-sought, first_holds}
use Rattle.layouts.specs.Places.{Placed}
use Rattle.layouts.specs.Whole.{accept, told_outcome}
use Rattle.layouts.proofs.Laws.Whole.{accept_back}
use Rattle.records.specs.declared.Record.{Record}
use Rattle.records.specs.Handing.{layout_of, told_record, read_record, fields_of, is_listed}
use Rattle.records.specs.Laws.Handing.{fields_in_lem}
use Rattle.verdicts.specs.declared.Findings.{Findings}
use Rattle.verdicts.specs.declared.CertificateFacts.{CertificateFacts}
use Rattle.verdicts.specs.declared.Stamping.TheVariants.{Unchecked}
use Rattle.verdicts.specs.Verdict.{Facts, facts_of, the, time_of, sought, signer_listed, stamped}
use Rattle.fields.specs.Handed.{part_of, part_under}
use Rattle.fields.specs.Laws.{within-yes, numbers_part, was_read, placed_in}
use Rattle.moments.specs.Laws.{one_moment}
use Rattle.matching.specs.Match.{bytes_at}
use Rattle.matching.specs.Laws.Match.{match_is}
use Rattle.grounds.specs.declared.Grounds.{Grounds}
use Rattle.grounds.specs.Ground.{Rests, Leads, GroundOf, sought_under, is_part}

-- ---- of an accepted record

-- what the table leads to is the field
module _ (w : List ℕ) (xs : List Entry) (st : All (Stands w) xs) (d : List ℕ) (p : Placed 0 xs d) where
  bytes-under : (f : Field) → bytes_at w (part_under f d) ≡ bytes_in (first (is_field f 0) xs)
  unfolding bytes_in
  bytes-under f = ap (bytes_at w) (numbers_part f d (first (is_field f 0) xs) (p.1 f)) ∙ go (first (is_field f 0) xs) (first-sought (is_field f 0) xs)
    where
      go : (o : Option Entry) → Sought (is_field f 0) xs o → bytes_at w (part_of (good o)) ≡ bytes_in o
      go none n = rw (within-yes (length w) 0 0 (omega arith))
      go (some x) h = let k = first_holds (Stands w) (is_field f 0) xs x st h in rw (within-yes (length w) x.place (length x.bytes) (stands_within w x k)) (stands_cut w x k)

  part-there : (o : Option Entry) → is_part (part_of (good o)) ≡ is_there o
  unfolding is_there
  part-there none = refl
  part-there (some x) = refl

  there-under : (f : Field) → is_part (part_under f d) ≡ is_there (first (is_field f 0) xs)
  there-under f = ap is_part (numbers_part f d (first (is_field f 0) xs) (p.1 f)) ∙ part-there (first (is_field f 0) xs)

module _ (x : Record) (w original signer : List ℕ) (m : Members) (i : m ≡ layout_of x) (o : Answer ℕ) (t : told_outcome o ≡ told_record largest_record m w) where
  pub ground_refused : (r : Refusal) → o ≡ Err r → GroundOf (layout_of x) w original signer (Err r)
  ground_refused r h = told_refusal (λ v. length w) r (read_record (layout_of x) w) (rw (i, h) at t)

  module _ (l : ℕ) (h : o ≡ Ok l) (d : List ℕ) (pl : Placed 0 (fields_of m (accept largest_record m w)) d) (g : Grounds) (e : Leads w d original signer g) where
    pub ground_read : GroundOf (layout_of x) w original signer (Ok g)
    unfolding time_of the stamped signer_listed sought sought_under
    ground_read =
        let (start, stop, signed, listed, alike, stamp) = e in
        let (v, a) = was_read (layout_of x) w m i o t l h in
        let f = fields_in_lem (layout_of x) w v a in
        let p : Placed 0 (fields (layout_of x) v) d = rw f at (placed_in (layout_of x) w m i o t 0 d pl) in
        let st : All (Stands w) (fields (layout_of x) v) = subst (λ (s : List ℕ). All (Stands s) (fields (layout_of x) v)) (sym (accept_back largest_record (layout_of x) w v a).0) (fields_stand (layout_of x) v) in
        let b = bytes-under w (fields (layout_of x) v) st d p in
        let c : List ℕ = bytes_in (first (is_field SignerCertificate 0) (fields (layout_of x) v)) in
        let q : sought_under signer w d ≡ pick (says_kind1 (bytes_in (first (is_field ListKind 0) (fields (layout_of x) v)))) c signer =
        ap (λ (y : List ℕ). pick (says_kind1 (bytes_at w (part_under ListKind d))) y signer) (b SignerCertificate) ∙ ap (λ (y : List ℕ). pick (says_kind1 y) c signer) (b ListKind) in (
          v,
          a,
          λ fs. (
            start ∙ ap moment_of (b Start),
            stop ∙ ap moment_of (b End),
            signed ∙ ap moment_of (b SigningTime),
            listed ∙ ap is_part (match_is x w (sought_under signer w d) v a d p) ∙ part-there w (fields (layout_of x) v) st d p (first (is_listed (sought_under signer w d)) (fields (layout_of x) v))
                ∙ ap (λ (y : List ℕ). is_there (first (is_listed y) (fields (layout_of x) v))) q,
            alike ∙ ap (same original) (b OriginalDigest),
            stamp ∙ there-under w (fields (layout_of x) v) st d p Stamp,
          ),
        )

-- ---- the contract admits one answer

rests_one : (x : Facts) (g h : Grounds) → Rests x g → Rests x h → g ≡ h
rests_one x g h a b =
    λ i. record {
      start = one_moment g.start h.start (a.0 ∙ sym b.0) i;
      end = one_moment g.end h.end (a.1 ∙ sym b.1) i;
      signing = one_moment g.signing h.signing (a.2 ∙ sym b.2) i;
      listed = (a.3 ∙ sym b.3) i;
      alike = (a.4 ∙ sym b.4) i;
      stamped = (a.5 ∙ sym b.5) i;
    }

-- whatever was found
abbrev no_facts : CertificateFacts
no_facts = record { chain = false; usage = false; dates = record { first = 0; last = 0 }; revocation = None }

abbrev nothing_found : Findings
nothing_found = record { signature = false; sealing = false; now = 0; maker = no_facts; signer = no_facts; seal = record { withdrawn = None }; stamp = record { state = Unchecked } }

pub one_ground : (r : Members) (w original signer : List ℕ) (x y : Answer Grounds) → GroundOf r w original signer x → GroundOf r w original signer y → x ≡ y
one_ground r w original signer (Ok g) (Ok h) (v, e, a) (v', e', b) =
    let i : v' ≡ v = good_inj (sym e' ∙ e) in ap Ok (rests_one (facts_of r v nothing_found original signer) g h (a nothing_found) (subst (λ (z : Values r). Rests (facts_of r z nothing_found original signer) h) i (b nothing_found)))
one_ground r w original signer (Ok g) (Err q) (v, e, a) e' = clash (sym e' ∙ e)
one_ground r w original signer (Err q) (Ok h) e (v', e', b) = clash (sym e ∙ e')
one_ground r w original signer (Err q) (Err q') e e' = ap Err (fault_one q q' (sym e ∙ e'))
