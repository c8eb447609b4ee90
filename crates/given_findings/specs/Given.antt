-- What the numbers of a row say as findings (03, 42). Assumes nothing.
use Rattle.std.specs.Prelude.{ℕ, ◌+◌, Bool, List, eqb, Option, Some, None}
use Rattle.terms.specs.Answer.{pick}
use Rattle.verdicts.specs.declared.CertificateFacts.{CertificateFacts}
use Rattle.verdicts.specs.declared.Stamping.{Stamping}
use Rattle.verdicts.specs.declared.Stamping.TheVariants.{Unchecked, Bad, Good}
use Rattle.verdicts.specs.declared.Findings.{Findings}
use Rattle.finding_rows.specs.Row.{at}

unfoldable pub says : List ℕ → ℕ → Bool
says xs k = eqb (at xs k) 1

-- whether there is one, and its time
unfoldable pub revocation_at : List ℕ → ℕ → Option ℕ
revocation_at xs k = pick (says xs k) (Some (at xs (k + 1))) None

-- chain, usage, first, last, revoked, its time
unfoldable pub certificate_at : List ℕ → ℕ → CertificateFacts
certificate_at xs k = record { chain = says xs k; usage = says xs (k + 1); dates = record { first = at xs (k + 2); last = at xs (k + 3) }; revocation = revocation_at xs (k + 4) }

-- 0 unchecked, 1 bad, 2 good, and its time
unfoldable pub stamp_at : List ℕ → ℕ → Stamping
stamp_at xs k = pick (eqb (at xs k) 2) (Good (at xs (k + 1))) (pick (says xs k) Bad Unchecked)

-- signature good, seal's good, now, the maker's six, the signer's six, withdrawn, its time, stamp, its time
unfoldable pub findings_in : List ℕ → Findings
findings_in xs = record { signature = says xs 0; sealing = says xs 1; now = at xs 2; maker = certificate_at xs 3; signer = certificate_at xs 9; seal = record { withdrawn = revocation_at xs 15 }; stamp = record { state = stamp_at xs 17 } }
