-- A verdict by findings that are numbers in a row (03, 42). Assumes nothing.
use Rattle.std.specs.Prelude.{ℕ, List}
use Rattle.terms.specs.Answer.{pick, Told, told_none}
use Rattle.verdicts.specs.Verdict.{Rulebook, verdict, told_verdict}
use Rattle.finding_rows.specs.Row.{are_findings}
use Rattle.given_findings.specs.Given.{findings_in}

-- "253 not findings"
abbrev pub not_findings : ℕ
not_findings = 253

unfoldable pub asked_verdict : Rulebook → List ℕ → List ℕ → List ℕ → List ℕ → Told
asked_verdict b w original signer xs = pick (are_findings xs) (told_verdict (verdict b w (findings_in xs) original signer)) (told_none not_findings)
