-- `judges::signatures::verdict_by_signer`: step by step.
use Rattle.judges.specs.Laws.{goes_on_lem, stops}
use Rattle.judges.proofs.signatures.verdict_by_signer.Goals as goal

pub returns-in_default : goal.returns-in_default
returns-in_default c = search stops depth 20

pub returns-in_default-signed_in_dates : goal.returns-in_default-signed_in_dates
returns-in_default-signed_in_dates c = search (goes_on_lem, stops) depth 20

pub returns-in_default-signer_stands : goal.returns-in_default-signer_stands
returns-in_default-signer_stands c = search (goes_on_lem, stops) depth 20

pub returns-in_default-digest_is_alike : goal.returns-in_default-digest_is_alike
returns-in_default-digest_is_alike c = search (goes_on_lem, stops) depth 20

pub returns : goal.returns
returns c = search (goes_on_lem) depth 20
