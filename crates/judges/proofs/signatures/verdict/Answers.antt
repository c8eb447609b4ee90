-- `judges::signatures::verdict`: step by step.
use Rattle.judges.specs.Laws.{goes_on_lem, signature-row, stops}
use Rattle.judges.proofs.signatures.verdict.Goals as goal

pub returns-in_default : goal.returns-in_default
returns-in_default c = search (signature-row, stops) depth 20

pub returns-in_default-signer_is_listed : goal.returns-in_default-signer_is_listed
returns-in_default-signer_is_listed c = search (signature-row, goes_on_lem, stops) depth 20

pub returns-in_default-seal_is_good : goal.returns-in_default-seal_is_good
returns-in_default-seal_is_good c = search (signature-row, goes_on_lem, stops) depth 20

pub returns-in_default-maker_is_good : goal.returns-in_default-maker_is_good
returns-in_default-maker_is_good c = search (signature-row, goes_on_lem, stops) depth 20

pub returns-in_default-signed_in_period : goal.returns-in_default-signed_in_period
returns-in_default-signed_in_period c = search (signature-row, goes_on_lem, stops) depth 20

pub returns-in_default-seal_stands : goal.returns-in_default-seal_stands
returns-in_default-seal_stands c = search (signature-row, goes_on_lem, stops) depth 20

pub returns : goal.returns
returns c = search (signature-row, goes_on_lem) depth 20
