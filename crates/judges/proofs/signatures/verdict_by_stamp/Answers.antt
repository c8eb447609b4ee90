-- `judges::signatures::verdict_by_stamp`: step by step.
use Rattle.judges.specs.Laws.{comes_through, goes_on_lem, stops}
use Rattle.judges.proofs.signatures.verdict_by_stamp.Goals as goal

pub returns-in_default : goal.returns-in_default
returns-in_default c = search stops depth 20

pub returns-in_default-signed_by_stamp : goal.returns-in_default-signed_by_stamp
returns-in_default-signed_by_stamp c = search (goes_on_lem, stops) depth 20

pub returns-in_default-signer_in_force : goal.returns-in_default-signer_in_force
returns-in_default-signer_in_force c = search (goes_on_lem, stops) depth 20

pub returns : goal.returns
returns c = search (goes_on_lem, comes_through) depth 20
