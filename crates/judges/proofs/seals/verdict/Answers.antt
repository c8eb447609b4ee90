-- `judges::seals::verdict`: step by step.
use Rattle.judges.specs.Laws.{comes_through, goes_on_lem, seal-row, stops}
use Rattle.judges.proofs.seals.verdict.Goals as goal

pub returns-in_default : goal.returns-in_default
returns-in_default c = search (seal-row, stops) depth 20

pub returns-in_default-maker_is_good : goal.returns-in_default-maker_is_good
returns-in_default-maker_is_good c = search (seal-row, goes_on_lem, stops) depth 20

pub returns-in_default-maker_in_force : goal.returns-in_default-maker_in_force
returns-in_default-maker_in_force c = search (seal-row, goes_on_lem, stops) depth 20

pub returns-in_default-now_in_period : goal.returns-in_default-now_in_period
returns-in_default-now_in_period c = search (seal-row, goes_on_lem, stops) depth 20

pub returns : goal.returns
returns c = search (seal-row, goes_on_lem, comes_through) depth 20
