-- `run_readers::record_at`: what is handed out after one step is the part that the step names.
use borrow.Author.Rules.{rules}
use Rattle.run_readers.specs.Laws.{handed_out_lem}
use Rattle.run_readers.proofs.record_at.Goals as goal

pub returns : goal.returns
returns c = search (rules, handed_out_lem)
