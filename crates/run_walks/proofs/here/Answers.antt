-- `run_walks::here`: the walk of a record, in which nothing is noted.
use Rattle.run_walks.specs.Laws.{here_walked}
use borrow.Author.Rules.{rules}
use Rattle.run_walks.proofs.here.Goals as goal

pub returns : goal.returns
returns c = search (rules, here_walked)
