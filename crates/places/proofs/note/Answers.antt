-- `places::note`: an item that is not wanted and a name that is taken leave the table as it is.
use Rattle.places.specs.Laws.{noted-held, noted-free, takes_in}
use borrow.Author.Rules.{rules}
use Rattle.places.proofs.note.Goals as goal

pub fill-requires-clause-n_bound : goal.fill-requires-clause-n_bound
fill-requires-clause-n_bound c = (search (rules, takes_in), search (rules, takes_in), search (rules, takes_in))

pub returns-then-takes : goal.returns-then-takes
returns-then-takes c = search (rules, noted-free)

pub returns-else-takes : goal.returns-else-takes
returns-else-takes c = search (rules, noted-held)
