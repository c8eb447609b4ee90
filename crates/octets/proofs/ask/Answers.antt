-- `octets::ask`: each return is one case of the definition.
use Rattle.contents.specs.Content.{ask, place_of}
use Rattle.octets.proofs.ask.Goals as goal

pub returns-then-holds : goal.returns-then-holds
unfolding ask
returns-then-holds c = λ a. rw c.if-holds.true

pub returns-else-holds : goal.returns-else-holds
unfolding ask place_of
returns-else-holds c = λ a. rw (c.if-holds.false, c.at.ensures)
