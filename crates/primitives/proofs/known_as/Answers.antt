-- `primitives::known_as`: each known member by its own case.
use Rattle.primitives.proofs.known_as.Goals as goal

pub returns-in-HeaderName : goal.returns-in-HeaderName
returns-in-HeaderName c = rw c.in-HeaderName.is

pub returns-in-Version : goal.returns-in-Version
returns-in-Version c = rw c.in-Version.is
