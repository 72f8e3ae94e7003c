use Rattle.std.proofs.Common.{rules}
use Rattle.csdf_floor.proofs.exact.given_to.Goals as goal

pub returns-then-channel-actor : goal.returns-then-channel-actor
returns-then-channel-actor c = search rules

pub returns-else-channel-actor : goal.returns-else-channel-actor
returns-else-channel-actor c = search rules
