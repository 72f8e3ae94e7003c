use Rattle.std.proofs.Common.{rules}
use Rattle.csdf_explain.proofs.way.across.Goals as goal

pub returns-then-channel-actor-2 : goal.returns-then-channel-actor-2
returns-then-channel-actor-2 c = search rules
