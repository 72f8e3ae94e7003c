use Rattle.std.proofs.Common.{map, take}
use Rattle.csdf_model.specs.Graph.{actor_view, channel_view}
use Rattle.csdf_analysis.specs.Members.{AreMembers}
use Rattle.csdf_analysis.proofs.balance.balanced.Given as goal

abbrev pub invariant-loop-place : goal.invariant-loop-place
invariant-loop-place l = AreMembers (map actor_view l.actors) (take l.place (map channel_view l.channels)) l.members.items
