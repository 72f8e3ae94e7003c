use Rattle.std.proofs.Common.{rules}
use Rattle.csdf_flows.proofs.stream.accepted_in_room.Goals as goal

pub returns-in-Ok-clause-room : goal.returns-in-Ok-clause-room
returns-in-Ok-clause-room c = search rules
