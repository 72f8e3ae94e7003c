use Rattle.std.proofs.Common.{rules}
use Rattle.csdf_floor.proofs.floor.Floor.into_fed.Goals as goal

pub returns-clause-feeds : goal.returns-clause-feeds
returns-clause-feeds c = search rules
