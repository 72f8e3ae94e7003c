use Rattle.csdf_floor.proofs.Stretches.{ask_as_at_first}
use Rattle.csdf_floor.proofs.laws.ask_as_at_first.Goals as goal

pub returns : goal.returns
returns c = ask_as_at_first
