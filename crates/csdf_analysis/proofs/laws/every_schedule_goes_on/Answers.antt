use Rattle.csdf_analysis.proofs.RoomLemmas.{every_goes_on}
use Rattle.csdf_analysis.proofs.laws.every_schedule_goes_on.Goals as goal

pub returns : goal.returns
returns c = every_goes_on
