use Rattle.csdf_floor.proofs.Rooms.{do_not_show, do_not_count}
use Rattle.csdf_floor.proofs.laws.capacities_do_not_show.Goals as goal

pub returns-clause-show : goal.returns-clause-show
returns-clause-show c = do_not_show

pub returns-clause-count : goal.returns-clause-count
returns-clause-count c = do_not_count
