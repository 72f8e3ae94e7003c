use Rattle.csdf_floor.proofs.Complete.{order_does_not_show}
use Rattle.csdf_floor.proofs.laws.order_does_not_show.Goals as goal

pub returns : goal.returns
returns c = order_does_not_show
