use Rattle.csdf_floor.proofs.Journals.{is_honest_at_each}
use Rattle.csdf_floor.proofs.laws.is_honest_at_each.Goals as goal

pub returns : goal.returns
returns c = is_honest_at_each
