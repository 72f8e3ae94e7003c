use Rattle.csdf_floor.proofs.floor.Floor.make.Goals as goal

pub returns-clause-some : goal.returns-clause-some
returns-clause-some c = c.make_with.ensures.some
