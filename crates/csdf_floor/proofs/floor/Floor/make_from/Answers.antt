use Rattle.csdf_floor.proofs.floor.Floor.make_from.Goals as goal

pub returns-clause-answer : goal.returns-clause-answer
returns-clause-answer c = c.make_with.ensures.answer
