use Rattle.csdf_floor.proofs.floor.Floor.new.Goals as goal

pub returns-clause-keeps : goal.returns-clause-keeps
returns-clause-keeps c = c.with_journal.ensures.keeps
