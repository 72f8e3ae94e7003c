use Rattle.csdf_answers.proofs.described.describe_with_room.Goals as goal

pub returns-clause-written : goal.returns-clause-written
returns-clause-written g c = c.describe_as.ensures.written

pub returns-clause-refused : goal.returns-clause-refused
returns-clause-refused g c = c.describe_as.ensures.refused

pub returns-clause-failed : goal.returns-clause-failed
returns-clause-failed g c = c.describe_as.ensures.failed
