use Rattle.csdf_crew.proofs.threads.run_crew.Goals as goal

pub returns-clause-cause : goal.returns-clause-cause
returns-clause-cause g c = c.run_as.ensures.cause
