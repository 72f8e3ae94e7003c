use Rattle.csdf_crew.proofs.threads.run_crew.Given as goal

abbrev pub ghosts-run_as : goal.ghosts-run_as
ghosts-run_as g a = record { keeps = a.floor.keeps; work = a.floor.work }
