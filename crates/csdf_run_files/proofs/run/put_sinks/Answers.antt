use Rattle.std.proofs.Common.{[], inl, refl}
use Rattle.csdf_files.proofs.DiskLemmas.{asks_none}
use Rattle.csdf_run_files.proofs.run.put_sinks.Goals as goal

pub returns-in-Err-clause-cut : goal.returns-in-Err-clause-cut
returns-in-Err-clause-cut g c = ([], asks_none _, record { many = 0; last = []; acts_are = refl; cut = inl (refl, refl) })
