use Rattle.std.proofs.Common.{rules}
use Rattle.csdf_files.proofs.DiskLemmas.{on_err}
use Rattle.csdf_files.proofs.ApartLemmas.{only_located}
use Rattle.csdf_files.proofs.apart.look_for.Goals as goal

pub returns-in_err-place-clause-only : goal.returns-in_err-place-clause-only
returns-in_err-place-clause-only g c = on_err _ _ (only_located _ _ _ _ c.locate.ensures)

pub returns-in_err-name-clause-only : goal.returns-in_err-name-clause-only
returns-in_err-name-clause-only g c = on_err _ _ (only_located _ _ _ _ c.locate.ensures)

pub returns-in_err-push-clause-only : goal.returns-in_err-push-clause-only
returns-in_err-push-clause-only g c = on_err _ _ (only_located _ _ _ _ c.locate.ensures)

pub returns-then-is_in_use-clause-in_use : goal.returns-then-is_in_use-clause-in_use
returns-then-is_in_use-clause-in_use g c = search rules
