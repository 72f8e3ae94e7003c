use Rattle.std.proofs.Common.{rules}
use Rattle.csdf_disk.proofs.look.unopened.Goals as goal

pub returns-in-PermissionDenied-clause-found : goal.returns-in-PermissionDenied-clause-found
returns-in-PermissionDenied-clause-found c = search rules
