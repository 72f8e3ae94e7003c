use Rattle.std.proofs.Common.{rules}
use Rattle.csdf_disk.proofs.look.read_file.Goals as goal

pub returns-in-Err-Read-clause-found : goal.returns-in-Err-Read-clause-found
returns-in-Err-Read-clause-found g c = search rules

pub returns-in-Err-Read-clause-device : goal.returns-in-Err-Read-clause-device
returns-in-Err-Read-clause-device g c = search rules
