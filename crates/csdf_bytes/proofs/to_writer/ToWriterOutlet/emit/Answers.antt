use Rattle.std.proofs.Common.{rules}
use Rattle.csdf_bytes.proofs.to_writer.ToWriterOutlet.emit.Goals as goal

pub returns-in-Ok-clause-emitted : goal.returns-in-Ok-clause-emitted
returns-in-Ok-clause-emitted c = search rules

pub returns-in_default-clause-kept : goal.returns-in_default-clause-kept
returns-in_default-clause-kept g c = search rules
