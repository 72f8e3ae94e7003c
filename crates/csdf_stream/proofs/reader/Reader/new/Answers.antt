use Rattle.std.proofs.Common.{rules}
use Rattle.csdf_stream.proofs.reader.Reader.new.Goals as goal

pub returns-in_ok-new-in-Samples : goal.returns-in_ok-new-in-Samples
returns-in_ok-new-in-Samples c = search rules
