use Rattle.std.proofs.Common.{rules}
use Rattle.csdf_bytes.proofs.sample_reader.SampleReader.new.Goals as goal

pub returns : goal.returns
returns c = search rules
