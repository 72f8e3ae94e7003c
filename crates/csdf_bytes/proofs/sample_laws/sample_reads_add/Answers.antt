use Rattle.csdf_bytes.proofs.SampleStreamLemmas.{reads-add}
use Rattle.csdf_bytes.proofs.sample_laws.sample_reads_add.Goals as goal

pub returns : goal.returns
returns c = reads-add
