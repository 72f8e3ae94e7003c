use Rattle.csdf_bytes.proofs.SamplesBackLemmas.{samples-back}
use Rattle.csdf_bytes.proofs.sample_laws.written_samples_read_back.Goals as goal

pub returns : goal.returns
returns c = samples-back
