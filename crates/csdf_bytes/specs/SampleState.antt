-- What a reader of samples keeps.
use Rattle.std.specs.Prelude.{ℕ, List}
use Rattle.csdf_bytes.specs.declared.sample_format.SampleFormat.{SampleFormat}

-- the format, the bytes that were fetched and not read, and the number of the sample that is next
pub record Unsampled : Type 0 where
  pub format : SampleFormat
  pub bytes : List ℕ
  pub number : ℕ
