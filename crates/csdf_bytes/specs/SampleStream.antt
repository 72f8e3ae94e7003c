-- The samples of a stream of bytes, which are read piece by piece.
use Rattle.std.specs.Prelude.{◌≡◌, ℕ, ◌+◌, ◌*◌, ◌<◌, ◌≤◌, min, List, ◌++◌, length, drop, ℤ, Option}
use Rattle.std.specs.Io.KnownBytes.{Consumes, IsAtEnd}
use Rattle.csdf_bytes.specs.declared.sample_reader.SampleFault.{SampleFault}
use Rattle.csdf_bytes.specs.declared.sample_reader.SampleFault.TheVariants.{CutOff}
use Rattle.csdf_bytes.specs.SampleState.{Unsampled}
use Rattle.csdf_bytes.specs.Samples.{first_samples, size_of}

-- the number behind so many samples: 18,446,744,073,709,551,615 stands for all samples from there on
abbrev pub number_behind : ℕ → ℕ → ℕ
number_behind number count = min (number + count) 18446744073709551615

-- the samples that were appended, no more than so many, are the first of these bytes, and the bytes behind them are left
pub record GivesSamples (most : ℕ) (old : Unsampled) (bytes : List ℕ) (new : Unsampled) (before after : List ℤ) : Type 0 where
  pub count : ℕ
  pub few : count ≤ most
  pub within : size_of old.format * count ≤ length bytes
  pub appended : after ≡ before ++ first_samples old.format count bytes
  pub behind : new.bytes ≡ drop (size_of old.format * count) bytes
  pub number : new.number ≡ number_behind old.number count
  pub format : new.format ≡ old.format

-- the samples that were appended are the first of a stream: of the bytes that were fetched before, and then of those that the device gave
pub record ReadsSamples (most : ℕ) (old new : Unsampled) (left rest : Option (List ℕ)) (before after : List ℤ) : Type 0 where
  pub fetched : List ℕ
  pub taken : Consumes left rest fetched
  pub given : GivesSamples most old (old.bytes ++ fetched) new before after

-- the fault of a stream that ends within its next sample
pub record IsCutOff (fault : SampleFault) (stream : Unsampled) (left : Option (List ℕ)) : Type 0 where
  pub told : fault ≡ CutOff stream.number
  pub begun : 0 < length stream.bytes
  pub short : length stream.bytes < size_of stream.format
  pub ended : IsAtEnd left
