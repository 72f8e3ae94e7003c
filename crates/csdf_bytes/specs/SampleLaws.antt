-- Laws of raw samples.
use Rattle.std.specs.Prelude.{◌≡◌, ℕ, ◌+◌, true, List, ℤ, Option}
use Rattle.std.specs.List.{list_all}
use Rattle.csdf_bytes.specs.declared.sample_format.SampleFormat.{SampleFormat}
use Rattle.csdf_bytes.specs.Samples.{fits, sample_bytes, samples_in}
use Rattle.csdf_bytes.specs.SampleState.{Unsampled}
use Rattle.csdf_bytes.specs.SampleStream.{ReadsSamples}

-- the samples that are written for numbers of the format are these numbers
abbrev pub WrittenSamplesReadBack : Type 0
WrittenSamplesReadBack =
    (format : SampleFormat) (numbers : List ℤ) → list_all (fits format) numbers ≡ true
    → samples_in format (sample_bytes format numbers) ≡ numbers

-- what two reads give is what one read of all their bytes gives: so what was read so far are the samples of the bytes so far
abbrev pub SampleReadsAdd : Type 0
SampleReadsAdd =
    (first second : ℕ) (old middle new : Unsampled) (left between rest : Option (List ℕ)) (before some after : List ℤ)
    → ReadsSamples first old middle left between before some → ReadsSamples second middle new between rest some after
    → ReadsSamples (first + second) old new left rest before after
