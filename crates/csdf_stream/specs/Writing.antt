-- What is written of sinks.
use Rattle.std.specs.Prelude.{◌≡◌, ◌+◌, ◌<◌, ℕ, List, [], ℤ, Option, None, length, slice_index_or}
use Rattle.std.specs.Io.KnownBytes.{Appends}
use Rattle.csdf_bytes.specs.Device.{EmitsSome}
use Rattle.csdf_bytes.specs.Samples.{clipped_count, sample_bytes}
use Rattle.csdf_bytes.specs.TokenText.{token_text}
use Rattle.csdf_run.specs.Totals.{capped}
use Rattle.csdf_stream.specs.declared.options.TokenFormat.{TokenFormat}
use Rattle.csdf_stream.specs.declared.options.TokenFormat.TheVariants.{Text, Samples}

-- the bytes of tokens
abbrev pub bytes_in : TokenFormat → List ℤ → List ℕ
bytes_in Text tokens = token_text tokens
bytes_in (Samples format) tokens = sample_bytes format tokens

-- how many of them are none of the format
abbrev pub clipped_in : TokenFormat → List ℤ → ℕ
clipped_in Text tokens = 0
clipped_in (Samples format) tokens = clipped_count format tokens

-- the tokens of the sink in a place among the sinks
abbrev pub of_sink : List ℕ → List (List ℤ) → ℕ → List ℤ
of_sink sinks lists k = slice_index_or lists (slice_index_or sinks k 0) []

-- the tokens of each sink were written to its device
abbrev pub AreWritten : TokenFormat → List ℕ → List (List ℤ) → List (Option (List ℕ)) → List (Option (List ℕ)) → Type 0
AreWritten format sinks lists before after =
    (k : ℕ) → k < length sinks → Appends (slice_index_or before k None) (slice_index_or after k None) (bytes_in format (of_sink sinks lists k))

-- a beginning of the tokens of each sink was
abbrev pub AreBegun : TokenFormat → List ℕ → List (List ℤ) → List (Option (List ℕ)) → List (Option (List ℕ)) → Type 0
AreBegun format sinks lists before after =
    (k : ℕ) → k < length sinks → EmitsSome (slice_index_or before k None) (slice_index_or after k None) (bytes_in format (of_sink sinks lists k))

-- how many tokens of each sink are none of the format was added
abbrev pub AreClipped : TokenFormat → List ℕ → List (List ℤ) → List ℕ → List ℕ → Type 0
AreClipped format sinks lists before after =
    (k : ℕ) → k < length sinks → slice_index_or after k 0 ≡ capped (slice_index_or before k 0 + clipped_in format (of_sink sinks lists k))
