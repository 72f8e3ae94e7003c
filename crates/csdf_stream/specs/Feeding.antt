-- The tokens of a segment, read from the devices of the sources.
use Rattle.std.specs.Prelude.{◌≡◌, ◌⊎◌, ◌++◌, ◌*◌, ◌<◌, ◌≤◌, ℕ, List, ℤ, Option, None, length, slice_index, slice_index_or}
use Rattle.csdf_analysis.specs.Acceptance.{Accepted}
use Rattle.csdf_floor.specs.Continuing.{given_in}
use Rattle.csdf_floor.specs.Work.{feed_of}
use Rattle.csdf_floor.specs.declared.limits.TheConstants.{MAX_FEED_TOKENS}
use Rattle.csdf_stream.specs.Reading.{HasEnded, IsFaultAt, Reads, fresh}
use Rattle.csdf_stream.specs.declared.end.StreamFault.{StreamFault}
use Rattle.csdf_stream.specs.declared.end.StreamFault.TheVariants as why
use Rattle.csdf_stream.specs.declared.options.TokenFormat.TheVariants.{Text}
use Rattle.csdf_stream.specs.declared.reader.Reader.{Reader}

-- the source in a place among the sources, its reader and what its device has left
abbrev pub source_at : List ℕ → ℕ → ℕ
source_at sources k = slice_index_or sources k 0

abbrev pub reader_at : List Reader → ℕ → Reader
reader_at readers k = slice_index_or readers k (fresh Text)

abbrev pub left_at : List (Option (List ℕ)) → ℕ → Option (List ℕ)
left_at lefts k = slice_index_or lefts k None

-- each source's device gave these tokens more, and its feed has them at its end
pub record IsReadAt (sources : List ℕ) (old new : List Reader) (lefts rests : List (Option (List ℕ))) (feeds more : List (List ℤ)) (k : ℕ) : Type 0 where
  pub given : List ℤ
  pub fed : feed_of more (source_at sources k) ≡ feed_of feeds (source_at sources k) ++ given
  pub read : Reads (reader_at old k) (reader_at new k) (left_at lefts k) (left_at rests k) given

abbrev pub AreRead : List ℕ → List Reader → List Reader → List (Option (List ℕ)) → List (Option (List ℕ)) → List (List ℤ) → List (List ℤ) → Type 0
AreRead sources old new lefts rests feeds more = (k : ℕ) → k < length sources → IsReadAt sources old new lefts rests feeds more k

-- how many tokens a source gives in so many periods
abbrev pub given_for : Accepted → ℕ → ℕ → ℕ
given_for a periods i = given_in a.graph.channels i (periods * slice_index a.q i)

-- its feed has the tokens of so many periods, or its device has no more
abbrev pub IsFullFor : Accepted → ℕ → List ℕ → List Reader → List (Option (List ℕ)) → List (List ℤ) → ℕ → Type 0
IsFullFor a periods sources readers rests feeds k =
    (given_for a periods (source_at sources k) ≤ length (feed_of feeds (source_at sources k))) ⊎ HasEnded (reader_at readers k) (left_at rests k)

abbrev pub AreFull : Accepted → ℕ → List ℕ → List Reader → List (Option (List ℕ)) → List (List ℤ) → Type 0
AreFull a periods sources readers rests feeds = (k : ℕ) → k < length sources → IsFullFor a periods sources readers rests feeds k

-- why no tokens came for a source: its device or its text has a fault, or the tokens of so many periods are too many
abbrev pub IsCauseAt : Accepted → ℕ → ℕ → Reader → Option (List ℕ) → StreamFault → Type 0
IsCauseAt a periods i reader rest (why.Source source fault) = (source ≡ i) × IsFaultAt fault reader rest
IsCauseAt a periods i reader rest (why.TooMany source) = (source ≡ i) × (MAX_FEED_TOKENS < given_for a periods i)
IsCauseAt a periods i reader rest _ = ⊥

pub record IsUnfedAt (a : Accepted) (periods : ℕ) (sources : List ℕ) (readers : List Reader) (rests : List (Option (List ℕ))) (fault : StreamFault) (k : ℕ) : Type 0 where
  pub within : k < length sources
  pub cause : IsCauseAt a periods (source_at sources k) (reader_at readers k) (left_at rests k) fault

abbrev pub IsUnfed : Accepted → ℕ → List ℕ → List Reader → List (Option (List ℕ)) → StreamFault → Type 0
IsUnfed a periods sources readers rests fault = (k : ℕ) × IsUnfedAt a periods sources readers rests fault k
