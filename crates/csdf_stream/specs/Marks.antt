-- Whose device has failed.
use Rattle.std.specs.Prelude.{◌≡◌, ◌<◌, ℕ, Bool, true, false, List, length, slice_index_or}
use Rattle.csdf_stream.specs.declared.end.StreamFault.{StreamFault}
use Rattle.csdf_stream.specs.declared.end.StreamFault.TheVariants as why
use Rattle.csdf_stream.specs.declared.reader.ReaderFault.TheVariants as reader
use Rattle.csdf_stream.specs.Feeding.{source_at}

-- the device of an actor has failed, by the marks of the devices of these actors
abbrev pub HasFailed : List ℕ → List Bool → ℕ → Type 0
HasFailed actors marks i = (k : ℕ) × (k < length actors) × (source_at actors k ≡ i) × (slice_index_or marks k false ≡ true)

-- where a source's device is told to have failed, it has
abbrev pub IsReadMarked : List ℕ → List Bool → StreamFault → Type 0
IsReadMarked sources ins (why.Source i reader.Read) = HasFailed sources ins i
IsReadMarked sources ins _ = Unit {0}

-- where the device of a source or of a sink is told to have failed, it has
abbrev pub IsMarked : List ℕ → List ℕ → List Bool → List Bool → StreamFault → Type 0
IsMarked sources sinks ins outs (why.Source i reader.Read) = HasFailed sources ins i
IsMarked sources sinks ins outs (why.Sink t) = HasFailed sinks outs t
IsMarked sources sinks ins outs _ = Unit {0}
