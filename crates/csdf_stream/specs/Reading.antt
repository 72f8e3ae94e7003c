-- What is read of a source's device.
use Rattle.std.specs.Prelude.{◌≡◌, ◌⊎◌, ℕ, List, [], ℤ, Option}
use Rattle.std.specs.Io.KnownBytes.{IsAtEnd}
use Rattle.csdf_bytes.specs.declared.token_reader.ReadFault.{ReadFault}
use Rattle.csdf_bytes.specs.declared.token_reader.ReadFault.TheVariants as text
use Rattle.csdf_bytes.specs.declared.sample_reader.SampleFault.{SampleFault}
use Rattle.csdf_bytes.specs.declared.sample_reader.SampleFault.TheVariants as sample
use Rattle.csdf_bytes.specs.SampleStream.{IsCutOff, ReadsSamples}
use Rattle.csdf_bytes.specs.TokenStream.{IsNext, Loses, entries_left}
use Rattle.csdf_stream.specs.declared.options.TokenFormat.{TokenFormat}
use Rattle.csdf_stream.specs.declared.options.TokenFormat.TheVariants as format
use Rattle.csdf_stream.specs.declared.reader.Reader.{Reader}
use Rattle.csdf_stream.specs.declared.reader.Reader.TheVariants.{Text, Samples}
use Rattle.csdf_stream.specs.declared.reader.ReaderFault.{ReaderFault}
use Rattle.csdf_stream.specs.declared.reader.ReaderFault.TheVariants as why

-- a reader of which nothing was read
abbrev pub fresh : TokenFormat → Reader
fresh format.Text = Text (record { bytes = []; line = 1 })
fresh (format.Samples f) = Samples (record { format = f; bytes = []; number = 1 })

-- these tokens came next: of a text they are its first entries, where it is known; raw samples are those of the bytes that came
abbrev pub Gives : Reader → Reader → Option (List ℕ) → Option (List ℕ) → List ℤ → Type 0
Gives (Text old) (Text new) left rest given = Loses (entries_left old left) (entries_left new rest) given
Gives (Samples old) (Samples new) left rest given = (most : ℕ) × ReadsSamples most old new left rest [] given
Gives _ _ left rest given = ⊥

-- nothing was asked for, or these tokens came
abbrev pub Reads : Reader → Reader → Option (List ℕ) → Option (List ℕ) → List ℤ → Type 0
Reads old new left rest given = ((new ≡ old) × (rest ≡ left) × (given ≡ [])) ⊎ Gives old new left rest given

-- nothing is left: neither in the reader nor of the device
abbrev pub HasEnded : Reader → Option (List ℕ) → Type 0
HasEnded (Text reader) rest = (reader.bytes ≡ []) × IsAtEnd rest
HasEnded (Samples reader) rest = (reader.bytes ≡ []) × IsAtEnd rest

abbrev pub of_text : ReadFault → ReaderFault
of_text text.Read = why.Read
of_text (text.Syntax line) = why.Syntax line
of_text (text.Range line) = why.Range line
of_text text.Memory = why.Memory

abbrev pub of_samples : SampleFault → ReaderFault
of_samples sample.Read = why.Read
of_samples (sample.CutOff number) = why.CutOff number
of_samples sample.Memory = why.Memory

-- why no token came next: the next entry of a text is this fault, or the bytes end within this sample; or the device failed, or memory ran out
abbrev pub IsFaultAt : ReaderFault → Reader → Option (List ℕ) → Type 0
IsFaultAt (why.Syntax line) (Text reader) rest = IsNext (text.Syntax line) (entries_left reader rest)
IsFaultAt (why.Range line) (Text reader) rest = IsNext (text.Range line) (entries_left reader rest)
IsFaultAt (why.CutOff number) (Samples reader) rest = IsCutOff (sample.CutOff number) reader rest
IsFaultAt why.Read reader rest = Unit {0}
IsFaultAt why.Memory reader rest = Unit {0}
IsFaultAt _ _ rest = ⊥
