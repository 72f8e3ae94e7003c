-- What is called of the system's files to read a file, to put one in its place and to write one piece by piece, and how the calls end.
use Rattle.std.specs.Prelude.{◌≡◌, ◌≢◌, ◌++◌, ℕ, Bool, true, false, List, [], ◌∷◌, Option, Some, None, Result, Ok, Err, IfOk, IfSome, codes, is_ok, map, option_map, string_bytes}
use Rattle.std.specs.Fs.{IsFile, file_type, metadata_mode, permissions_mode}
use Rattle.std.specs.declared.fs.attrs.Metadata.{Metadata}
use Rattle.std.specs.Path.{path_buf_bytes}
use Rattle.std.specs.declared.path.buf.PathBuf.{PathBuf}
use Rattle.std.specs.declared.io.Error.{Error}
use Rattle.std.specs.declared.io.ErrorKind.{ErrorKind}
use Rattle.std.specs.declared.io.ErrorKind.TheVariants.{NotFound}
use Rattle.std.specs.IoError.{error_kind}
use Rattle.csdf_disk.specs.Acts.{made_as}
use Rattle.csdf_disk.specs.Contents.{content_text}
use Rattle.csdf_disk.specs.declared.making.MadeFile.{MadeFile}
use Rattle.csdf_disk.specs.declared.put_fault.PutFault.{PutFault}
use Rattle.csdf_disk.specs.declared.put_fault.PutFault.TheVariants.{Device, Memory}
use Rattle.csdf_disk.specs.declared.putting.PartStage.{PartStage}
use Rattle.csdf_disk.specs.declared.putting.PartStage.TheVariants as stage
use Rattle.csdf_disk.specs.declared.putting.There.{There}
use Rattle.csdf_disk.specs.declared.putting.There.TheVariants.{Free, Plain, Other}

-- a call by its paths, and how it ended: what was told of a file, links followed or not; the text of a link, where there is
-- one; of what kind the error was where a file was not opened; that a file
-- was made or emptied to be written, that bytes were written to one that was made or emptied, that one was given permissions, another path, or was taken away, and whether that went well
pub data Call : Type 0 where
  Follow : List ℕ → Result Metadata Error → Call
  See : List ℕ → Result Metadata Error → Call
  Link : List ℕ → Option (List ℕ) → Call
  Open : List ℕ → Option ErrorKind → Call
  Create : List ℕ → Bool → Call
  Write : List ℕ → List ℕ → Bool → Call
  Permit : List ℕ → ℕ → Bool → Call
  Rename : List ℕ → List ℕ → Bool → Call
  Remove : List ℕ → Bool → Call

-- the text of a link
abbrev pub text_of : {A : Type 0} → Result (PathBuf A) Error → Option (List ℕ)
text_of (Ok path) = Some (path_buf_bytes path)
text_of (Err error) = None

-- of what kind the error is, where a file is not opened
abbrev pub unopened_as : {F : Type 0} → Result F Error → Option ErrorKind
unopened_as (Ok file) = None
unopened_as (Err error) = Some (error_kind error)

-- these calls came after those before, where they are known
abbrev pub Called : Option (List Call) → Option (List Call) → List Call → Type 0
Called before after calls = IfSome before (λ done. after ≡ Some (done ++ calls))

-- ---- steps

-- a call, by whether it goes well
abbrev pub Step : Type 0
Step = Bool → Call

-- steps that all go well
abbrev pub well : List Step → List Call
well steps = map (λ (step : Step). step true) steps

-- the steps before one went well and that one did not; none came after it
pub record IsCut (steps : List Step) (calls : List Call) : Type 0 where
  pub front : List Step
  pub failed : Step
  pub rest : List Step
  pub split : steps ≡ front ++ failed ∷ rest
  pub called : calls ≡ well front ++ failed false ∷ []

-- the steps were taken, or they were cut where the device failed
abbrev pub Steps : List Step → Option (List Call) → Option (List Call) → Result (Unit {0}) PutFault → Type 0
Steps steps before after (Ok done) = Called before after (well steps)
Steps steps before after (Err why) = (why ≡ Device) × (calls : List Call) × Called before after calls × IsCut steps calls

-- ---- a file in its place

-- the path beside it at which a file is made
abbrev pub part_of : List ℕ → List ℕ
part_of path = path ++ codes ".part"

-- what is done to a part, as a step
abbrev pub step_of : PartStage → Step
step_of (stage.Write part content) = Write part.now (content_text content)
step_of (stage.Rename part path) = Rename part.now path.now

-- permissions are given where there are some
abbrev pub permits : List ℕ → Option ℕ → List Step
permits part None = []
permits part (Some mode) = Permit part mode ∷ []

-- a part is made empty and given the permissions, the text is written to it, and then it is put in the place of the path
abbrev pub steps_beside : List ℕ → Option ℕ → List ℕ → List ℕ → List Step
steps_beside part mode path text = Write part [] ∷ permits part mode ++ Write part text ∷ Rename part path ∷ []

-- what stands at a path, by what the system told
abbrev pub Says : Result Metadata Error → Result There PutFault → Type 0
Says (Ok told) (Ok Free) = ⊥
Says (Ok told) (Ok (Plain permissions)) = IsFile (file_type told) × (permissions_mode permissions ≡ metadata_mode told)
Says (Ok told) (Ok Other) = IsFile (file_type told) → ⊥
Says (Ok told) (Err why) = ⊥
Says (Err error) (Ok Free) = error_kind error ≡ NotFound
Says (Err error) (Ok (Plain permissions)) = ⊥
Says (Err error) (Ok Other) = ⊥
Says (Err error) (Err why) = (error_kind error ≢ NotFound) × (why ≡ Device)

-- steps are taken with a part: all go well; or one fails and the part is taken away; or memory runs out before the first
abbrev pub StepsWith : List ℕ → List Step → List Call → Result (Unit {0}) PutFault → Type 0
StepsWith part steps calls (Ok done) = calls ≡ well steps
StepsWith part steps calls (Err Device) = (cut : List Call) × (removed : Bool) × IsCut steps cut × (calls ≡ cut ++ Remove part removed ∷ [])
StepsWith part steps calls (Err Memory) = calls ≡ []

-- a text is put beside its place and then there
abbrev pub PutsBeside : Option ℕ → List ℕ → List ℕ → List Call → Result (Unit {0}) PutFault → Type 0
PutsBeside mode path text calls result = StepsWith (part_of path) (steps_beside (part_of path) mode path text) calls result

-- a text is put where that stands: beside a file or at a free place, and straight to what is no plain file
abbrev pub PutsAt : Result There PutFault → List ℕ → List ℕ → List Call → Result (Unit {0}) PutFault → Type 0
PutsAt (Ok Free) path text calls result = PutsBeside None path text calls result
PutsAt (Ok (Plain permissions)) path text calls result = PutsBeside (Some (permissions_mode permissions)) path text calls result
PutsAt (Ok Other) path text calls result = (calls ≡ Write path text (is_ok result) ∷ []) × (result ≢ Err Memory)
PutsAt (Err why) path text calls result = (calls ≡ []) × (result ≡ Err why)

-- what stands at the path is looked at, and the text is put there
pub record Puts (path text : List ℕ) (before after : Option (List Call)) (result : Result (Unit {0}) PutFault) : Type 0 where
  pub told : Result Metadata Error
  pub there : Result There PutFault
  pub calls : List Call
  pub says : Says told there
  pub puts : PutsAt there path text calls result
  pub called : Called before after (See path told ∷ calls)

-- ---- a file that is written piece by piece

-- the path of the part that a file is which was made, where it is one
abbrev pub part_path : {F : Type 0} → MadeFile F → Option (List ℕ)
part_path made = option_map string_bytes made.part

-- the same, where a file was made
abbrev pub part_made : {F : Type 0} → Result (MadeFile F) PutFault → Result (Option (List ℕ)) PutFault
part_made (Ok made) = Ok (part_path made)
part_made (Err why) = Err why

-- a part is created and given the permissions
abbrev pub steps_made : List ℕ → Option ℕ → List Step
steps_made part mode = Create part ∷ permits part mode

-- a file is made beside its place
abbrev pub MakesBeside : Option ℕ → List ℕ → List Call → Result (Option (List ℕ)) PutFault → Type 0
MakesBeside mode path calls made =
    StepsWith (part_of path) (steps_made (part_of path) mode) calls (made_as made) × IfOk made (λ part. part ≡ Some (part_of path))

-- what is no plain file is opened itself
abbrev pub MakesItself : List ℕ → List Call → Result (Option (List ℕ)) PutFault → Type 0
MakesItself path calls (Ok part) = (calls ≡ Create path true ∷ []) × (part ≡ None)
MakesItself path calls (Err why) = (calls ≡ Create path false ∷ []) × (why ≡ Device)

-- a file is made where that stands: beside a file or at a free place, and what is no plain file is opened itself
abbrev pub MakesAt : Result There PutFault → List ℕ → List Call → Result (Option (List ℕ)) PutFault → Type 0
MakesAt (Ok Free) path calls made = MakesBeside None path calls made
MakesAt (Ok (Plain permissions)) path calls made = MakesBeside (Some (permissions_mode permissions)) path calls made
MakesAt (Ok Other) path calls made = MakesItself path calls made
MakesAt (Err why) path calls made = (calls ≡ []) × (made ≡ Err why)

-- what stands at the path is looked at, and the file is made there
pub record Makes (path : List ℕ) (before after : Option (List Call)) (made : Result (Option (List ℕ)) PutFault) : Type 0 where
  pub told : Result Metadata Error
  pub there : Result There PutFault
  pub calls : List Call
  pub says : Says told there
  pub makes : MakesAt there path calls made
  pub called : Called before after (See path told ∷ calls)

-- a part is put in the place of the path; or that fails, and it is taken away
abbrev pub KeepsPart : List ℕ → List ℕ → Option (List Call) → Option (List Call) → Result (Unit {0}) PutFault → Type 0
KeepsPart part path before after (Ok done) = Called before after (Rename part path true ∷ [])
KeepsPart part path before after (Err why) = (why ≡ Device) × (removed : Bool) × Called before after (Rename part path false ∷ Remove part removed ∷ [])

-- a file that was made is put in the place of the path: its part is, and what has none stands there
abbrev pub KeepsMade : Option (List ℕ) → List ℕ → Option (List Call) → Option (List Call) → Result (Unit {0}) PutFault → Type 0
KeepsMade None path before after result = (after ≡ before) × (result ≡ Ok tt)
KeepsMade (Some part) path before after result = KeepsPart part path before after result

-- a file that was made is given up: its part is taken away
abbrev pub LeavesMade : Option (List ℕ) → Option (List Call) → Option (List Call) → Type 0
LeavesMade None before after = after ≡ before
LeavesMade (Some part) before after = (removed : Bool) × Called before after (Remove part removed ∷ [])
