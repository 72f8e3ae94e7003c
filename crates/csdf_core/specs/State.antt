-- The plain state of a graph: every token ever written, and how many were taken.
use Rattle.std.specs.Prelude.{ℕ, Bool, true, List, ℤ, map, drop, replicate, length, ◌≤◌}
use Rattle.std.specs.List.{AllByRecursion}
use Rattle.csdf_core.specs.declared.stage.Stage.{Stage}
use Rattle.csdf_core.specs.declared.stage.Stage.TheVariants.{Idle}
use Rattle.csdf_core.specs.Plan.{Channel, Plan}

-- a channel: its initial tokens and every token ever written, and how many of them were taken
pub record Stream : Type 0 where
  pub written : List ℤ
  pub taken : ℕ

-- per actor how many firings it has finished and its stage, and per channel whether it is open and its stream
pub record State : Type 0 where
  pub counts : List ℕ
  pub stages : List Stage
  pub opens : List Bool
  pub streams : List Stream

-- the same with only the tokens that are present
pub record Present : Type 0 where
  pub counts : List ℕ
  pub stages : List Stage
  pub opens : List Bool
  pub tokens : List (List ℤ)

-- the tokens that wait in a channel
abbrev pub waiting : Stream → List ℤ
waiting stream = drop stream.taken stream.written

abbrev pub present : State → Present
present s = record { counts = s.counts; stages = s.stages; opens = s.opens; tokens = map waiting s.streams }

-- nothing has fired, every actor is idle and every channel open
abbrev pub opening : Plan → State
opening plan = record {
  counts = replicate (length plan.sources) 0;
  stages = replicate (length plan.sources) Idle;
  opens = replicate (length plan.channels) true;
  streams = map (λ (channel : Channel). record { written = channel.initial; taken = 0 }) plan.channels;
}

-- no more was taken than was written
abbrev pub IsLawful : State → Type 0
IsLawful s = AllByRecursion (λ (stream : Stream). stream.taken ≤ length stream.written) s.streams
