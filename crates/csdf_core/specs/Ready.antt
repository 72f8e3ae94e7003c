-- What every state that is reached has: the channels are ready for what the actors are about to do.
use Rattle.std.specs.Prelude.{ℕ, ◌+◌, ◌-◌, ◌<◌, ◌≤◌, ◌≡◌, ◌≢◌, Bool, false, List, ℤ, length, slice_index, slice_index_or}
use Rattle.std.specs.List.{zip, AllByRecursion}
use Rattle.csdf_core.specs.declared.stage.Stage.{Stage}
use Rattle.csdf_core.specs.declared.stage.Stage.TheVariants.{Idle, Begun, Fetched}
use Rattle.csdf_core.specs.Plan.{Channel, Plan, takes_of, gives_of}
use Rattle.csdf_core.specs.Rows.{Row}
use Rattle.csdf_core.specs.State.{Present}
use Rattle.csdf_core.specs.Step.{count, stage, held, reserved}

-- the channel is within its capacity, a begun consumer finds its tokens, and a producer that is to write finds room
pub record IsReady (counts : List ℕ) (stages : List Stage) (channel : Channel) (tokens : List ℤ) : Type 0 where
  pub fits : length tokens ≤ channel.capacity
  pub input : slice_index_or stages channel.to Idle ≡ Begun → takes_of channel.to (slice_index counts channel.to) channel ≤ length tokens
  pub begun : slice_index_or stages channel.from Idle ≡ Begun
      → length tokens - takes_of channel.from (slice_index counts channel.from) channel + gives_of channel.from (slice_index counts channel.from) channel
      ≤ channel.capacity
  pub fetched : slice_index_or stages channel.from Idle ≡ Fetched
      → length tokens + gives_of channel.from (slice_index counts channel.from) channel ≤ channel.capacity

abbrev pub AllReady : Plan → Present → Type 0
AllReady plan p = AllByRecursion (λ (row : Row). IsReady p.counts p.stages row.0 row.1) (zip plan.channels p.tokens)

-- an actor that is at work has not reached its limit
abbrev pub AreBelow : Plan → Present → Type 0
AreBelow plan p = (a : ℕ) → stage p a ≢ Idle → count p a < slice_index plan.limits a

-- a closed channel has no producer that is to write
abbrev pub AreClosed : Plan → Present → Type 0
AreClosed plan p =
    AllByRecursion
    (λ (row : Channel × Bool). row.1 ≡ false
    → (slice_index_or p.stages row.0.from Idle ≢ Begun) × (slice_index_or p.stages row.0.from Idle ≢ Fetched))
    (zip plan.channels p.opens)

-- one entry for each actor or channel, each channel ready, each actor at work below its limit, no closed channel about to be written,
-- and no more cells held and reserved than there are
pub record IsFit (plan : Plan) (p : Present) : Type 0 where
  pub counted : length p.counts ≡ length plan.sources
  pub staged : length p.stages ≡ length plan.sources
  pub opened : length p.opens ≡ length plan.channels
  pub queued : length p.tokens ≡ length plan.channels
  pub below : AreBelow plan p
  pub ready : AllReady plan p
  pub closed : AreClosed plan p
  pub room : held p + reserved plan p ≤ plan.cells
