-- What the fields of a plan show, and what they keep: what is looked up and added up once, when the plan is made.
use Rattle.std.specs.Prelude.{ℕ, ◌≡◌, ◌≤◌, ◌<◌, List, Option, IfSome, IfNone, All, length, map, slice_index, slice_index_or}
use Rattle.csdf_model.specs.declared.limits.TheConstants.{MAX_CHANNELS, MAX_PHASES, MAX_TOKENS_PER_FIRING, MAX_TOTAL_PER_FIRING}
use Rattle.csdf_core.specs.declared.plan.Plan.TheInside.{Inside}
use Rattle.csdf_core.specs.declared.planned.PlannedActor.{PlannedActor}
use Rattle.csdf_core.specs.declared.planned.PlannedChannel.{PlannedChannel}
use Rattle.csdf_core.specs.declared.planned.PlannedEnds.{PlannedEnds}
use Rattle.csdf_core.specs.declared.side.Side.{Side}
use Rattle.csdf_core.specs.declared.side.Side.TheVariants.{Input, Output}
use Rattle.csdf_core.specs.Blocks.{HasNoLoop}
use Rattle.csdf_model.specs.Graph.{Graph, inputs_of, outputs_of, phases_of}
use Rattle.csdf_core.specs.Phases.{HasPhases, IsInPhase}
use Rattle.csdf_core.specs.Plan.{Channel, Plan, from_at, to_at}
use Rattle.csdf_core.specs.Playable.{IsPlayable}
use Rattle.csdf_core.specs.Ports.{inputs_at, outputs_at, take_at, give_at}
use Rattle.csdf_core.specs.Rows.{gift}
use Rattle.csdf_core.specs.Sides.{ends_at, moved}

abbrev pub channel_in : PlannedChannel → Channel
channel_in c = record {
  from = c.from;
  to = c.to;
  produce = c.produce.items;
  consume = c.consume.items;
  initial = c.initial.items;
  capacity = c.capacity;
}

-- what contracts see
abbrev pub plan_in : Inside → Plan
plan_in p = record {
  sources = map (λ (a : PlannedActor). a.is_source) p.actors.items;
  channels = map channel_in p.channels.items;
  limits = p.limits.items;
  supplies = p.supply.items;
  firings = p.firings;
  cells = p.cells;
}

-- the channels at a side of an actor, and per phase how many tokens its firing moves there
pub record AreEnds (side : Side) (channels : List Channel) (a : ℕ) (ends : PlannedEnds) : Type 0 where
  pub numbers : ends.channels.items ≡ ends_at side channels a
  pub few : length ends.channels.items ≤ MAX_CHANNELS
  pub moved : (k phase : ℕ) → IsInPhase channels a k phase → slice_index ends.moved.items phase ≡ moved side a k channels
  pub small : (phase : ℕ) → slice_index ends.moved.items phase ≤ MAX_TOTAL_PER_FIRING
  pub first : ends.first ≡ slice_index ends.moved.items 0

-- the first channel from the actor to itself, where there is one
pub record IsFirstLoop (channels : List Channel) (a : ℕ) (own : Option ℕ) : Type 0 where
  pub some : IfSome own (λ c. (c < length channels) × (from_at channels c ≡ a) × (to_at channels c ≡ a))
  pub none : IfNone own (HasNoLoop channels a)

-- what is static of an actor
pub record IsActor (channels : List Channel) (a : ℕ) (actor : PlannedActor) : Type 0 where
  pub input : AreEnds Input channels a actor.input
  pub output : AreEnds Output channels a actor.output
  pub phases : HasPhases channels a actor.phases
  pub some_phase : 1 ≤ actor.phases
  pub few_phases : actor.phases ≤ MAX_PHASES
  pub own : IsFirstLoop channels a actor.own

-- what is static of each actor
abbrev pub AreActors : List Channel → List PlannedActor → Type 0
AreActors channels actors = (a : ℕ) (d : PlannedActor) → a < length actors → IsActor channels a (slice_index_or actors a d)

-- no rate is great
pub record HasSmallRates (c : Channel) : Type 0 where
  pub produce : All (λ n. n ≤ MAX_TOKENS_PER_FIRING) c.produce
  pub consume : All (λ n. n ≤ MAX_TOKENS_PER_FIRING) c.consume

-- the facts of a plan's channels; one from an actor of one phase to itself gives what it takes
pub record AreChannels (channels : List Channel) : Type 0 where
  pub small : All HasSmallRates channels
  pub first : (a : ℕ) → IsInPhase channels a 0 0
  pub few : (a k : ℕ) → gift a k channels ≤ MAX_TOTAL_PER_FIRING
  pub even : (a c : ℕ) → HasPhases channels a 1 → c < length channels → from_at channels c ≡ a → to_at channels c ≡ a
      → take_at channels 0 c ≡ give_at channels 0 c

-- the channels are those of this graph, each with a capacity
pub record AreOf (g : Graph) (channels : List Channel) : Type 0 where
  pub kept : AreChannels channels
  pub inputs : (a : ℕ) → inputs_of g.channels a ≡ inputs_at channels a
  pub outputs : (a : ℕ) → outputs_of g.channels a ≡ outputs_at channels a
  pub phases : (a : ℕ) → HasPhases channels a (phases_of g.actors a)

-- what every plan keeps
pub record IsPlanned (p : Inside) : Type 0 where
  pub playable : IsPlayable (plan_in p)
  pub supplied : length (plan_in p).supplies ≡ length (plan_in p).sources
  pub channels : AreChannels (map channel_in p.channels.items)
  pub actors : AreActors (map channel_in p.channels.items) p.actors.items
