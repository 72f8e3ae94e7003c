-- Several firings of an actor that keeps its state in a channel to itself, one after another with no other's move between.
use Rattle.std.specs.Prelude.{ℕ, zero, suc, ◌≡◌, ◌≢◌, ◌+◌, ◌-◌, ◌*◌, ◌<◌, ◌≤◌, ◌==◌, if◌then◌else◌, Bool, true, false, List, [], ◌∷◌, ◌++◌, ℤ}
use Rattle.std.specs.Prelude.{Option, Some, None, IfSome, length, take, drop, slice_index, sum_by}
use Rattle.std.specs.List.{AllByRecursion}
use Rattle.csdf_core.specs.declared.stage.Stage.TheVariants.{Idle}
use Rattle.csdf_core.specs.declared.feedback.Feedback.{Feedback}
use Rattle.csdf_core.specs.Blocks.{takes_at, gives_at, capacity_at, HoldAll}
use Rattle.csdf_core.specs.Phases.{HasPhases}
use Rattle.csdf_core.specs.Plan.{Channel, Plan, from_at, to_at}
use Rattle.csdf_core.specs.Ports.{inputs_at, outputs_at, take_at, give_at, tokens_at}
use Rattle.csdf_core.specs.Rows.{first, gift, is_closed}
use Rattle.csdf_core.specs.State.{Present}
use Rattle.csdf_core.specs.Step.{begun_count, count, held, is_source, reserved, stage}

-- the actor has one phase and is no source, and just one channel goes from it to itself, to which each firing gives as many tokens as it takes
pub record KeepsState (plan : Plan) (a own : ℕ) : Type 0 where
  pub no_source : is_source plan a ≡ false
  pub phases : HasPhases plan.channels a 1
  pub there : own < length plan.channels
  pub from_it : from_at plan.channels own ≡ a
  pub to_it : to_at plan.channels own ≡ a
  pub even : give_at plan.channels 0 own ≡ take_at plan.channels 0 own
  pub alone : AllByRecursion (λ c. c ≢ own → from_at plan.channels c ≢ a) (inputs_at plan.channels a)

-- how many tokens n firings have to find in an input, and for how many they have to find room in an output:
-- in the channel to itself the tokens of one firing and no room, since each firing gives back what it takes
abbrev pub asks_at : List Channel → ℕ → ℕ → ℕ → ℕ → ℕ
asks_at channels own k n c = if c == own then take_at channels k c else takes_at channels k n c

abbrev pub fills_at : List Channel → ℕ → ℕ → ℕ → ℕ → ℕ
fills_at channels own k n c = if c == own then 0 else gives_at channels k n c

-- the inputs of an actor in file order: the channel to itself, first or last, and these
abbrev pub in_order : Bool → ℕ → List ℕ → List ℕ
in_order true own others = own ∷ others
in_order false own others = others ++ own ∷ []

abbrev pub others_of : Option ℕ → List ℕ
others_of None = []
others_of (Some c) = c ∷ []

-- in no order are the inputs this channel and at most one other
abbrev pub AreNotInOrder : List ℕ → ℕ → Type 0
AreNotInOrder inputs own =
    (is_first : Bool) (other : Option ℕ) → IfSome other (λ c. c ≢ own) → inputs ≡ in_order is_first own (others_of other) → ⊥

-- the amounts of those of the channels that come before this one
abbrev pub before_of : (ℕ → ℕ) → List ℕ → ℕ → ℕ
before_of amount [] own = 0
before_of amount (c ∷ numbers) own = if c == own then 0 else amount c + before_of amount numbers own

-- what is told of the actor's channel to itself is so: how many tokens a firing takes of it and of the other input,
-- which of the two comes first, and how many tokens a firing gives to outputs that come before it
pub record IsFeedback (plan : Plan) (a : ℕ) (f : Feedback) : Type 0 where
  pub keeps : KeepsState plan a f.channel
  pub order : inputs_at plan.channels a ≡ in_order f.is_first f.channel (others_of f.other)
  pub apart : IfSome f.other (λ c. c ≢ f.channel)
  pub taken : f.taken ≡ take_at plan.channels 0 f.channel
  pub each : f.each ≡ sum_by (take_at plan.channels 0) (others_of f.other)
  pub before : f.before ≡ before_of (give_at plan.channels 0) (outputs_at plan.channels a) f.channel

-- the state and the other tokens that a firing reads, in file order
abbrev pub beside : Bool → List ℤ → List ℤ → List ℤ
beside true state others = state ++ others
beside false state others = others ++ state

-- what n firings that write v read, one firing's after another's: the state, and so many of the other tokens each; the state is first this one,
-- and then as many tokens behind the first few of those that the firing before wrote, which are `gift`
abbrev pub loop_reads : Bool → ℕ → ℕ → ℕ → ℕ → List ℤ → List ℤ → List ℤ → List ℤ
loop_reads is_first each before gift zero state others v = []
loop_reads is_first each before gift (suc n) state others v =
    beside is_first state (take each others)
    ++ loop_reads is_first each before gift n (take (length state) (drop before (take gift v))) (drop each others) (drop gift v)

-- each of the channels has room for its amount of tokens
abbrev pub HaveRoomFor : List Channel → List (List ℤ) → (ℕ → ℕ) → List ℕ → Type 0
HaveRoomFor channels tokens amount numbers = AllByRecursion (λ c. length (tokens_at tokens c) + amount c ≤ capacity_at channels c) numbers

-- an actor whose next firing is number k finds what n firings need: in the channel to itself just the tokens of one firing
pub record GoesOn (plan : Plan) (p : Present) (a own k n : ℕ) : Type 0 where
  pub there : a < length plan.sources
  pub number : count p a ≡ k
  pub idle : stage p a ≡ Idle
  pub limit : k + n ≤ slice_index plan.limits a
  pub opens : first (is_closed a) plan.channels p.opens ≡ None
  pub state : length (tokens_at p.tokens own) ≡ take_at plan.channels k own
  pub tokens : HoldAll p.tokens (asks_at plan.channels own k n) (inputs_at plan.channels a)
  pub room : HaveRoomFor plan.channels p.tokens (fills_at plan.channels own k n) (outputs_at plan.channels a)
  pub firings : IfSome plan.firings (λ most. begun_count p + n ≤ most)
  pub cells : held p + reserved plan p + n * (gift a k plan.channels - take_at plan.channels k own) ≤ plan.cells

-- the actor can make n firings one after the other
abbrev pub CanGoOn : Plan → Present → ℕ → ℕ → ℕ → Type 0
CanGoOn plan p a own n = GoesOn plan p a own (count p a) n
