-- What holds of inputs and outputs alike, said once: over the side of an actor.
use Rattle.std.specs.Prelude.{ℕ, ℤ, List}
use Rattle.csdf_core.specs.declared.side.Side.{Side}
use Rattle.csdf_core.specs.declared.side.Side.TheVariants.{Input, Output}
use Rattle.csdf_core.specs.Blocks.{takes_at, gives_at, needs_of, gifts_of}
use Rattle.csdf_core.specs.Engine.{FindsIn, FindsOut, IsHeld, HasRoom}
use Rattle.csdf_core.specs.Plan.{Channel, consume_at, from_at, produce_at, to_at}
use Rattle.csdf_core.specs.Ports.{inputs_at, outputs_at, take_at, give_at}
use Rattle.csdf_core.specs.Rows.{need, gift}

-- the channels at this side of an actor, by number
abbrev pub ends_at : Side → List Channel → ℕ → List ℕ
ends_at Input channels a = inputs_at channels a
ends_at Output channels a = outputs_at channels a

-- the actor that has the channel at this side
abbrev pub owner_at : Side → List Channel → ℕ → ℕ
owner_at Input channels c = to_at channels c
owner_at Output channels c = from_at channels c

-- the channel's rates there
abbrev pub rates_at : Side → List Channel → ℕ → List ℕ
rates_at Input channels c = consume_at channels c
rates_at Output channels c = produce_at channels c

-- how many tokens firing number k moves in the channel, and how many n firings do from there on
abbrev pub amount_at : Side → List Channel → ℕ → ℕ → ℕ
amount_at Input channels k c = take_at channels k c
amount_at Output channels k c = give_at channels k c

abbrev pub amounts_at : Side → List Channel → ℕ → ℕ → ℕ → ℕ
amounts_at Input channels k n c = takes_at channels k n c
amounts_at Output channels k n c = gives_at channels k n c

-- how many tokens firing number k of the actor moves in all, and how many n firings do
abbrev pub moved : Side → ℕ → ℕ → List Channel → ℕ
moved Input a k channels = need a k channels
moved Output a k channels = gift a k channels

abbrev pub moved_ahead : Side → List Channel → ℕ → ℕ → ℕ → ℕ
moved_ahead Input channels a k n = needs_of channels a k n
moved_ahead Output channels a k n = gifts_of channels a k n

-- the channel lets so many cycles of the actor's phases through
abbrev pub LetsThrough : Side → List Channel → List (List ℤ) → ℕ → ℕ → ℕ → ℕ → ℕ → Type 0
LetsThrough Input channels tokens a k phases cycles c = IsHeld channels tokens a k phases cycles c
LetsThrough Output channels tokens a k phases cycles c = HasRoom channels tokens a k phases cycles c

-- the channel has what firings number k to k + i need there, one after another
abbrev pub Finds : Side → List Channel → List (List ℤ) → ℕ → ℕ → ℕ → ℕ → Type 0
Finds Input channels tokens a k i c = FindsIn channels tokens a k i c
Finds Output channels tokens a k i c = FindsOut channels tokens a k i c
