-- What a channel asks of its two actors, and what the channels before it ask of these.
use Rattle.std.specs.Prelude.{◌≡◌, ◌≢◌, ◌↔◌, ℕ, ◌*◌, ◌/◌, ◌≤◌, List, Option, Some, None, take, slice_get, slice_index}
use Rattle.csdf_model.specs.Graph.{Actor, Channel}
use Rattle.csdf_analysis.specs.declared.demand.Demand.{Demand}
use Rattle.csdf_analysis.specs.declared.demand.Ratio.{Ratio}
use Rattle.csdf_analysis.specs.Divisor.{IsGreatestDivisor}
use Rattle.csdf_analysis.specs.Repetition.{IsBalanced, Balances, IsVector}

-- both numbers are at least 1, and nothing greater than 1 divides both
pub record IsLowest (r : Ratio) : Type 0 where
  pub some_from : 1 ≤ r.from
  pub some_to : 1 ≤ r.to
  pub prime : IsGreatestDivisor r.from r.to 1

-- the ratio of two numbers in lowest terms
pub record IsLowestOf (from to : ℕ) (r : Ratio) : Type 0 where
  pub divisor : ℕ
  pub greatest : IsGreatestDivisor from to divisor
  pub from_part : r.from ≡ from / divisor
  pub to_part : r.to ≡ to / divisor

-- a vector has so many cycles of one actor to so many of another
abbrev pub HasRatio : List ℕ → ℕ → ℕ → Ratio → Type 0
HasRatio w a b r = slice_index w a * r.to ≡ slice_index w b * r.from

-- a vector balances the channel exactly where its entries of the ends have this ratio
pub record Asks (actors : List Actor) (c : Channel) (r : Ratio) : Type 0 where
  pub lowest : IsLowest r
  pub balances : (w : List ℕ) → IsBalanced actors w c ↔ HasRatio w c.from c.to r

-- each vector that balances the channels has this ratio
pub record AskAll (actors : List Actor) (channels : List Channel) (c : Channel) (r : Ratio) : Type 0 where
  pub lowest : IsLowest r
  pub every : (w : List ℕ) → Balances actors w channels → HasRatio w c.from c.to r

-- two vectors balance the channels in different ratios
pub record LeaveFree (actors : List Actor) (channels : List Channel) (c : Channel) : Type 0 where
  pub v : List ℕ
  pub w : List ℕ
  pub v_vector : IsVector actors v
  pub w_vector : IsVector actors w
  pub v_balances : Balances actors v channels
  pub w_balances : Balances actors w channels
  pub differ : slice_index v c.from * slice_index w c.to ≢ slice_index w c.from * slice_index v c.to

-- what the channels ask of the ends of another one: a ratio, or none
abbrev pub AskBefore : List Actor → List Channel → Channel → Option Ratio → Type 0
AskBefore actors channels c None = LeaveFree actors channels c
AskBefore actors channels c (Some r) = AskAll actors channels c r

-- what the channel of this number asks, and what those before it do
pub record IsDemand (actors : List Actor) (channels : List Channel) (number : ℕ) (d : Demand) : Type 0 where
  pub channel : Channel
  pub place : slice_get channels number ≡ Some channel
  pub own : Asks actors channel d.own
  pub before : AskBefore actors (take number channels) channel d.before
