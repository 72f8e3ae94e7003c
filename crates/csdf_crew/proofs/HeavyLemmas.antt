-- Tests of actors and channels as the code has them, and as a graph does.
use Rattle.std.proofs.Common.{◌≡◌, ◌≤◌, ◌+◌, ℕ, Bool, true, cond, List, [], ◌∷◌, map, refl, sym, ap, ◌∙◌, arith}
use Rattle.std.proofs.lemmas.List.Sums.{sum_by-cons}
use Rattle.std.specs.Prelude.{◌&&◌, ◌==◌, count_by, nat_le, nat_lt}
use Rattle.std.specs.List.{enumerate_from, list_all, zip}
use Rattle.csdf_model.specs.Graph.{Actor, Channel, actor_view, channel_view}
use Rattle.csdf_model.specs.declared.parts.Actor.{Actor as ActorCode}
use Rattle.csdf_model.specs.declared.parts.Channel.{Channel as ChannelCode}
use Rattle.csdf_crew.specs.Heavy.{gains_by_workers, heavy_count, hold_all, holds, is_heavy}

module _ (a firings : ℕ) where
  pub hold_all_seen : (channels : List ChannelCode) (capacities : List ℕ)
      → list_all (λ (row : ChannelCode × ℕ). holds a firings (channel_view row.0) row.1) (zip channels capacities)
      ≡ hold_all a firings (map channel_view channels) capacities
  hold_all_seen [] capacities = refl
  hold_all_seen (c ∷ channels) [] = refl
  hold_all_seen (c ∷ channels) (b ∷ capacities) = ap (λ rest. holds a firings (channel_view c) b && rest) (hold_all_seen channels capacities)

module _ (channels : List Channel) (capacities : List ℕ) where
  pub count_seen : (i : ℕ) (actors : List ActorCode)
      → count_by (λ (row : ℕ × ActorCode). is_heavy channels capacities row.0 (actor_view row.1)) (enumerate_from i actors)
      ≡ count_by (λ (row : ℕ × Actor). is_heavy channels capacities row.0 row.1) (enumerate_from i (map actor_view actors))
  count_seen i [] = refl
  count_seen i (d ∷ actors) =
      sum_by-cons (λ (row : ℕ × ActorCode). cond (is_heavy channels capacities row.0 (actor_view row.1)) 1 0) (i, d) (enumerate_from (i + 1) actors)
      ∙ ap (λ rest. cond (is_heavy channels capacities i (actor_view d)) 1 0 + rest) (count_seen (i + 1) actors)
      ∙ sym (sum_by-cons (λ (row : ℕ × Actor). cond (is_heavy channels capacities row.0 row.1) 1 0) (i, actor_view d) (enumerate_from (i + 1) (map actor_view actors)))

-- where there is one phase and some product, the test is that of the channels
pub held_blocks : (phases each : ℕ) (test : ℕ → Bool) (r : Bool) → phases ≡ 1 → 1 ≤ each → r ≡ test each
    → r ≡ (phases == 1 && (nat_lt 0 each && test each))
held_blocks phases each test r one some is =
    is
    ∙ ap (λ b. b && test each) (sym (let more : nat_lt 0 each ≡ true = grind (arith, some) in more))
    ∙ ap (λ b. b && (nat_lt 0 each && test each)) (sym (ap (λ n. n == 1) one))

-- as many actors of a graph are heavy as of the code
pub count_as : (parts : List ActorCode) (links : List ChannelCode) (room : List ℕ) (actors : List Actor) (channels : List Channel) (capacities : List ℕ) (n : ℕ)
    → n ≡ count_by (λ (row : ℕ × ActorCode). is_heavy (map channel_view links) room row.0 (actor_view row.1)) (enumerate_from 0 parts)
    → map actor_view parts ≡ actors → map channel_view links ≡ channels → room ≡ capacities → nat_le 2 n ≡ gains_by_workers actors channels capacities
count_as parts links room actors channels capacities n is these those given =
    ap (nat_le 2) (
    is ∙ count_seen (map channel_view links) room 0 parts
    ∙ ap (λ ps. heavy_count ps (map channel_view links) room) these
    ∙ ap (λ cs. heavy_count actors cs room) those
    ∙ ap (λ bs. heavy_count actors channels bs) given)
