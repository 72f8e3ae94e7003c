-- What holds at both sides of an actor.
use Rattle.std.proofs.Common.{◌≡◌, ℕ, suc, ◌+◌, ◌<◌, ◌≤◌, List, length, refl, ap, arith}
use Rattle.std.specs.Prelude.{ℤ, sum_by}
use Rattle.csdf_model.specs.Rates.{rate, total}
use Rattle.csdf_core.specs.declared.side.Side.{Side}
use Rattle.csdf_core.specs.declared.side.Side.TheVariants.{Input, Output}
use Rattle.csdf_core.specs.Blocks.{gives_at, takes_at}
use Rattle.csdf_core.specs.Plan.{Channel}
use Rattle.csdf_core.specs.Sides.{amounts_at, ends_at, moved_ahead, rates_at, LetsThrough}
use Rattle.csdf_core.proofs.Cycles.{held_fewer, room_fewer}
use Rattle.csdf_core.proofs.OwnChannels.{give_is, take_is}
use Rattle.csdf_core.proofs.RateTotals.{gifts_sum, needs_sum, total_from}

pub moved_sum : (side : Side) (cs : List Channel) (a k n : ℕ) → sum_by (amounts_at side cs k n) (ends_at side cs a) ≡ moved_ahead side cs a k n
moved_sum Input cs a k n = needs_sum cs a k n
moved_sum Output cs a k n = gifts_sum cs a k n

pub fewer_through : (side : Side) (cs : List Channel) (tokens : List (List ℤ)) (a k phases m n c : ℕ) → m ≤ n
    → LetsThrough side cs tokens a k phases n c → LetsThrough side cs tokens a k phases m c
fewer_through Input cs tokens a k phases m n c le is = held_fewer cs tokens a k phases m n c le is
fewer_through Output cs tokens a k phases m n c le is = room_fewer cs tokens a k phases m n c le is

-- n firings move nothing, or what the first of them does and then the others
pub amounts_none : (side : Side) (cs : List Channel) (k c : ℕ) → amounts_at side cs k 0 c ≡ 0
amounts_none Input cs k c = refl
amounts_none Output cs k c = refl

pub amounts_more : (side : Side) (cs : List Channel) (k n c : ℕ) → c < length cs
    → amounts_at side cs k (suc n) c ≡ rate (rates_at side cs c) k + amounts_at side cs (suc k) n c
amounts_more Input cs k n c lt = ap (λ (x : ℕ). x + takes_at cs (suc k) n c) (take_is cs k c lt)
amounts_more Output cs k n c lt = ap (λ (x : ℕ). x + gives_at cs (suc k) n c) (give_is cs k c lt)

-- what the first firings move, from none on
pub total_is : (side : Side) (cs : List Channel) (n c : ℕ) → c < length cs → amounts_at side cs 0 n c ≡ total (rates_at side cs c) n
total_is side cs n c lt =
    let all = total_from (rates_at side cs c) (λ k m. amounts_at side cs k m c) (λ k. amounts_none side cs k c) (λ k m. amounts_more side cs k m c lt) 0 n in
    let same = ap (total (rates_at side cs c)) (let z : 0 + n ≡ n = omega arith in z) in
    omega (arith, all, same)
