-- An actor of one phase takes and gives the same in each firing.
use Rattle.std.proofs.Common.{◌≡◌, ℕ, zero, suc, ◌*◌, ◌<◌, ◌%◌, List, length, get_or, ap, sym, ◌∙◌, arith}
use Rattle.std.specs.List.{AllByRecursion}
use Rattle.std.proofs.Math.Nat.{mod-one, suc-mul}
use Rattle.csdf_model.specs.Rates.{rate}
use Rattle.csdf_core.specs.declared.side.Side.{Side}
use Rattle.csdf_core.specs.declared.side.Side.TheVariants.{Input, Output}
use Rattle.csdf_core.specs.Blocks.{needs_of, gifts_of, takes_at, gives_at}
use Rattle.csdf_core.specs.Phases.{HasPhases}
use Rattle.csdf_core.specs.Plan.{Channel, from_at, to_at, consume_at, produce_at}
use Rattle.csdf_core.specs.Ports.{inputs_at, outputs_at, take_at, give_at}
use Rattle.csdf_core.specs.Rows.{need, gift}
use Rattle.csdf_core.specs.Sides.{owner_at, rates_at}
pub use Rattle.csdf_core.proofs.OwnChannels.{give_is, sum_same, take_is}
use Rattle.csdf_core.proofs.OwnChannels.{amounts_alike, has_at, moved_alike}

pub rate_one : (rates : List ℕ) (j k : ℕ) → length rates ≡ 1 → rate rates j ≡ rate rates k
rate_one rates j k e =
    let at : (i : ℕ) → i % length rates ≡ 0 = λ i. ap (λ l. i % l) e ∙ mod-one i in
    ap (λ i. get_or rates i 0) (at j ∙ sym (at k))

module _ (cs : List Channel) (a : ℕ) (has : HasPhases cs a 1) where
  one_rate : (side : Side) (j k c : ℕ) → c < length cs → owner_at side cs c ≡ a → rate (rates_at side cs c) j ≡ rate (rates_at side cs c) k
  one_rate side j k c lt own = rate_one (rates_at side cs c) j k (has_at side cs a 1 c has lt own)

  pub same_takes : (j k : ℕ) → AllByRecursion (λ c. take_at cs j c ≡ take_at cs k c) (inputs_at cs a)
  same_takes j k = amounts_alike Input cs a j k (one_rate Input j k)

  pub same_gives : (j k : ℕ) → AllByRecursion (λ c. give_at cs j c ≡ give_at cs k c) (outputs_at cs a)
  same_gives j k = amounts_alike Output cs a j k (one_rate Output j k)

  pub same_need : (j k : ℕ) → need a j cs ≡ need a k cs
  same_need j k = moved_alike Input cs a j k (one_rate Input j k)

  pub same_gift : (j k : ℕ) → gift a j cs ≡ gift a k cs
  same_gift j k = moved_alike Output cs a j k (one_rate Output j k)

  pub needs_times : (k n : ℕ) → needs_of cs a k n ≡ n * need a k cs
  needs_times k zero = omega arith
  needs_times k (suc n) =
      let rest : needs_of cs a (suc k) n ≡ n * need a k cs = needs_times (suc k) n ∙ ap (λ x. n * x) (same_need (suc k) k) in
      let t = suc-mul n (need a k cs) in
      omega (arith, rest, t)

  pub gifts_times : (k n : ℕ) → gifts_of cs a k n ≡ n * gift a k cs
  gifts_times k zero = omega arith
  gifts_times k (suc n) =
      let rest : gifts_of cs a (suc k) n ≡ n * gift a k cs = gifts_times (suc k) n ∙ ap (λ x. n * x) (same_gift (suc k) k) in
      let t = suc-mul n (gift a k cs) in
      omega (arith, rest, t)

  pub takes_times : (c : ℕ) → c < length cs → to_at cs c ≡ a → (k n : ℕ) → takes_at cs k n c ≡ n * take_at cs k c
  takes_times c lt own k zero = omega arith
  takes_times c lt own k (suc n) =
      let same : take_at cs (suc k) c ≡ take_at cs k c =
      take_is cs (suc k) c lt ∙ rate_one (consume_at cs c) (suc k) k (has.takes c lt own) ∙ sym (take_is cs k c lt) in
      let rest : takes_at cs (suc k) n c ≡ n * take_at cs k c = takes_times c lt own (suc k) n ∙ ap (λ x. n * x) same in
      let t = suc-mul n (take_at cs k c) in
      omega (arith, rest, t)

  pub gives_times : (c : ℕ) → c < length cs → from_at cs c ≡ a → (k n : ℕ) → gives_at cs k n c ≡ n * give_at cs k c
  gives_times c lt own k zero = omega arith
  gives_times c lt own k (suc n) =
      let same : give_at cs (suc k) c ≡ give_at cs k c =
      give_is cs (suc k) c lt ∙ rate_one (produce_at cs c) (suc k) k (has.gives c lt own) ∙ sym (give_is cs k c lt) in
      let rest : gives_at cs (suc k) n c ≡ n * give_at cs k c = gives_times c lt own (suc k) n ∙ ap (λ x. n * x) same in
      let t = suc-mul n (give_at cs k c) in
      omega (arith, rest, t)
