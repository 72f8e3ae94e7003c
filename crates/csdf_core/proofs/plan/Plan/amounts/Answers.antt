use Rattle.std.proofs.Common.{◌≡◌, ◌+◌, ◌≤◌, ℕ, List, ap, subst, arith}
use Rattle.std.specs.Prelude.{All}
use Rattle.csdf_model.specs.Rates.{total}
use Rattle.csdf_core.specs.Plan.{Channel}
use Rattle.csdf_core.specs.Sides.{amounts_at, rates_at}
use Rattle.csdf_core.proofs.PlanLemmas.{rate_small}
use Rattle.csdf_core.proofs.RateTotals.{few_from, total_from}
use Rattle.csdf_core.proofs.SideLemmas.{amounts_more, amounts_none}
use Rattle.csdf_core.proofs.plan.Plan.amounts.Goals as goal

pub returns : goal.returns
returns c =
    let cs : List Channel = c.args.self.now.channels in
    let rates : List ℕ = rates_at c.args.side cs c.args.channel in
    let moved = λ (k n : ℕ). amounts_at c.args.side cs k n c.args.channel in
    let none : (k : ℕ) → moved k 0 ≡ 0 = λ k. amounts_none c.args.side cs k c.args.channel in
    let more = λ (k n : ℕ). amounts_more c.args.side cs k n c.args.channel c.requires.channel in
    let before = ap (λ (l : List ℕ). total l c.args.firing) c.rates.ensures.value in
    let after = ap (λ (l : List ℕ). total l (c.args.firing + c.args.n)) c.rates.ensures.value in
    let all = total_from rates moved none more c.args.firing c.args.n in
    let value : c.moved_at.result ≡ moved c.args.firing c.args.n = omega (arith, c.moved_at.ensures, before, after, all) in
    let low : All (λ n. n ≤ 64) rates = subst (All (λ n. n ≤ 64)) c.rates.ensures.value c.rates.ensures.small in
    let few = few_from rates moved none more (λ k. rate_small rates k low) c.args.firing c.args.n in
    record { value = value; small = omega (arith, value, few) }
