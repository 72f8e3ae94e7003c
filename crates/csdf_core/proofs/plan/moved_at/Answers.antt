use Rattle.std.proofs.Common.{suc, ◌≡◌, ◌+◌, ◌*◌, ap, ◌∙◌, arith, ℕ}
use Rattle.csdf_model.specs.Rates.{total}
use Rattle.csdf_core.proofs.RateTotals.{total_grows, total_of_one}
use Rattle.csdf_core.proofs.plan.moved_at.Goals as goal

pub returns-then-rates-eq1 : goal.returns-then-rates-eq1
returns-then-rates-eq1 c =
    ap (λ (x : ℕ). total c.args.rates.now c.args.firing + x * c.from-then-rates-eq1.result) c.from.ensures
    ∙ total_of_one c.args.rates.now c.from-then-rates-eq1.result c.args.firing c.args.n c.if-rates-eq1.true c.from-then-rates-eq1.ensures

pub returns-then-n-eq1 : goal.returns-then-n-eq1
returns-then-n-eq1 c =
    let one = ap (total c.args.rates.now) (let z : c.args.firing + c.args.n ≡ suc c.args.firing = omega (arith, c.if-n-eq1.true) in z) in
    omega (arith, one, c.from-then-n-eq1.ensures, c.rate.ensures)

pub overflow_sub-result : goal.overflow_sub-result
overflow_sub-result c = omega (arith, c.total.ensures, c.total-2.ensures, total_grows c.args.rates.now c.args.firing c.args.n)

pub returns : goal.returns
returns c = omega (arith, c.total.ensures, c.total-2.ensures, total_grows c.args.rates.now c.args.firing c.args.n)
