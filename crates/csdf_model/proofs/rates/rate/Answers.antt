use Rattle.std.proofs.Common.{rules, ◌≡◌, ◌<◌, ◌%◌, ℕ, length, get_or, ap, arith}
use Rattle.std.proofs.Math.Nat.{mod-lt}
use Rattle.csdf_model.proofs.rates.rate.Goals as goal

pub returns-then-rates-eq1 : goal.returns-then-rates-eq1
returns-then-rates-eq1 c =
    let some : 0 < length c.args.rates.now = omega (arith, c.if-rates-eq1.true) in
    let below : c.args.firing % length c.args.rates.now < length c.args.rates.now = mod-lt c.args.firing {m = length c.args.rates.now} some in
    let first : 0 ≡ c.args.firing % length c.args.rates.now = omega (arith, below, c.if-rates-eq1.true) in
    ap (λ (k : ℕ). get_or c.args.rates.now k 0) first

pub returns : goal.returns
returns c = search rules
