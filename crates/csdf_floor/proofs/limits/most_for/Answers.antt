use Rattle.std.proofs.Common.{arith}
use Rattle.csdf_floor.proofs.MostPeriods.{most_of_one}
use Rattle.csdf_floor.proofs.limits.most_for.Goals as goal

pub returns : goal.returns
returns c n = most_of_one c.args.firings n (omega (arith, c.if-firings-eq0.false))
