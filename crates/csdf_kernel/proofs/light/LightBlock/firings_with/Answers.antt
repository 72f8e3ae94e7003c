use Rattle.std.proofs.Common.{arith}
use Rattle.csdf_kernel.proofs.LightLemmas.{reach_is}
use Rattle.csdf_kernel.proofs.light.LightBlock.firings_with.Goals as goal

pub returns-clause-there : goal.returns-clause-there
returns-clause-there c f lt =
    reach_is f c.args.self.now.firings c.args.self.now.need c.args.reach (grind (arith, c.if-self-eq0.false)) (omega (arith, lt, c.saturating_sub.ensures))
