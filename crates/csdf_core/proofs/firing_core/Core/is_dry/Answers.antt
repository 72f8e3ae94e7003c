use Rattle.std.proofs.lemmas.Grind.{common_steps}
use Rattle.std.proofs.Common.{get_or, sym, ◌∙◌, arith}
use Rattle.csdf_core.proofs.Totals.{dry_is}
use Rattle.csdf_core.proofs.firing_core.Core.is_dry.Goals as goal

pub returns-then-is_source : goal.returns-then-is_source
returns-then-is_source c =
    rw (← c.self.view_is) (dry_is c.self.inside.plan c.args.actor (get_or c.self.inside.nexts.counts.items c.args.actor 0) c.from.result c.written-written.result
    c.gives-gives.result (sym c.is_source.ensures ∙ c.if-is_source.true) (c.from.ensures ∙ c.supply.ensures)
    (rw (← c.self.view_is) at c.written-written.ensures.value) (rw (← c.self.view_is) at c.gives-gives.ensures.sum))

pub supply-requires : goal.supply-requires
supply-requires c = grind (arith, common_steps)
