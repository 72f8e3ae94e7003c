use Rattle.std.proofs.Common.{ap, ◌∙◌}
use Rattle.csdf_model.specs.Rates.{total}
use Rattle.csdf_core.specs.Headline.{capacity_of}
use Rattle.csdf_core.specs.Plan.{Plan, consume_at, from_at, produce_at, to_at}
use Rattle.csdf_core.specs.Step.{count}
use Rattle.csdf_floor.proofs.Reports.{as_told}
use Rattle.csdf_floor.proofs.book.Book.report_of.Goals as goal

pub returns : goal.returns
returns c =
    let plan = c.self.invariant.kept.plan in
    rw (← c.self.view_is)
    (as_told _ _ c.self.invariant (rw (← c.self.view_is) at c.requires.idle) c.args.channel (rw (← c.self.view_is) at c.requires.exists) _
    (c.put_into.ensures
    ∙ ap (λ (u : Plan). total (produce_at u.channels c.args.channel) (count c.self.inside.core.now (from_at u.channels c.args.channel))) plan)
    (c.taken_from.ensures
    ∙ ap (λ (u : Plan). total (consume_at u.channels c.args.channel) (count c.self.inside.core.now (to_at u.channels c.args.channel))) plan)
    c.len.ensures c.peak.ensures (c.capacity.ensures ∙ ap (λ (u : Plan). capacity_of u c.args.channel) plan) c.is_open.ensures)
