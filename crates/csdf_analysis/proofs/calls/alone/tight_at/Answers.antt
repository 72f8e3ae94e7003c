use Rattle.std.proofs.Common.{ap, ◌∙◌}
use Rattle.std.specs.ControlFlow.{continue_value}
use Rattle.csdf_model.specs.Graph.{channel_view}
use Rattle.csdf_analysis.proofs.TightLemmas.{enough_at, enough_given}
use Rattle.csdf_analysis.proofs.calls.alone.tight_at.Goals as goal

pub returns-else-given-needs-clause-tight : goal.returns-else-given-needs-clause-tight
returns-else-given-needs-clause-tight c =
    let d = channel_view c.args.channel.now in
    enough_given c.args.channel.now.capacity c.args.q.now d c.in_ok-given.given (c.branch-given.ensures ∙ ap continue_value c.in_ok-given.is)
    (enough_at c.args.q.now d c.in_ok-given.given c.own_capacity-needs.result c.own_capacity-needs.ensures c.if-given-needs.false)
