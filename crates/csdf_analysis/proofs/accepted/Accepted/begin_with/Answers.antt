use Rattle.std.proofs.Common.{sym, subst}
use Rattle.std.specs.Prelude.{IfSome, slice_get}
use Rattle.csdf_model.specs.Graph.{Graph}
use Rattle.csdf_model.specs.Holding.{HasAsMany}
use Rattle.csdf_analysis.specs.Acceptance.{Accepted, IsAccepted}
use Rattle.csdf_analysis.proofs.ContinuedLemmas.{beginning_accepted}
use Rattle.csdf_analysis.proofs.accepted.Accepted.begin_with.Goals as goal

pub invariant_of-self : goal.invariant_of-self
invariant_of-self c =
    let inside = c.self.inside in
    let a : Accepted = record { graph = inside.graph; r = inside.vector.r.items; q = inside.vector.q.items; capacities = inside.capacities.items } in
    let many : IfSome (slice_get a.graph.channels c.args.channel) (λ d. HasAsMany d c.args.tokens.items) =
    subst (λ (b : Accepted). IfSome (slice_get b.graph.channels c.args.channel) (λ d. HasAsMany d c.args.tokens.items)) (sym c.self.view_is)
    c.requires.as_many in
    subst (λ (g : Graph). IsAccepted (record { graph = g; r = inside.vector.r.items; q = inside.vector.q.items; capacities = inside.capacities.items }))
    (sym c.begin_with.ensures) (beginning_accepted a c.args.channel c.args.tokens.items c.self.invariant many)

pub returns-clause-accepted : goal.returns-clause-accepted
returns-clause-accepted c =
    let inside = c.self.inside in
    let a : Accepted = record { graph = inside.graph; r = inside.vector.r.items; q = inside.vector.q.items; capacities = inside.capacities.items } in
    let many : IfSome (slice_get a.graph.channels c.args.channel) (λ d. HasAsMany d c.args.tokens.items) =
    subst (λ (b : Accepted). IfSome (slice_get b.graph.channels c.args.channel) (λ d. HasAsMany d c.args.tokens.items)) (sym c.self.view_is)
    c.requires.as_many in
    subst (λ (g : Graph). IsAccepted (record { graph = g; r = inside.vector.r.items; q = inside.vector.q.items; capacities = inside.capacities.items }))
    (sym c.begin_with.ensures) (beginning_accepted a c.args.channel c.args.tokens.items c.self.invariant many)
