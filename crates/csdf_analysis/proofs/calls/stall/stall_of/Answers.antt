use Rattle.std.proofs.lemmas.Grind.{common_steps}
use Rattle.std.proofs.Common.{arith, ◌∙◌, subst, sym}
use Rattle.csdf_analysis.specs.Stalling.{IsStall, bounds_for}
use Rattle.csdf_analysis.proofs.StallLemmas.{stall_is}
use Rattle.csdf_analysis.proofs.calls.stall.stall_of.Goals as goal

pub returns : goal.returns
returns c =
    subst (IsStall c.args.graph.now.channels c.args.vector.now.q.items (bounds_for c.args.bounds c.args.vector.now.q.items c.args.graph.now.channels))
    (sym c.into_stall.ensures)
    (stall_is _ _ _ _ _ _ _ c.in_ok-net.ensures.channels c.in_ok-net.ensures.firings (c.go_on.ensures.bounds ∙ c.in_ok-run.ensures.bounds
    ∙ c.in_ok-bounds.ensures) c.go_on.ensures.run.at c.go_on.ensures.stalled c.in_ok-waits.ensures)

pub new-requires : goal.new-requires
new-requires c = grind (arith, common_steps)

pub go_on-requires-clause-run : goal.go_on-requires-clause-run
go_on-requires-clause-run c = c.in_ok-run.ensures.run

pub waits_of-requires-clause-stalled : goal.waits_of-requires-clause-stalled
waits_of-requires-clause-stalled c = c.go_on.ensures.stalled

pub waits_of-requires-clause-run : goal.waits_of-requires-clause-run
waits_of-requires-clause-run c = c.go_on.ensures.run

pub go_on-requires-clause-waiting : goal.go_on-requires-clause-waiting
go_on-requires-clause-waiting c = record {
  actors = λ a is. (let lt = c.all-waiting.ensures.actors a is in omega (arith, lt, c.actors.ensures.count));
  able = λ b go. c.all-waiting.ensures.all b (omega (arith, go.able.exists, c.in_ok-run.ensures.run.at.each_actor, c.actors.ensures.count));
}
