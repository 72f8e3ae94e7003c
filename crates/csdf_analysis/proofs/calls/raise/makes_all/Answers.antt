use Rattle.std.proofs.Common.{◌∙◌, arith}
use Rattle.csdf_analysis.proofs.SearchLemmas.{decided}
use Rattle.csdf_analysis.proofs.calls.raise.makes_all.Goals as goal

pub returns : goal.returns
returns c = decided _ _ _ _ _ _ _ _ c.go_on.ensures.run.at c.go_on.ensures.stalled (c.go_on.ensures.bounds ∙ c.in_ok-run.ensures.bounds
    ∙ c.in_ok-bounds.ensures) c.requires.initial c.total.ensures.total

pub go_on-requires-clause-waiting : goal.go_on-requires-clause-waiting
go_on-requires-clause-waiting c = record {
  actors = λ a is. (let lt = c.all-waiting.ensures.actors a is in omega (arith, lt, c.actors.ensures.count));
  able = λ b go. c.all-waiting.ensures.all b (omega (arith, go.able.exists, c.in_ok-run.ensures.run.at.each_actor, c.actors.ensures.count));
}
