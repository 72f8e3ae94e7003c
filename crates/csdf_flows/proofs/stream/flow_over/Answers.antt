use Rattle.std.proofs.Common.{ap, inl, inr, ◌∙◌}
use Rattle.std.proofs.lemmas.Result.{IfErr-at_err, IfOk-at_ok}
use Rattle.csdf_answers.specs.Described.{actor_names}
use Rattle.csdf_words.specs.Workers.{most_workers}
use Rattle.csdf_flows.specs.Flows.{stream_fault}
use Rattle.csdf_analysis.specs.Acceptance.{Accepted}
use Rattle.csdf_flows.proofs.StreamLemmas.{stopped_by_more, tells_as}
use Rattle.csdf_flows.proofs.stream.flow_over.Goals as goal

pub returns-in-Ok-clause-flows : goal.returns-in-Ok-clause-flows
returns-in-Ok-clause-flows g c = record {
  stream = c.in_ok-stream.field-0.stream;
  end = c.in-Ok.end;
  streamed = IfOk-at_ok _ c.in-Ok.is c.in_ok-stream.ensures.streamed;
  tells =
      tells_as c.args.order.form c.args.accepted c.in_ok-stream.field-0.stream c.in-Ok.end _ _ c.in_ok-report-in-Ok.report.items
      c.in_ok-stream.ensures.alike (c.graph-graph.ensures.graph ∙ ap (λ (a : Accepted). a.graph) c.accepted.ensures) c.totals.ensures
      c.in_ok-report-in-Ok.ensures;
}

pub returns-clause-stopped : goal.returns-clause-stopped
returns-clause-stopped g c =
    let same = c.actors.ensures.value
    ∙ ap (λ g. g.actors) (c.graph-graph.ensures.graph ∙ ap (λ (a : Accepted). a.graph) c.accepted.ensures) ∙ c.in_ok-stream.ensures.alike.actors in
    inr (record {
      stop = c.in-Err.fault;
      stopped =
          stopped_by_more c.workers_of-workers.result (most_workers c.args.order.workers) c.args.accepted _ _ c.in-Err.fault c.workers_of-workers.ensures.most
          (IfErr-at_err _ c.in-Err.is c.in_ok-stream.ensures.stopped);
      marked = IfErr-at_err _ c.in-Err.is c.in_ok-stream.ensures.marked;
      told = inl (c.in_ok-stream_fault-in-Err.ensures ∙ ap (λ actors. stream_fault c.args.medium (actor_names actors) c.in-Err.fault) same);
    })
