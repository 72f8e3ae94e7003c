use Rattle.std.proofs.Common.{ap, length, map, ◌∙◌}
use Rattle.csdf_model.specs.Graph.{Graph, actor_view}
use Rattle.csdf_answers.proofs.ToldLemmas.{if_err_fault}
use Rattle.csdf_words.specs.CommandLine.{folders_view, stream_view}
use Rattle.csdf_flows.specs.Flows.{flow_file_view, sinks_at, sources_at}
use Rattle.csdf_flows.proofs.StreamLemmas.{flowed, not_flowed, not_made, sinks_open, sources_open}
use Rattle.csdf_flows.proofs.stream.flow_files.Goals as goal

pub returns-in_err-sinks-clause-stopped : goal.returns-in_err-sinks-clause-stopped
returns-in_err-sinks-clause-stopped g c =
    let fault = c.in_err-sinks.field-0.0 in
    if_err_fault _ fault _ c.from_residual-in_err-sinks.ensures.1
    (not_made (stream_view c.args.order) (folders_view c.args.folders) c.args.accepted _ _ _ (map actor_view c.actors-actors.result.now)
    (c.actors-actors.ensures.value ∙ ap (λ (x : Graph). x.actors) c.graph.ensures.graph) c.in_ok-keep_sinks_apart.ensures.apart
    (map flow_file_view c.deref.result.now) (map flow_file_view c.deref-2.result.now) (ap (map flow_file_view) c.deref.ensures.value ∙ c.in_ok-files_in.ensures)
    (ap (map flow_file_view) c.deref-2.ensures.value ∙ c.in_ok-files_out.ensures) c.in_ok-sources.ensures.opened _ fault c.in_err-sinks.ensures.unmade)

pub flow_made-requires-clause-sources : goal.flow_made-requires-clause-sources
flow_made-requires-clause-sources g c = λ κs within.
    sources_open c.args.folders.sources.now c.args.accepted.graph c.deref.result.now c.deref_mut.result.now
    (ap length c.deref_mut.ensures.value ∙ c.in_ok-sources.ensures.many)
    (ap (map flow_file_view) c.deref.ensures.value ∙ c.in_ok-files_in.ensures
    ∙ ap (sources_at c.args.folders.sources.now) (c.actors-actors.ensures.value ∙ ap (λ (x : Graph). x.actors) c.graph.ensures.graph))

pub flow_made-requires-clause-sinks : goal.flow_made-requires-clause-sinks
flow_made-requires-clause-sinks g c = λ κs within.
    sinks_open c.args.folders.sinks.now c.args.accepted.graph c.deref-2.result.now c.deref_mut-2.result.now
    (ap length c.deref_mut-2.ensures.value ∙ c.in_ok-sinks.ensures.many)
    (ap (map flow_file_view) c.deref-2.ensures.value ∙ c.in_ok-files_out.ensures
    ∙ ap (sinks_at c.args.folders.sinks.now) (c.actors-actors.ensures.value ∙ ap (λ (x : Graph). x.actors) c.graph.ensures.graph))

pub returns-clause-flows : goal.returns-clause-flows
returns-clause-flows g c =
    flowed (stream_view c.args.order) (folders_view c.args.folders) c.args.accepted _ _ _ (map actor_view c.actors-actors.result.now)
    (c.actors-actors.ensures.value ∙ ap (λ (x : Graph). x.actors) c.graph.ensures.graph) c.in_ok-keep_sinks_apart.ensures.apart
    (map flow_file_view c.deref.result.now) (map flow_file_view c.deref-2.result.now) (ap (map flow_file_view) c.deref.ensures.value ∙ c.in_ok-files_in.ensures)
    (ap (map flow_file_view) c.deref-2.ensures.value ∙ c.in_ok-files_out.ensures) c.in_ok-sources.ensures.opened _ _ c.in_ok-sinks.ensures.made
    (map flow_file_view c.deref-3.result.now) (ap (map flow_file_view) c.deref-3.ensures.value ∙ c.in_ok-files_out.ensures) c.flow_made.result c.flow_made.ensures.flows

pub returns-clause-stopped : goal.returns-clause-stopped
returns-clause-stopped g c =
    not_flowed (stream_view c.args.order) (folders_view c.args.folders) c.args.accepted _ _ _ (map actor_view c.actors-actors.result.now)
    (c.actors-actors.ensures.value ∙ ap (λ (x : Graph). x.actors) c.graph.ensures.graph) c.in_ok-keep_sinks_apart.ensures.apart
    (map flow_file_view c.deref.result.now) (map flow_file_view c.deref-2.result.now) (ap (map flow_file_view) c.deref.ensures.value ∙ c.in_ok-files_in.ensures)
    (ap (map flow_file_view) c.deref-2.ensures.value ∙ c.in_ok-files_out.ensures) c.in_ok-sources.ensures.opened _ _ c.in_ok-sinks.ensures.made
    (map flow_file_view c.deref-3.result.now) (ap (map flow_file_view) c.deref-3.ensures.value ∙ c.in_ok-files_out.ensures) c.flow_made.result c.flow_made.ensures.stopped
