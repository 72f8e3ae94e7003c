use Rattle.std.proofs.Common.{◌≡◌, ◌++◌, [], ap, drop, map, refl, sym, ◌∙◌}
use Rattle.std.proofs.lemmas.List.{append-nil, drop_all}
use Rattle.csdf_model.specs.Graph.{actor_view}
use Rattle.csdf_flows.specs.Flows.{flow_file_view, sinks_at}
use Rattle.csdf_flows.proofs.flow_files.sink_files.Goals as goal

pub loop-actor-init : goal.loop-actor-init
loop-actor-init c = rw c.new-files.ensures.items refl

pub returns : goal.returns
returns c =
    let front = map flow_file_view c.loop-actor.files.items in
    let rest = sinks_at c.args.folder.now (map actor_view (drop c.loop-actor.actor-index c.args.actors.now)) in
    let none : rest ≡ [] =
    ap (λ actors. sinks_at c.args.folder.now (map actor_view actors)) (drop_all c.loop-actor.actor-index c.args.actors.now c.loop-actor-test.false) in
    sym (ap (λ files. front ++ files) none ∙ append-nil front) ∙ c.loop-actor.invariant
