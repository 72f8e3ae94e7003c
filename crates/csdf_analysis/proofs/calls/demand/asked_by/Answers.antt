use Rattle.std.proofs.Common.{◌≡◌, ◌*◌, map, ◌∙◌, arith}
use Rattle.csdf_model.specs.Graph.{actor_view, channel_view}
use Rattle.csdf_analysis.specs.Repetition.{cycle_consumed, cycle_produced}
use Rattle.csdf_analysis.proofs.DemandLemmas.{asks_of}
use Rattle.csdf_analysis.proofs.calls.demand.asked_by.Goals as goal

pub returns : goal.returns
returns c =
    let actors = map actor_view c.args.actors.now in
    let channel = channel_view c.args.channel.now in
    let put : 1 * cycle_produced actors channel ≡ cycle_produced actors channel = omega arith in
    let taken : 1 * cycle_consumed actors channel ≡ cycle_consumed actors channel = omega arith in
    asks_of actors channel c.lowest_terms.result c.put_in-put.result c.taken_out-taken.result c.requires (c.put_in-put.ensures ∙ put)
    (c.taken_out-taken.ensures ∙ taken) c.lowest_terms.ensures
