use Rattle.csdf_explain.proofs.WayLemmas.{ends_within, unbalanced_told}
use Rattle.csdf_explain.proofs.explained.tell_unbalanced.Goals as goal

pub joining-requires-clause-within : goal.joining-requires-clause-within
joining-requires-clause-within c =
    ends_within c.args.graph.now c.actors-actors.result.now c.channels-channels.result.now c.actors-actors.ensures.value c.channels-channels.ensures.value
    c.channels-channels.ensures.well_formed

pub returns-clause-told : goal.returns-clause-told
returns-clause-told c =
    unbalanced_told c.args.graph.now c.args.number _ _ c.in_ok-way.way.items _ _ (c.in_ok-text.ensures {u = tt}) (c.in_ok-way.ensures {u = tt})
    c.deref.ensures.value c.channels-channels.ensures.value (c.in_ok-push_circle_of.ensures {u = tt})
