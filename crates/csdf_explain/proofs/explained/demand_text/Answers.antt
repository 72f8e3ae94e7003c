use Rattle.std.proofs.lemmas.Result.{IfOk-weaker}
use Rattle.csdf_explain.proofs.ExplainLemmas.{unbalanced_told}
use Rattle.csdf_explain.proofs.explained.demand_text.Goals as goal

pub returns : goal.returns
returns c =
    IfOk-weaker c.unbalanced_text.result _ _ (λ text told. unbalanced_told c.args.graph.now c.channels-channels.result.now c.args.number
    c.index-channels-number.result c.args.demand _ _ _ _ c.requires.within c.index-channels-number.is c.channels-channels.ensures.value c.requires.demand
    c.channel_of.ensures c.actor_of-from.ensures c.actor_of-to.ensures told)
    c.unbalanced_text.ensures
