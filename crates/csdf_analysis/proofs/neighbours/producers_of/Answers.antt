use Rattle.std.proofs.Common.{◌≡◌, ◌<◌, length, get_or, below_more, inl, inr, subst, sym, arith}
use Rattle.csdf_model.specs.Graph.{Channel, channel_view}
use Rattle.csdf_analysis.specs.Waking.{IsIn}
use Rattle.csdf_analysis.proofs.FitLemmas.{input_end}
use Rattle.csdf_analysis.proofs.WakeLemmas.{producers_all, none_in}
use Rattle.csdf_analysis.proofs.LowerLemmas.{seen_ends}
use Rattle.csdf_analysis.proofs.neighbours.producers_of.Goals as goal

pub loop-number-init : goal.loop-number-init
loop-number-init c = record {
  so_far = λ k lt d at. absurd (omega arith);
  only = λ b set. absurd (none_in b set);
  actors = λ b set. absurd (none_in b set);
}

pub with_actor-mask-requires : goal.with_actor-mask-requires
with_actor-mask-requires c =
    let numbers = c.inputs-number-items.result.now in
    let k = c.loop-number.number-index in
    let ends = seen_ends c.args.graph.now c.channels-channels.result.now (get_or numbers k 0) c.index-channels-number.result
    c.channels-channels.ensures.well_formed c.channels-channels.ensures.value (c.inputs-number-items.ensures.within k 0 c.loop-number-test.true)
    c.index-channels-number.is in
    let few = c.channels-channels.ensures.well_formed.fitting.few_actors in
    omega (arith, ends.1, few)

pub loop-number-preserved : goal.loop-number-preserved
loop-number-preserved c =
    let numbers = c.inputs-number-items.result.now in
    let k = c.loop-number.number-index in
    let ends = seen_ends c.args.graph.now c.channels-channels.result.now (get_or numbers k 0) c.index-channels-number.result
    c.channels-channels.ensures.well_formed c.channels-channels.ensures.value (c.inputs-number-items.ensures.within k 0 c.loop-number-test.true)
    c.index-channels-number.is in
    let mine = input_end c.args.graph.now.channels numbers c.args.actor k (channel_view c.index-channels-number.result) c.inputs-number-items.ensures.value
    c.loop-number-test.true ends.0 in
    record {
      so_far = below_more _ _ (λ j lt d at. c.with_actor-mask.ensures.kept d.from (c.loop-number.invariant.so_far j lt d at))
          (λ d at. (let seen = ends.0 in let same : channel_view c.index-channels-number.result ≡ d = cc in
          subst (λ (e : Channel). IsIn c.with_actor-mask.result e.from) same c.with_actor-mask.ensures.added));
      only = λ b set. elim (c.with_actor-mask.ensures.others b set) [
        | inl this ↦ (get_or numbers k 0, channel_view c.index-channels-number.result, ends.0, mine, sym this)
        | inr has ↦ c.loop-number.invariant.only b has
      ];
      actors = λ a set. elim (c.with_actor-mask.ensures.others a set) [
        | inl this ↦ subst (λ n. n < length c.args.graph.now.actors) (sym this) ends.1
        | inr has ↦ c.loop-number.invariant.actors a has
      ];
    }

pub returns-clause-all : goal.returns-clause-all
returns-clause-all c = producers_all _ c.inputs-number-items.result.now _ _ c.loop-number.number-index c.inputs-number-items.ensures.value
    c.loop-number-test.false c.loop-number.invariant.so_far
