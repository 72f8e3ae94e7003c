use Rattle.std.proofs.Common.{inl, inr, subst, sym}
use Rattle.csdf_analysis.specs.Waking.{IsIn}
use Rattle.csdf_crew.specs.Looking.{CanBegin}
use Rattle.csdf_crew.proofs.ready_set.able_among.Goals as goal

pub with_able-able-requires : goal.with_able-able-requires
with_able-able-requires c = c.in-Some.ensures.few

pub loop-actor-preserved : goal.loop-actor-preserved
loop-actor-preserved c = record {
  able = λ a looked can. elim (c.loop-actor.invariant.able a looked can) [
    | inl left ↦ elim (c.without_actor-left.ensures.others a left) [
      | inl this ↦ inr (subst (IsIn c.with_able-able.result) (sym this)
          (c.with_able-able.ensures.able (subst (CanBegin c.args.core.now) this can)))
      | inr kept ↦ inl kept
    ]
    | inr able ↦ inr (c.with_able-able.ensures.kept a able)
  ];
  only = λ a able. elim (c.with_able-able.ensures.only a able) [
    | inl before ↦ c.loop-actor.invariant.only a before
    | inr can ↦ can
  ];
}
