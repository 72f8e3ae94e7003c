use Rattle.std.proofs.Common.{◌≡◌, ◌-◌, ℕ, List, length, take, drop, ap, ap₂, subst, ◌∙◌}
use Rattle.std.specs.Prelude.{ℤ}
use Rattle.std.proofs.Math.Seq.{drop-append_seam}
use Rattle.std.proofs.lemmas.List.{take_rest}
use Rattle.csdf_kernel.specs.Value.{value_of}
use Rattle.csdf_kernel.proofs.ValueLemmas.{length_of_value}
use Rattle.csdf_core.specs.Own.{AreOwn, own_passed}
use Rattle.csdf_floor.proofs.Makings.{on_ok}
use Rattle.csdf_floor.proofs.successive.push_next.Goals as goal
use Rattle.csdf_floor.proofs.successive.push_next.Goals.{After-as_slice}

-- what was pushed
module _ (c : After-as_slice) where
  abbrev pub x : List ℤ
  x = value_of c.args.kernel.now c.args.counts.now c.lay_own.new.part

  pub pushed : take (length c.as_slice.result.now - c.len-before.result) (drop c.len-before.result c.as_slice.result.now) ≡ x
  pushed =
      take_rest c.as_slice.result.now c.len-before.result
      ∙ ap₂ (λ (j : ℕ) (u : List ℤ). drop j u) c.len-before.ensures.value (c.as_slice.ensures ∙ c.push_value.ensures.items)
      ∙ drop-append_seam c.args.outputs.now.items x

pub pass_own-requires-clause-all : goal.pass_own-requires-clause-all
pass_own-requires-clause-all c =
    let at : After-as_slice = (goal.at.pass_own-requires-clause-all c).After-as_slice in
    ap length (pushed at) ∙ length_of_value c.args.kernel.now c.args.counts.now c.lay_own.new.part ∙ c.requires.all_counts

pub returns-clause-own : goal.returns-clause-own
returns-clause-own c =
    let at : After-as_slice = (goal.at.returns-clause-own c).After-as_slice in
    on_ok c.pass_own.result _ _
    (λ e tokens own. subst (λ (u : List ℤ). AreOwn c.args.core.now.plan.channels c.args.actor
    (own_passed c.args.core.now.plan.channels c.args.actor c.args.turn.firing u tokens) c.pass_own.new.own.queues) (pushed at) (e tokens own)) c.pass_own.ensures.passed
