use Rattle.std.proofs.Common.{◌≡◌, ◌≤◌, ◌*◌, ℕ, List, [], length, get_or, ap, ap₂, subst, ◌∙◌, arith}
use Rattle.std.specs.Prelude.{ℤ}
use Rattle.csdf_model.specs.declared.parts.Kernel.{Kernel}
use Rattle.csdf_model.specs.declared.parts.Kernel.TheVariants.{Sink}
use Rattle.csdf_kernel.specs.Value.{values_of}
use Rattle.csdf_core.specs.Phases.{HasPhases}
use Rattle.csdf_core.specs.Plan.{Plan}
use Rattle.csdf_core.specs.Step.{count}
use Rattle.csdf_floor.specs.Journal.{Program, output_counts}
use Rattle.csdf_floor.specs.Making.{amount_of, amounts_of, made_value, phase_values}
use Rattle.csdf_floor.specs.Work.{feeds_in, program}
use Rattle.csdf_floor.proofs.Makings.{on_ok}
use Rattle.csdf_floor.proofs.PhaseValues.{amounts_times, values_alike}
use Rattle.csdf_floor.proofs.book.Book.values_into.Goals as goal
use Rattle.csdf_floor.proofs.book.Book.values_into.Goals.{After-block_inputs-tokens}

module _ (c : After-block_inputs-tokens) where
  abbrev p : Program
  p = program c.self.inside.work

  abbrev k : ℕ
  k = count c.self.inside.core.now c.args.actor

  abbrev n : ℕ
  n = c.args.block.firings

  has : HasPhases p.plan.channels c.args.actor 1
  has =
      let here : HasPhases c.self.inside.core.plan.channels c.args.actor 1 = rw (← c.self.view_is) at c.requires.phases in
      subst (λ (u : Plan). HasPhases u.channels c.args.actor 1) c.self.invariant.kept.plan here

pub eval_block-requires-clause-whole : goal.eval_block-requires-clause-whole
eval_block-requires-clause-whole c =
    let at : After-block_inputs-tokens = (goal.at.eval_block-requires-clause-whole c).After-block_inputs-tokens in
    let long : amounts_of (p at) c.args.actor (k at) (n at) ≤ length c.block_inputs-tokens.result.now =
    rw (← c.self.view_is) at c.block_inputs-tokens.ensures.long in
    let each : c.amount-each.result ≡ amount_of (p at) c.args.actor (k at) = rw (← c.self.view_is) at c.amount-each.ensures.value in
    let times = ap (λ (x : ℕ). n at * x) each in
    omega (arith, long, times, amounts_times (p at) c.args.actor (has at) (k at) (n at))

pub returns : goal.returns
returns c =
    let at : After-block_inputs-tokens = (goal.at.returns c).After-block_inputs-tokens in
    let xs : List ℤ = c.block_inputs-tokens.result.now in
    let tokens : List ℤ = get_or (feeds_in c.self.inside.reads.items) c.args.actor [] in
    let counts : c.as_slice.result.now ≡ output_counts (p at) c.args.actor (k at) = c.as_slice.ensures
    ∙ (rw (← c.self.view_is) at c.in_ok-counts_into.ensures.value) in
    let values : phase_values (p at) c.args.actor (k at) (n at) xs ≡ made_value (p at) c.args.actor (k at) (n at) tokens =
    rw (← c.self.view_is) at c.block_inputs-tokens.ensures.values in
    let each : c.amount-each.result ≡ amount_of (p at) c.args.actor (k at) = rw (← c.self.view_is) at c.amount-each.ensures.value in
    let whole : values_of c.kernel-kernel.result.now c.as_slice.result.now c.amount-each.result (n at) xs
    ≡ made_value (p at) c.args.actor (k at) (n at) tokens =
    ap (λ (x : Kernel). values_of x c.as_slice.result.now c.amount-each.result (n at) xs) c.kernel-kernel.ensures.value
    ∙ ap₂ (λ (ns : List ℕ) (m : ℕ). values_of (get_or (p at).kernels c.args.actor Sink) ns m (n at) xs) counts each
    ∙ values_alike (p at) c.args.actor (has at) (k at) (n at) xs
    ∙ values in
    rw (← c.self.view_is) (on_ok c.eval_block.result _ _ (λ e. e ∙ whole) c.eval_block.ensures.values)
