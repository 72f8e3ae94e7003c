use Rattle.std.proofs.Common.{◌≡◌, ◌++◌, ℕ, List, [], get_or, ap, sym, ◌∙◌}
use Rattle.std.specs.Prelude.{ℤ}
use Rattle.csdf_core.specs.Blocks.{gifts_of}
use Rattle.csdf_core.specs.Plan.{Plan}
use Rattle.csdf_core.specs.Step.{count}
use Rattle.csdf_floor.specs.Journal.{Program}
use Rattle.csdf_floor.specs.Making.{made_value, phase_values}
use Rattle.csdf_floor.specs.Work.{feeds_in, program}
use Rattle.csdf_floor.proofs.Makings.{on_ok}
use Rattle.csdf_floor.proofs.PhaseValues.{none_written}
use Rattle.csdf_floor.proofs.book.Book.phased_values_into.Goals as goal
use Rattle.csdf_floor.proofs.book.Book.phased_values_into.Goals.{After-clear}

module _ (c : After-clear) where
  abbrev p : Program
  p = program c.self.inside.work

  abbrev k : ℕ
  k = count c.self.inside.core.now c.args.actor

  abbrev n : ℕ
  n = c.args.block.firings

  abbrev tokens : List ℤ
  tokens = get_or (feeds_in c.self.inside.reads.items) c.args.actor []

  written : c.args.block.given ≡ gifts_of p.plan.channels c.args.actor k n
  written =
      let here : c.args.block.given ≡ gifts_of c.self.inside.core.plan.channels c.args.actor k n = rw (← c.self.view_is) at c.requires.given in
      here ∙ ap (λ (u : Plan). gifts_of u.channels c.args.actor k n) c.self.invariant.kept.plan

pub returns-then-written-eq0 : goal.returns-then-written-eq0
returns-then-written-eq0 c =
    let at : After-clear = (goal.at.returns-then-written-eq0 c).After-clear in
    rw (← c.self.view_is) (c.clear.ensures.items
    ∙ none_written (p at) c.args.actor (k at) (n at) (tokens at) (sym (written at) ∙ c.if-written-eq0.true))

pub push_phases-requires-clause-few : goal.push_phases-requires-clause-few
push_phases-requires-clause-few c = rw (← c.self.view_is) at c.block_inputs-tokens.ensures.few

pub returns : goal.returns
returns c =
    let at : After-clear = (goal.at.returns c).After-clear in
    let xs : List ℤ = c.block_inputs-tokens.result.now in
    let values : phase_values (p at) c.args.actor (k at) (n at) xs ≡ made_value (p at) c.args.actor (k at) (n at) (tokens at) =
    rw (← c.self.view_is) at c.block_inputs-tokens.ensures.values in
    let whole : c.reserve.new.self.items ++ phase_values (p at) c.args.actor (k at) (n at) xs
    ≡ made_value (p at) c.args.actor (k at) (n at) (tokens at) =
    ap (λ (ys : List ℤ). ys ++ phase_values (p at) c.args.actor (k at) (n at) xs) (c.in_ok-reserve.ensures.items ∙ c.clear.ensures.items) ∙ values in
    rw (← c.self.view_is) (on_ok c.push_phases.result _ _ (λ e. e ∙ whole) c.push_phases.ensures)
