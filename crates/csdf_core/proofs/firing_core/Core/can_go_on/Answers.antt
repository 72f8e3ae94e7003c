use Rattle.std.proofs.lemmas.Grind.{common_steps}
use Rattle.std.proofs.Common.{◌≡◌, ◌-◌, ◌*◌, ℕ, [], length, get_or, ap, ap₂, subst, sym, ◌∙◌, refl, arith, Option, Some, None, false}
use Rattle.std.specs.Prelude.{is_some}
use Rattle.csdf_core.specs.Blocks.{HoldAll}
use Rattle.csdf_core.specs.Feedback.{HaveRoomFor}
use Rattle.csdf_core.specs.Feedback.{IsFeedback, asks_at, fills_at}
use Rattle.csdf_core.specs.Inside.{now_in}
use Rattle.csdf_core.specs.Plan.{Plan}
use Rattle.csdf_core.specs.Ports.{inputs_at, outputs_at, take_at, tokens_at, tokens_in}
use Rattle.csdf_core.specs.Rows.{first, gift, is_closed}
use Rattle.csdf_core.specs.State.{Present}
use Rattle.csdf_core.specs.Step.{count}
use Rattle.csdf_core.proofs.FeedbackTokens.{state_takes}
use Rattle.csdf_core.proofs.Kept.{is_stage_true}
use Rattle.csdf_core.proofs.PortLemmas.{tokens_at-map}
use Rattle.csdf_pool.specs.Pool.{Held}
use Rattle.std.proofs.lemmas.List.{length-map}
use Rattle.csdf_core.proofs.firing_core.Core.can_go_on.Goals as goal
use Rattle.csdf_core.proofs.firing_core.Core.can_go_on.Goals.{After-len}

none_of : (o : Option ℕ) → is_some o ≡ false → o ≡ None
none_of None e = refl
none_of (Some x) e = absurd (cc)

-- what is known of the state
module _ (c : After-len) where
  abbrev plan : Plan
  plan = c.self.inside.plan

  abbrev p : Present
  p = now_in c.self.inside

  abbrev own : ℕ
  own = c.args.feedback.channel

  told : IsFeedback plan c.args.actor c.args.feedback
  told = rw (← c.self.view_is) at c.requires.feedback

  pub held : c.len.result ≡ length (tokens_at p.tokens own)
  held =
      c.len.ensures
      ∙ sym (ap length (tokens_at-map c.self.inside.pool.chains own) ∙ length-map (get_or c.self.inside.pool.chains own []) (λ (h : Held). h.1))

  pub taken : (k : ℕ) → c.args.feedback.taken ≡ take_at plan.channels k own
  taken k = told.taken ∙ state_takes plan c.args.actor own told.keeps 0 k

pub returns-then-len-feedback : goal.returns-then-len-feedback
returns-then-len-feedback c =
    let at : After-len = (goal.at.returns-then-len-feedback c).After-len in
    let k : ℕ = count (p at) c.args.actor in
    rw (← c.self.view_is) (
      λ e. absurd (cc),
      λ h. (let s = h.state in absurd (omega (arith, c.if-len-feedback.true, held at, taken at k, s))),
    )

pub returns : goal.returns
returns c =
    let at : After-len = (goal.at.returns c).After-len in
    let plan : Plan = c.self.inside.plan in
    let p : Present = now_in c.self.inside in
    let a : ℕ = c.args.actor in
    let n : ℕ = c.args.n in
    let own : ℕ = c.args.feedback.channel in
    let k : ℕ = count p a in
    let firing : c.turn-turn.result.firing ≡ k = rw (← c.self.view_is) at c.turn-turn.ensures.firing in
    let gives : c.gives.result ≡ gift a k plan.channels = rw (← c.self.view_is) at c.gives.ensures.sum in
    let cells = rw (← c.self.view_is) at (c.if-not-has_cells.ensures.0 refl) in
    rw (← c.self.view_is) (
      λ _. record {
        there = rw (← c.self.view_is) at c.requires.actor;
        number = refl;
        idle = rw (← c.self.view_is) at (sym c.stage.ensures ∙ is_stage_true _ _ (sym c.if-not-is_at.ensures));
        limit = omega (arith, c.if-from.false, c.from.ensures, c.from-2.ensures, c.from-3.ensures, c.limit.ensures.value, firing);
        opens = sym (ap (first (is_closed a) plan.channels) c.deref.ensures.value) ∙ sym c.first_closed.ensures
            ∙ none_of c.first_closed.result (sym c.is_some.ensures ∙ c.if-is_some.false);
        state = omega (arith, c.if-len-feedback.false, held at, taken at k);
        tokens = subst (λ x. HoldAll (tokens_in c.self.inside.pool) (asks_at plan.channels own x n) (inputs_at plan.channels a)) firing
            (c.if-not-hold_asked.ensures.0 refl);
        room = subst (λ x. HaveRoomFor plan.channels (tokens_in c.self.inside.pool) (fills_at plan.channels own x n) (outputs_at plan.channels a)) firing
            (c.if-not-have_asked.ensures.0 refl);
        firings = rw (← c.self.view_is) at (c.if-not-may_begin.ensures.0 refl);
        cells =
            let each : c.saturating_sub-beside.result ≡ gift a k plan.channels - take_at plan.channels k own =
            omega (arith, c.saturating_sub-beside.ensures, gives, c.from-4.ensures, taken at k) in
            let all = ap₂ (λ (x y : ℕ). x * y) c.from-5.ensures each in
            omega (arith, cells, all);
      },
      λ _. refl,
    )

pub returns-then-not-has_cells : goal.returns-then-not-has_cells
returns-then-not-has_cells c = grind (arith, common_steps)

pub returns-then-not-may_begin : goal.returns-then-not-may_begin
returns-then-not-may_begin c =
    let many = rw (← c.self.view_is) at c.if-not-may_begin.ensures.1 in
    rw (← c.self.view_is) (λ e. absurd (cc), λ h. many h.firings)

pub returns-then-not-have_asked : goal.returns-then-not-have_asked
returns-then-not-have_asked c =
    let plan : Plan = c.self.inside.plan in
    let own : ℕ = c.args.feedback.channel in
    let firing : c.turn-turn.result.firing ≡ count (now_in c.self.inside) c.args.actor = rw (← c.self.view_is) at c.turn-turn.ensures.firing in
    rw (← c.self.view_is) (
      λ e. absurd (cc),
      λ h. c.if-not-have_asked.ensures.1
          (subst (λ x. HaveRoomFor plan.channels (tokens_in c.self.inside.pool) (fills_at plan.channels own x c.args.n) (outputs_at plan.channels c.args.actor))
          (sym firing) h.room),
    )

pub returns-then-not-hold_asked : goal.returns-then-not-hold_asked
returns-then-not-hold_asked c =
    let plan : Plan = c.self.inside.plan in
    let own : ℕ = c.args.feedback.channel in
    let firing : c.turn-turn.result.firing ≡ count (now_in c.self.inside) c.args.actor = rw (← c.self.view_is) at c.turn-turn.ensures.firing in
    rw (← c.self.view_is) (
      λ e. absurd (cc),
      λ h. c.if-not-hold_asked.ensures.1
          (subst (λ x. HoldAll (tokens_in c.self.inside.pool) (asks_at plan.channels own x c.args.n) (inputs_at plan.channels c.args.actor)) (sym firing) h.tokens),
    )

pub have_asked-requires-clause-actor : goal.have_asked-requires-clause-actor
have_asked-requires-clause-actor c = rw (← c.self.view_is) at c.requires.actor

pub hold_asked-requires-clause-actor : goal.hold_asked-requires-clause-actor
hold_asked-requires-clause-actor c = rw (← c.self.view_is) at c.requires.actor

pub hold_asked-requires-clause-in_phase : goal.hold_asked-requires-clause-in_phase
hold_asked-requires-clause-in_phase c = rw (← c.self.view_is) at c.turn-turn.ensures.in_phase

pub returns-then-is_some : goal.returns-then-is_some
returns-then-is_some c = grind (arith, common_steps)

pub returns-then-from : goal.returns-then-from
returns-then-from c =
    let firing : c.turn-turn.result.firing ≡ count (now_in c.self.inside) c.args.actor = rw (← c.self.view_is) at c.turn-turn.ensures.firing in
    let over = c.if-from.true in
    let limit = c.limit.ensures.value in
    rw (← c.self.view_is) (
      λ e. absurd (cc),
      λ h. (let most = h.limit in absurd (omega (arith, most, over, c.from.ensures, c.from-2.ensures, c.from-3.ensures, limit, firing))),
    )

pub len-requires : goal.len-requires
len-requires c = grind (arith, common_steps)

pub have_asked-requires-clause-same : goal.have_asked-requires-clause-same
have_asked-requires-clause-same c = grind (arith, common_steps)

pub first_closed-requires-clause-actor : goal.first_closed-requires-clause-actor
first_closed-requires-clause-actor c = rw (← c.self.view_is) at c.requires.actor

pub returns-then-not-is_at : goal.returns-then-not-is_at
returns-then-not-is_at c = grind (arith, common_steps)

pub hold_asked-requires-clause-same : goal.hold_asked-requires-clause-same
hold_asked-requires-clause-same c = grind (arith, common_steps)

pub limit-requires : goal.limit-requires
limit-requires c = rw (← c.self.view_is) at c.requires.actor
