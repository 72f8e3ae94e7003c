use Rattle.std.proofs.Common.{◌≡◌, ◌+◌, ◌-◌, ◌*◌, ℕ, length, ap, ◌∙◌, arith}
use Rattle.csdf_kernel.specs.Loop.{loop_values}
use Rattle.csdf_core.specs.Step.{count}
use Rattle.csdf_floor.proofs.LoopMakings.{needs_two}
use Rattle.csdf_floor.proofs.Makings.{on_ok}
use Rattle.csdf_floor.proofs.looping.own_values.Goals as goal
use Rattle.csdf_floor.proofs.looping.own_values.Goals.{After-peek_on}

-- what is known of the lengths
module _ (c : After-peek_on) where
  needed : c.need-need.result ≡ c.args.feedback.taken + c.args.feedback.each
  needed = c.need-need.ensures.value ∙ needs_two c.args.core.now.plan c.args.actor c.args.feedback c.requires.feedback (count c.args.core.now.now c.args.actor)

  pub state_long : length c.peek_on.new.state ≡ c.args.feedback.taken
  state_long = c.peek_on.auto.state ∙ c.split_at_mut-state.ensures.front_len

  window_long : length c.split_at_mut-window.result.0.now ≡ c.need-need.result
  window_long = c.split_at_mut-window.ensures.front_len

  pub fresh : length c.split_at_mut-window.result.0.now - length c.peek_on.new.state ≡ c.args.feedback.each
  fresh = omega (arith, needed, state_long, window_long)

  pub others_long : length c.peek_on.new.others ≡ c.args.n * c.args.feedback.each
  others_long =
      let buffer = c.requires.buffer in
      let o = c.peek_on.auto.others in
      let b = c.split_at_mut-window.ensures.back_len in
      let r = c.split_at_mut-state.ensures.back_len in
      let v = c.need-need.ensures.value in
      omega (arith, buffer, o, b, r, v)

pub eval_loop-requires-clause-window : goal.eval_loop-requires-clause-window
eval_loop-requires-clause-window c =
    let at : After-peek_on = (goal.at.eval_loop-requires-clause-window c).After-peek_on in
    omega (arith, needed at, state_long at, window_long at)

pub eval_loop-requires-clause-whole : goal.eval_loop-requires-clause-whole
eval_loop-requires-clause-whole c =
    let at : After-peek_on = (goal.at.eval_loop-requires-clause-whole c).After-peek_on in
    let all = ap (λ (x : ℕ). c.args.n * x) (fresh at) in
    omega (arith, all, others_long at)

pub eval_loop-requires-clause-part : goal.eval_loop-requires-clause-part
eval_loop-requires-clause-part c =
    let at : After-peek_on = (goal.at.eval_loop-requires-clause-part c).After-peek_on in
    let part = c.requires.part in
    omega (arith, part, state_long at)

pub returns : goal.returns
returns c =
    let at : After-peek_on = (goal.at.returns c).After-peek_on in
    record {
      values = on_ok c.eval_loop.result _ _ (λ e. record {
        state = c.peek_on.new.state;
        others = c.peek_on.new.others;
        state_long = state_long at;
        others_long = others_long at;
        read = c.peek_on.ensures.read;
        values = e ∙ ap (λ (m : ℕ). loop_values c.args.kernel.now c.args.counts.now c.args.feedback.is_first m c.args.feedback.before c.args.n
            c.peek_on.new.state c.peek_on.new.others) (fresh at);
      }) c.eval_loop.ensures.values;
    }

pub eval_loop-requires-clause-small_counts : goal.eval_loop-requires-clause-small_counts
eval_loop-requires-clause-small_counts c = c.requires.small_counts

pub eval_loop-requires-clause-few_counts : goal.eval_loop-requires-clause-few_counts
eval_loop-requires-clause-few_counts c = c.requires.few_counts

pub eval_loop-requires-clause-filter_in_range : goal.eval_loop-requires-clause-filter_in_range
eval_loop-requires-clause-filter_in_range c = c.requires.filter_in_range

pub peek_on-requires-clause-feedback : goal.peek_on-requires-clause-feedback
peek_on-requires-clause-feedback c = c.requires.feedback

pub peek_on-requires-clause-can : goal.peek_on-requires-clause-can
peek_on-requires-clause-can c = c.requires.can

pub peek_on-requires-clause-state : goal.peek_on-requires-clause-state
peek_on-requires-clause-state c = c.split_at_mut-state.ensures.front_len

pub peek_on-requires-clause-others : goal.peek_on-requires-clause-others
peek_on-requires-clause-others c =
    let buffer = c.requires.buffer in
    let b = c.split_at_mut-window.ensures.back_len in
    let r = c.split_at_mut-state.ensures.back_len in
    let v = c.need-need.ensures.value in
    omega (arith, buffer, b, r, v)
