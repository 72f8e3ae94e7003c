use Rattle.std.proofs.Common.{◌≡◌, ◌≤◌, ◌<◌, ◌+◌, ◌*◌, ℕ, List, [], length, get_or, take, ap, subst, sym, ◌∙◌, refl, arith}
use Rattle.std.specs.Prelude.{IfSome}
use Rattle.std.proofs.lemmas.List.{take-map, take_all, length-map}
use Rattle.csdf_pool.specs.Pool.{Held}
use Rattle.csdf_core.specs.Blocks.{from_front}
use Rattle.csdf_core.specs.Feedback.{GoesOn, IsFeedback, others_of}
use Rattle.csdf_core.specs.Inside.{now_in}
use Rattle.csdf_core.specs.Plan.{Plan}
use Rattle.csdf_core.specs.Ports.{tokens_at, tokens_in}
use Rattle.csdf_core.specs.State.{Present}
use Rattle.csdf_core.specs.Step.{count}
use Rattle.csdf_core.proofs.BlockMachines.{machine}
use Rattle.csdf_core.proofs.FeedbackReads.{others_enough, read_with}
use Rattle.csdf_core.proofs.FeedbackTokens.{state_takes}
use Rattle.csdf_core.proofs.PortLemmas.{tokens_at-map}
use Rattle.csdf_core.proofs.firing_core.Core.peek_on.Goals as goal
use Rattle.csdf_core.proofs.firing_core.Core.peek_on.Goals.{After-gives_few}

-- what is known at the beginning
module _ (c : After-gives_few) where
  abbrev plan : Plan
  plan = c.self.inside.plan

  abbrev p : Present
  p = now_in c.self.inside

  abbrev a : ℕ
  a = c.args.actor

  abbrev k : ℕ
  k = count p a

  told : IsFeedback plan a c.args.feedback
  told = rw (← c.self.view_is) at c.requires.feedback

  finds : GoesOn plan p a c.args.feedback.channel k c.args.n
  finds = rw (← c.self.view_is) at c.requires.can

  -- the slice is as long as the state
  whole : length c.args.state.now ≡ length (tokens_at (tokens_in c.self.inside.pool) c.args.feedback.channel)
  whole = c.requires.state ∙ told.taken ∙ state_takes plan a c.args.feedback.channel told.keeps 0 k ∙ sym finds.state

  chain_long : length (tokens_at (tokens_in c.self.inside.pool) c.args.feedback.channel) ≡ length (get_or c.self.inside.pool.chains c.args.feedback.channel [])
  chain_long =
      ap length (tokens_at-map c.self.inside.pool.chains c.args.feedback.channel)
      ∙ length-map (get_or c.self.inside.pool.chains c.args.feedback.channel []) (λ (held : Held). held.1)

pub copy_front-requires-clause-enough : goal.copy_front-requires-clause-enough
copy_front-requires-clause-enough c =
    let at : After-gives_few = (goal.at.copy_front-requires-clause-enough c).After-gives_few in
    omega (arith, whole at, chain_long at)

pub copy_other-requires-clause-enough : goal.copy_other-requires-clause-enough
copy_other-requires-clause-enough c =
    let at : After-gives_few = (goal.at.copy_other-requires-clause-enough c).After-gives_few in
    subst (λ (x : ℕ). IfSome c.args.feedback.other (λ d. (d < length c.self.inside.pool.chains) × (x ≤ length (tokens_at (tokens_in c.self.inside.pool) d))))
    (sym c.requires.others)
    (subst (λ (x : ℕ). IfSome c.args.feedback.other (λ d. (d < x)
    × (c.args.n * c.args.feedback.each ≤ length (tokens_at (tokens_in c.self.inside.pool) d)))) (sym c.self.invariant.sound.chained)
    (others_enough (plan at) (a at) c.args.feedback (told at) (tokens_in c.self.inside.pool) (k at) c.args.n (finds at).tokens))

pub returns : goal.returns
returns c =
    let at : After-gives_few = (goal.at.returns c).After-gives_few in
    let own : ℕ = c.args.feedback.channel in
    let chain : List Held = get_or c.self.inside.pool.chains own [] in
    let state_is : c.copy_front.new.tokens ≡ tokens_at (tokens_in c.self.inside.pool) own = c.copy_front.ensures
    ∙ sym (take-map (λ (held : Held). held.1) (length c.args.state.now) chain)
    ∙ ap (take (length c.args.state.now)) (sym (tokens_at-map c.self.inside.pool.chains own))
    ∙ take_all (length c.args.state.now) (tokens_at (tokens_in c.self.inside.pool) own) (omega (arith, whole at)) in
    let others_are : c.copy_other.new.into ≡ from_front (others_of c.args.feedback.other) (c.args.n * c.args.feedback.each) (tokens_in c.self.inside.pool) =
    c.copy_other.ensures
    ∙ ap (λ (x : ℕ). from_front (others_of c.args.feedback.other) x (tokens_in c.self.inside.pool)) c.requires.others in
    record {
      read = rw (← c.self.view_is) (λ v len. read_with (plan at) (a at) c.args.feedback (told at) c.args.n v (machine c.self.inside)
          (record { sound = c.self.invariant.sound; chains = refl }) (finds at) len (λ i lt. c.gives_few.ensures (a at) (k at + i)) _ _ state_is others_are);
    }
