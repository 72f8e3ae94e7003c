use Rattle.std.proofs.lemmas.Grind.{common_steps}
use Rattle.std.proofs.lemmas.List.{take_all}
use Rattle.std.proofs.Common.{rules, ◌≡◌, ◌≤◌, ◌+◌, ◌-◌, length, set, None, sym, ◌∙◌, ap, subst, refl, arith, ℕ}
use Rattle.csdf_core.specs.declared.stage.Stage.TheVariants.{Fetched}
use Rattle.csdf_core.specs.Plan.{Plan}
use Rattle.csdf_core.specs.State.{Present}
use Rattle.csdf_core.specs.Ports.{tokens_in}
use Rattle.csdf_core.specs.Moves.{Read}
use Rattle.csdf_core.specs.Rows.{need, gift, left}
use Rattle.csdf_core.specs.Shows.{raised, AreSharedOut}
use Rattle.csdf_core.specs.Sound.{IsSound}
use Rattle.csdf_core.specs.Step.{refusal, count}
use Rattle.csdf_core.specs.Inside.{now_in}
use Rattle.csdf_core.proofs.Follows.{follows_accepted}
use Rattle.csdf_core.proofs.Moving.{enough_here, left_here, answered_here, kept_to_read}
use Rattle.csdf_core.specs.Next.{fetched}
use Rattle.csdf_core.proofs.SoundLemmas.{sound_fetched}
use Rattle.csdf_core.proofs.Peaceful.{peaks_stay}
use Rattle.csdf_core.proofs.firing_core.Core.read_tested.Goals as goal
use Rattle.csdf_core.proofs.firing_core.Core.read_tested.Goals.{After-saturating_sub}

pub take_inputs-requires-clause-enough : goal.take_inputs-requires-clause-enough
take_inputs-requires-clause-enough c =
    let p : Present = now_in c.self.inside in
    let plan : Plan = c.self.inside.plan in
    let a : ℕ = c.args.actor in
    let none : refusal plan p (Read a) ≡ None = rw (← c.self.view_is) at c.requires.accepted in
    let k : c.turn-turn.result.firing ≡ count p a = rw (← c.self.view_is) at c.turn-turn.ensures.firing in
    enough_here plan p a c.turn-turn.result.firing c.self.invariant.sound.fit none k

-- what is known once the tokens are taken
module _ (c : After-saturating_sub) where
  abbrev p : Present
  p = now_in c.self.inside

  abbrev plan : Plan
  plan = c.self.inside.plan

  abbrev a : ℕ
  a = c.args.actor

  none : refusal plan p (Read a) ≡ None
  none = rw (← c.self.view_is) at c.requires.accepted

  firing : c.turn-turn.result.firing ≡ count p a
  firing = rw (← c.self.view_is) at c.turn-turn.ensures.firing

  gone : tokens_in c.take_inputs.new.pool ≡ left a (count p a) plan.channels p.tokens
  gone = left_here plan p a c.turn-turn.result.firing (tokens_in c.take_inputs.new.pool) c.self.invariant.sound.fit firing c.take_inputs.ensures.left

  cells : AreSharedOut plan c.take_inputs.new.pool
  cells = record { size = c.take_inputs.ensures.size ∙ c.self.invariant.sound.cells.size; partition = c.take_inputs.ensures.partition }

  gives : c.gives-gift.result ≡ gift a (count p a) plan.channels
  gives = rw (← c.self.view_is) at c.gives-gift.ensures.sum

  more : c.saturating_sub.result ≡ gift a (count p a) plan.channels - need a (count p a) plan.channels
  more =
      let needs : c.need-need.result ≡ need a (count p a) plan.channels = rw (← c.self.view_is) at c.need-need.ensures.value in
      c.saturating_sub.ensures ∙ ap (λ n. n - c.need-need.result) gives ∙ ap (λ n. gift a (count p a) plan.channels - n) needs

  within : c.saturating_sub.result ≤ c.self.inside.reserved
  within = kept_to_read plan p a c.self.inside.reserved c.saturating_sub.result c.self.invariant.sound.fit none c.self.invariant.sound.keeps more

  abbrev kept : ℕ
  kept = c.self.inside.reserved - c.saturating_sub.result + c.gives-gift.result

  sound : IsSound plan (fetched plan p a) c.self.inside.peaks.items c.self.inside.sums.items c.self.inside.started kept c.take_inputs.new.pool
  sound =
      let enough : kept + (gift a (count p a) plan.channels - need a (count p a) plan.channels) ≡ c.self.inside.reserved + gift a (count p a) plan.channels =
      omega (arith, within, more, gives) in
      sound_fetched plan p c.self.inside.peaks.items c.self.inside.sums.items c.self.inside.started c.self.inside.reserved c.self.inside.pool a kept
      c.take_inputs.new.pool c.self.invariant.sound none enough c.take_inputs.ensures.same cells

pub overflow_sub-self : goal.overflow_sub-self
overflow_sub-self c = within (goal.at.overflow_sub-self c).After-saturating_sub

pub invariant_of-self : goal.invariant_of-self
invariant_of-self c =
    let at : After-saturating_sub = (goal.at.invariant_of-self c).After-saturating_sub in
    record {
      phases = c.self.invariant.phases;
      sound = subst (λ ts. IsSound c.self.inside.plan (record
          { counts = c.self.inside.nexts.counts.items; stages = set c.self.inside.stages.items c.args.actor Fetched; opens = c.self.inside.opens.items; tokens = ts })
          c.self.inside.peaks.items c.self.inside.sums.items c.self.inside.started (c.self.inside.reserved - c.saturating_sub.result + c.gives-gift.result)
          c.take_inputs.new.pool) (sym (gone at)) (sound at);
    }

pub returns-clause-step : goal.returns-clause-step
returns-clause-step c =
    let at : After-saturating_sub = (goal.at.returns-clause-step c).After-saturating_sub in
    let now : record {
      counts = c.self.inside.nexts.counts.items;
      stages = set c.self.inside.stages.items c.args.actor Fetched;
      opens = c.self.inside.opens.items;
      tokens = tokens_in c.take_inputs.new.pool;
    } ≡ fetched c.self.inside.plan (now_in c.self.inside) c.args.actor = ap
    (λ ts. record {
      counts = c.self.inside.nexts.counts.items;
      stages = set c.self.inside.stages.items c.args.actor Fetched;
      opens = c.self.inside.opens.items;
      tokens = ts;
    }) (gone at) in
    let needed : c.take_inputs.result ≡ need c.args.actor (count (now_in c.self.inside) c.args.actor) c.self.inside.plan.channels =
    c.take_inputs.ensures.count ∙ ap (λ n. need c.args.actor n c.self.inside.plan.channels) (firing at) in
    let whole : length c.args.into.now ≡ need c.args.actor (count (now_in c.self.inside) c.args.actor) c.self.inside.plan.channels =
    rw (← c.self.view_is) at c.requires.whole in
    let all : length c.take_inputs.new.into ≤ c.take_inputs.result = omega (arith, c.take_inputs.auto.into, whole, needed) in
    let answered = sym (take_all c.take_inputs.result c.take_inputs.new.into all)
    ∙ answered_here c.self.inside.plan (now_in c.self.inside) c.args.actor c.turn-turn.result.firing c.take_inputs.result
    c.take_inputs.new.into c.args.into.now c.self.invariant.sound.fit (none at) (firing at) c.take_inputs.ensures.count c.take_inputs.ensures.answer in
    let peaks : c.self.inside.peaks.items ≡ raised c.self.inside.peaks.items (tokens_in c.take_inputs.new.pool) =
    sym (ap (raised c.self.inside.peaks.items) (gone at) ∙ peaks_stay _ _ _ _ _ _ _ (sound at)) in
    rw (← c.self.view_is) (follows_accepted _ _ (Read c.args.actor) _ refl (none at) answered now c.self.invariant.sound.fit refl (cells at) peaks)

pub returns-clause-cells : goal.returns-clause-cells
returns-clause-cells c = search rules

pub index_mut-requires : goal.index_mut-requires
index_mut-requires c = grind (arith, common_steps)

pub take_inputs-requires-clause-in_phase : goal.take_inputs-requires-clause-in_phase
take_inputs-requires-clause-in_phase c = grind (arith, common_steps)

pub take_inputs-requires-clause-actor : goal.take_inputs-requires-clause-actor
take_inputs-requires-clause-actor c = grind (arith, common_steps)

pub take_inputs-requires-clause-room : goal.take_inputs-requires-clause-room
take_inputs-requires-clause-room c = grind (arith, common_steps)

pub take_inputs-requires-clause-partition : goal.take_inputs-requires-clause-partition
take_inputs-requires-clause-partition c = grind (arith, common_steps)

pub turn-turn-requires : goal.turn-turn-requires
turn-turn-requires c = grind (arith, common_steps)

pub take_inputs-requires-clause-same : goal.take_inputs-requires-clause-same
take_inputs-requires-clause-same c = grind (arith, common_steps)
