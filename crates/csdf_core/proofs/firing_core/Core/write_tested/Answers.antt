use Rattle.std.proofs.lemmas.Grind.{common_steps}
use Rattle.std.specs.Vec.{with_items}
use Rattle.std.proofs.lemmas.List.{with_items_is}
use Rattle.std.proofs.Common.{◌≡◌, ◌+◌, ◌-◌, length, set, None, sym, ◌∙◌, ap, subst, refl, arith, ℕ, rules}
use Rattle.csdf_core.specs.declared.stage.Stage.TheVariants.{Written}
use Rattle.csdf_core.specs.Plan.{Plan}
use Rattle.csdf_core.specs.State.{Present}
use Rattle.csdf_core.specs.Ports.{tokens_in, outputs_at, raise_over}
use Rattle.csdf_core.specs.Moves.{Write}
use Rattle.csdf_core.specs.Rows.{gift, joined, shares}
use Rattle.csdf_core.specs.Shows.{raised, AreSharedOut}
use Rattle.csdf_core.specs.Sound.{IsSound}
use Rattle.csdf_core.specs.Step.{first_of, write_table, count, held}
use Rattle.csdf_core.specs.Inside.{now_in}
use Rattle.csdf_core.proofs.CoreLemmas.{held-chains}
use Rattle.csdf_core.proofs.Follows.{follows_accepted}
use Rattle.csdf_core.proofs.Kept.{writes}
use Rattle.csdf_core.proofs.Moving.{put_here, peaks_here, kept_to_write, cells_to_write}
use Rattle.csdf_core.specs.Next.{written}
use Rattle.csdf_core.proofs.SoundLemmas.{sound_written}
use Rattle.csdf_core.proofs.firing_core.Core.write_tested.Goals as goal
use Rattle.csdf_core.proofs.firing_core.Core.write_tested.Goals.{After-raise_peaks}

pub put_outputs-requires-clause-all : goal.put_outputs-requires-clause-all
put_outputs-requires-clause-all c =
    let p : Present = now_in c.self.inside in
    let plan : Plan = c.self.inside.plan in
    let a : ℕ = c.args.actor in
    let none : first_of (write_table plan p a c.args.tokens.now) ≡ None = rw (← c.self.view_is) at c.requires in
    let k : c.turn-turn.result.firing ≡ count p a = rw (← c.self.view_is) at c.turn-turn.ensures.firing in
    ap (λ n. gift a n plan.channels) k ∙ sym (writes plan p a c.args.tokens.now none).1

pub prove-unreachable-requires : goal.prove-unreachable-requires
prove-unreachable-requires c =
    let p : Present = now_in c.self.inside in
    let plan : Plan = c.self.inside.plan in
    let a : ℕ = c.args.actor in
    let none : first_of (write_table plan p a c.args.tokens.now) ≡ None = rw (← c.self.view_is) at c.requires in
    let free : c.free_len.result + held p ≡ plan.cells =
    omega (arith, c.free_len.ensures.accounted, c.self.invariant.sound.cells.size, held-chains c.self.inside.pool.chains) in
    let le = cells_to_write plan p a c.free_len.result c.args.tokens.now c.self.invariant.sound.fit none free in
    let bad = c.if-prove.true in
    omega (arith, le, bad)

pub put_outputs-requires-clause-room : goal.put_outputs-requires-clause-room
put_outputs-requires-clause-room c = omega (arith, c.if-prove.false, c.free_len.ensures.free)

pub overflow_sub-self : goal.overflow_sub-self
overflow_sub-self c =
    let p : Present = now_in c.self.inside in
    let plan : Plan = c.self.inside.plan in
    let a : ℕ = c.args.actor in
    let none : first_of (write_table plan p a c.args.tokens.now) ≡ None = rw (← c.self.view_is) at c.requires in
    kept_to_write plan p a c.self.inside.reserved c.args.tokens.now c.self.invariant.sound.fit none c.self.invariant.sound.keeps

-- what is known once the tokens are put and the peaks raised
module _ (c : After-raise_peaks) where
  abbrev p : Present
  p = now_in c.self.inside

  abbrev plan : Plan
  plan = c.self.inside.plan

  abbrev a : ℕ
  a = c.args.actor

  none : first_of (write_table plan p a c.args.tokens.now) ≡ None
  none = rw (← c.self.view_is) at c.requires

  put : tokens_in c.put_outputs.new.pool ≡ joined p.tokens (shares a (count p a) plan.channels c.args.tokens.now)
  put =
      let firing : c.turn-turn.result.firing ≡ count p a = rw (← c.self.view_is) at c.turn-turn.ensures.firing in
      put_here plan p a c.turn-turn.result.firing c.args.tokens.now (tokens_in c.put_outputs.new.pool) c.self.invariant.sound.fit firing
      c.put_outputs.ensures.put

  peaks : c.raise_peaks.new.peaks ≡ raised c.self.inside.peaks.items (joined p.tokens (shares a (count p a) plan.channels c.args.tokens.now))
  peaks = peaks_here plan p a c.args.tokens.now (tokens_in c.put_outputs.new.pool) c.self.inside.peaks.items c.raise_peaks.new.peaks c.self.invariant.sound.fit
      c.self.invariant.sound.peaked c.self.invariant.sound.high put
      (c.raise_peaks.ensures ∙ ap (raise_over (outputs_at plan.channels a) (tokens_in c.put_outputs.new.pool)) c.deref_mut.ensures.value)

  cells : AreSharedOut plan c.put_outputs.new.pool
  cells = record { size = c.put_outputs.ensures.size ∙ c.self.invariant.sound.cells.size; partition = c.put_outputs.ensures.partition }

  sound : IsSound plan (written plan p a c.args.tokens.now) c.raise_peaks.new.peaks c.self.inside.sums.items c.self.inside.started
      (c.self.inside.reserved - length c.args.tokens.now) c.put_outputs.new.pool
  sound =
      let le = kept_to_write plan p a c.self.inside.reserved c.args.tokens.now c.self.invariant.sound.fit none c.self.invariant.sound.keeps in
      let all = (writes plan p a c.args.tokens.now none).1 in
      let kept : c.self.inside.reserved - length c.args.tokens.now + gift a (count p a) plan.channels ≡ c.self.inside.reserved = omega (arith, le, all) in
      sound_written plan p c.self.inside.peaks.items c.self.inside.sums.items c.self.inside.started c.self.inside.reserved c.self.inside.pool a
      (c.self.inside.reserved - length c.args.tokens.now) c.args.tokens.now c.raise_peaks.new.peaks c.put_outputs.new.pool c.self.invariant.sound none
      kept peaks
      c.put_outputs.ensures.same cells

  items : (with_items c.self.inside.peaks c.raise_peaks.new.peaks).items ≡ c.raise_peaks.new.peaks
  items =
      let same_length = ap length c.deref_mut.ensures.value in
      let size : length c.raise_peaks.new.peaks ≡ c.self.inside.peaks.len =
      omega (arith, sound.peaked, c.self.invariant.sound.peaked, same_length, c.deref_mut.ensures.len) in
      with_items_is c.self.inside.peaks c.raise_peaks.new.peaks size

pub invariant_of-self : goal.invariant_of-self
invariant_of-self c =
    let at : After-raise_peaks = (goal.at.invariant_of-self c).After-raise_peaks in
    record {
      phases = c.self.invariant.phases;
      sound = subst (λ qs. IsSound c.self.inside.plan (record {
        counts = c.self.inside.nexts.counts.items;
        stages = set c.self.inside.stages.items c.args.actor Written;
        opens = c.self.inside.opens.items;
        tokens = tokens_in c.put_outputs.new.pool;
      }) qs c.self.inside.sums.items c.self.inside.started (c.self.inside.reserved - length c.args.tokens.now)
          c.put_outputs.new.pool) (sym (items at))
          (subst (λ ts. IsSound c.self.inside.plan (record
          { counts = c.self.inside.nexts.counts.items; stages = set c.self.inside.stages.items c.args.actor Written; opens = c.self.inside.opens.items; tokens = ts })
          c.raise_peaks.new.peaks c.self.inside.sums.items c.self.inside.started (c.self.inside.reserved - length c.args.tokens.now) c.put_outputs.new.pool)
          (sym (put at)) (sound at));
    }

pub returns-clause-step : goal.returns-clause-step
returns-clause-step c =
    let at : After-raise_peaks = (goal.at.returns-clause-step c).After-raise_peaks in
    let now : record {
      counts = c.self.inside.nexts.counts.items;
      stages = set c.self.inside.stages.items c.args.actor Written;
      opens = c.self.inside.opens.items;
      tokens = tokens_in c.put_outputs.new.pool;
    } ≡ written c.self.inside.plan (now_in c.self.inside) c.args.actor c.args.tokens.now = ap
    (λ ts. record {
      counts = c.self.inside.nexts.counts.items;
      stages = set c.self.inside.stages.items c.args.actor Written;
      opens = c.self.inside.opens.items;
      tokens = ts;
    }) (put at) in
    let same : (with_items c.self.inside.peaks c.raise_peaks.new.peaks).items ≡ raised c.self.inside.peaks.items (tokens_in c.put_outputs.new.pool) =
    items at ∙ peaks at ∙ ap (raised c.self.inside.peaks.items) (sym (put at)) in
    rw (← c.self.view_is) (follows_accepted _ _ (Write c.args.actor c.args.tokens.now) _ refl (none at) refl now c.self.invariant.sound.fit
    refl (cells at) same)

pub index_mut-requires : goal.index_mut-requires
index_mut-requires c = grind (arith, common_steps)

pub raise_peaks-requires-clause-actor : goal.raise_peaks-requires-clause-actor
raise_peaks-requires-clause-actor c = grind (arith, common_steps)

pub put_outputs-requires-clause-actor : goal.put_outputs-requires-clause-actor
put_outputs-requires-clause-actor c = grind (arith, common_steps)

pub put_outputs-requires-clause-in_phase : goal.put_outputs-requires-clause-in_phase
put_outputs-requires-clause-in_phase c = grind (arith, common_steps)

pub put_outputs-requires-clause-partition : goal.put_outputs-requires-clause-partition
put_outputs-requires-clause-partition c = grind (arith, common_steps)

pub turn-turn-requires : goal.turn-turn-requires
turn-turn-requires c = grind (arith, common_steps)

pub returns-clause-cells : goal.returns-clause-cells
returns-clause-cells c = grind (arith, common_steps)

pub raise_peaks-requires-clause-peaked : goal.raise_peaks-requires-clause-peaked
raise_peaks-requires-clause-peaked c = search rules
