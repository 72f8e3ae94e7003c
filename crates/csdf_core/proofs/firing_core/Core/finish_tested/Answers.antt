use Rattle.std.proofs.lemmas.Grind.{common_steps}
use Rattle.std.specs.Prelude.{slice_index}
use Rattle.csdf_core.specs.declared.stage.Stage.TheVariants.{Idle}
use Rattle.csdf_core.specs.Sound.{IsSound}
use Rattle.csdf_core.specs.Inside.{now_in}
use Rattle.csdf_core.specs.Next.{finished}
use Rattle.std.proofs.Common.{◌≡◌, ◌≤◌, ◌<◌, ◌+◌, length, suc, set, None, sym, ◌∙◌, ap, subst, refl, arith, ℕ}
use Rattle.csdf_core.specs.Plan.{Plan}
use Rattle.csdf_core.specs.State.{Present}
use Rattle.csdf_core.specs.Ports.{tokens_in}
use Rattle.csdf_core.specs.Moves.{Finish}
use Rattle.csdf_core.specs.Rows.{gift}
use Rattle.csdf_core.specs.Step.{refusal, count}
use Rattle.csdf_core.proofs.Follows.{follows_accepted}
use Rattle.csdf_core.proofs.SoundLemmas.{sound_finished}
use Rattle.csdf_core.proofs.Peaceful.{peaks_stay}
use Rattle.std.proofs.lemmas.List.{get_or_default}
use Rattle.csdf_core.proofs.Kept.{finishes}
use Rattle.csdf_core.proofs.firing_core.Core.finish_tested.Goals as goal

pub invariant_of-self : goal.invariant_of-self
invariant_of-self c =
    let p : Present = now_in c.self.inside in
    let plan : Plan = c.self.inside.plan in
    let a : ℕ = c.args.actor in
    let none : refusal plan p (Finish a) ≡ None = rw (← c.self.view_is) at c.requires in
    let one : set c.self.inside.nexts.counts.items a (suc (count p a)) ≡ c.advance.new.self.counts.items =
    ap (set c.self.inside.nexts.counts.items a) (omega arith) ∙ sym c.advance.ensures.counts in
    let lt : a < length c.self.inside.sums.items =
    (let there = (finishes plan p a none).there in let tallied = c.self.invariant.sound.tallied in omega (arith, there, tallied)) in
    let total : c.index_mut.result.now + c.gives-written.result ≡ slice_index c.self.inside.sums.items a + gift a (count p a) plan.channels =
    (let g = rw (← c.self.view_is) at c.gives-written.ensures.sum in
    let old : c.index_mut.result.now ≡ slice_index c.self.inside.sums.items a = c.index_mut.ensures.value
    ∙ get_or_default c.self.inside.sums.items a c.index_mut.result.now 0 lt in omega (arith, g, old)) in
    let few : gift a (count p a) plan.channels ≤ 8192 =
    (let g = rw (← c.self.view_is) at c.gives-written.ensures.sum in let s = c.gives-written.ensures.small in omega (arith, g, s)) in
    record {
      phases = c.advance.ensures.phases;
      sound = subst (λ counts. IsSound plan (record {
        counts = counts;
        stages = set c.self.inside.stages.items a Idle;
        opens = c.self.inside.opens.items;
        tokens = tokens_in c.self.inside.pool;
      }) c.self.inside.peaks.items (set c.self.inside.sums.items a (c.index_mut.result.now + c.gives-written.result))
          c.self.inside.started c.self.inside.reserved c.self.inside.pool) one
          (sound_finished plan p c.self.inside.peaks.items c.self.inside.sums.items c.self.inside.started c.self.inside.reserved c.self.inside.pool a
          (c.index_mut.result.now + c.gives-written.result) c.self.invariant.sound none total few);
    }

pub returns-clause-step : goal.returns-clause-step
returns-clause-step c =
    let p : Present = now_in c.self.inside in
    let plan : Plan = c.self.inside.plan in
    let a : ℕ = c.args.actor in
    let none : refusal plan p (Finish a) ≡ None = rw (← c.self.view_is) at c.requires in
    let one : set c.self.inside.nexts.counts.items a (suc (count p a)) ≡ c.advance.new.self.counts.items =
    ap (set c.self.inside.nexts.counts.items a) (omega arith) ∙ sym c.advance.ensures.counts in
    let now : record {
      counts = c.advance.new.self.counts.items;
      stages = set c.self.inside.stages.items a Idle;
      opens = c.self.inside.opens.items;
      tokens = tokens_in c.self.inside.pool;
    } ≡ finished p a =
    ap (λ counts. record {
      counts = counts;
      stages = set c.self.inside.stages.items a Idle;
      opens = c.self.inside.opens.items;
      tokens = tokens_in c.self.inside.pool;
    }) (sym one) in
    rw (← c.self.view_is) (follows_accepted _ _ (Finish a) _ refl none refl now c.self.invariant.sound.fit refl c.self.invariant.sound.cells
    (sym (peaks_stay _ _ _ _ _ _ _ c.self.invariant.sound)))

pub overflow_add-index_mut : goal.overflow_add-index_mut
overflow_add-index_mut c = grind (arith, common_steps)

pub returns-clause-cells : goal.returns-clause-cells
returns-clause-cells c = grind (arith, common_steps)
