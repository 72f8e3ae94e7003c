use Rattle.std.proofs.lemmas.Grind.{common_steps}
use Rattle.std.proofs.Common.{◌≡◌, ◌+◌, ◌%◌, List, ℕ, length, get_or, set, refl, ap, subst, sym, ◌∙◌, arith}
use Rattle.std.specs.Vec.{with_items}
use Rattle.std.proofs.lemmas.List.{get_or_default, with_items_is}
use Rattle.csdf_model.specs.Graph.{phases_of}
use Rattle.csdf_analysis.specs.Period.{fired}
use Rattle.csdf_analysis.specs.Running.{AreHeld}
use Rattle.csdf_analysis.proofs.RunLemmas.{firings_left, next_at}
use Rattle.csdf_analysis.proofs.FiringLemmas.{enough_now, small_now, held_next, in_phase_fired}
use Rattle.csdf_analysis.proofs.run.Run.fire.Goals as goal

pub take-requires-clause-enough : goal.take-requires-clause-enough
take-requires-clause-enough c =
    let held = subst (AreHeld c.args.net.now.channels c.args.self.now.counts.items) (sym c.deref_mut.ensures.value) c.requires.run.at.held in
    enough_now _ _ _ _ _ _ c.args.actor c.phase-phase.result c.phase-phase.ensures.phased held c.requires.can_go c.phase-phase.ensures.value

pub put-requires-clause-small : goal.put-requires-clause-small
put-requires-clause-small c =
    let held = subst (AreHeld c.args.net.now.channels c.args.self.now.counts.items) (sym c.deref_mut.ensures.value) c.requires.run.at.held in
    let size : length c.take.new.lengths ≡ c.args.self.now.lengths.len =
    omega (arith, c.take.auto.lengths, ap length c.deref_mut.ensures.value, c.args.self.now.lengths.ok.0) in
    let same = c.deref_mut-2.ensures.value ∙ with_items_is c.args.self.now.lengths c.take.new.lengths size in
    small_now _ _ _ _ _ c.deref_mut-2.result.now c.args.actor c.phase-phase.result c.phase-phase.ensures.fit c.requires.run.at.within held c.take.ensures same

pub overflow_add-self : goal.overflow_add-self
overflow_add-self c = omega (arith, firings_left _ _ _ _ _ _ _ c.requires.run.at c.requires.can_go, c.requires.run.at.few)

pub returns-clause-run : goal.returns-clause-run
returns-clause-run c =
    let channels = c.args.net.now.channels in
    let actors = c.args.net.now.actors in
    let a = c.args.actor in
    let old = c.args.self.now.counts.items in
    let counts = set old a (c.index_mut-2.result.now + 1) in
    let count : c.index_mut-2.result.now ≡ get_or old a 0 = c.index_mut-2.ensures.value
    ∙ get_or_default _ _ c.index_mut-2.result.now 0 c.requires.can_go.able.exists in
    let is : counts ≡ fired old a = ap (set old a) (omega (arith, count)) in
    let size : length c.take.new.lengths ≡ c.args.self.now.lengths.len =
    omega (arith, c.take.auto.lengths, ap length c.deref_mut.ensures.value, c.args.self.now.lengths.ok.0) in
    let same = c.deref_mut-2.ensures.value ∙ with_items_is c.args.self.now.lengths c.take.new.lengths size in
    let size2 : length c.put.new.lengths ≡ c.args.self.now.lengths.len = omega (arith, c.put.auto.lengths, ap length same, size) in
    let last = with_items_is (with_items c.args.self.now.lengths c.take.new.lengths) c.put.new.lengths size2 in
    let whole = ap length last in
    let len : length (with_items (with_items c.args.self.now.lengths c.take.new.lengths) c.put.new.lengths).items ≡ length channels =
    omega (arith, whole, size2, c.args.self.now.lengths.ok.0, c.requires.run.at.each_length) in
    let before = subst (AreHeld channels old) (sym c.deref_mut.ensures.value) c.requires.run.at.held in
    let held = held_next _ _ _ _ _ _ _ _ _ a c.phase-phase.result c.phase-phase.ensures.phased c.requires.run.at.reached before c.requires.can_go
    c.phase-phase.ensures.value c.take.ensures same c.put.ensures in
    let phase = c.phase_after.ensures ∙ ap (λ k. (k + 1) % phases_of actors a) c.phase-phase.ensures.value in
    record {
      at = next_at _ _ _ _ _ counts _ _ (c.args.self.now.firings + 1) a c.requires.run.at c.requires.can_go is len
          (subst (AreHeld channels counts) (sym last) (subst (λ (ks : List ℕ). AreHeld channels ks c.put.new.lengths) (sym is) held)) refl;
      in_phase = in_phase_fired actors old counts _ a c.phase_after.result c.requires.can_go.able.exists c.requires.run.in_phase is phase;
    }

pub overflow_add-index_mut : goal.overflow_add-index_mut
overflow_add-index_mut c = grind (arith, common_steps)

pub returns-clause-counts : goal.returns-clause-counts
returns-clause-counts c = grind (arith, common_steps)
