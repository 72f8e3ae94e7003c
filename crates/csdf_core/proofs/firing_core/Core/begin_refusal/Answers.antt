use Rattle.std.proofs.Common.{rules, ◌≡◌, Some, ◌<◌, length, subst, sym, ◌∙◌, arith}
use Rattle.csdf_core.specs.declared.refusal.Refusal.TheVariants.{Unknown}
use Rattle.csdf_core.specs.Moves.{Begin}
use Rattle.csdf_core.specs.Ready.{IsFit}
use Rattle.csdf_core.specs.Shows.{View, AreSharedOut, raised}
use Rattle.csdf_core.specs.Step.{refusal}
use Rattle.csdf_core.proofs.Ample.{none_lacking}
use Rattle.csdf_core.proofs.Follows.{follows_refused, follows_told}
use Rattle.csdf_core.proofs.Peaceful.{peaks_stay}
use Rattle.csdf_core.proofs.firing_core.Core.begin_refusal.Goals as goal

pub returns-then-actor-len-clause-follows : goal.returns-then-actor-len-clause-follows
returns-then-actor-len-clause-follows c =
    let v : View = c.args.self.now in
    let is : refusal v.plan v.now (Begin c.args.actor) ≡ Some Unknown = search rules in
    let peaks : raised v.peaks v.now.tokens ≡ v.peaks =
    subst (λ (u : View). raised u.peaks u.now.tokens ≡ u.peaks) c.self.view_is (peaks_stay _ _ _ _ _ _ _ c.self.invariant.sound) in
    let cells : AreSharedOut v.plan v.pool = subst (λ (u : View). AreSharedOut u.plan u.pool) c.self.view_is c.self.invariant.sound.cells in
    follows_refused v (Begin c.args.actor) Unknown is peaks cells

pub returns-clause-follows : goal.returns-clause-follows
returns-clause-follows c =
    let v : View = c.args.self.now in
    let is : c.firing_refusal.result ≡ refusal v.plan v.now (Begin c.args.actor) = search rules in
    let peaks : raised v.peaks v.now.tokens ≡ v.peaks =
    subst (λ (u : View). raised u.peaks u.now.tokens ≡ u.peaks) c.self.view_is (peaks_stay _ _ _ _ _ _ _ c.self.invariant.sound) in
    let cells : AreSharedOut v.plan v.pool = subst (λ (u : View). AreSharedOut u.plan u.pool) c.self.view_is c.self.invariant.sound.cells in
    follows_told v (Begin c.args.actor) c.firing_refusal.result is peaks cells

pub returns-clause-ample : goal.returns-clause-ample
returns-clause-ample c =
    let inside : c.args.actor < length c.self.inside.plan.sources =
    omega (arith, c.if-actor-len.false, c.len.ensures, c.self.inside.nexts.counts.ok.0, c.self.invariant.sound.fit.counted) in
    let there : c.args.actor < length c.args.self.now.plan.sources = subst (λ (v : View). c.args.actor < length v.plan.sources) c.self.view_is inside in
    let fit : IsFit c.args.self.now.plan c.args.self.now.now = subst (λ (v : View). IsFit v.plan v.now) c.self.view_is c.self.invariant.sound.fit in
    λ ample e. none_lacking c.args.self.now.plan c.args.self.now.now c.args.actor there fit ample (sym c.firing_refusal.ensures ∙ e)
