use Rattle.std.proofs.Common.{List, ℕ, inl, inr, subst, sym}
use Rattle.csdf_analysis.specs.Waking.{HasAble}
use Rattle.csdf_analysis.proofs.WakeLemmas.{woken_able}
use Rattle.csdf_analysis.proofs.run.Run.step.Goals as goal

pub returns-clause-waiting : goal.returns-clause-waiting
returns-clause-waiting c =
    let channels = c.args.net.now.channels in
    let q = c.args.net.now.firings in
    let bounds = c.args.self.now.bounds.items in
    let mask = c.woken.result in
    let able = woken_able channels q bounds c.args.self.now.counts.items mask c.args.actor c.woken.ensures.woken
    (λ b go. elim (c.requires.able b go) [ inl this ↦ inl this | inr has ↦ inr (c.woken.ensures.kept b has) ]) in
    record {
      actors = c.woken.ensures.actors;
      able = subst (λ (bs : List ℕ). HasAble channels q bs c.fire.new.self.counts.items mask) (sym c.fire.ensures.bounds)
          (subst (λ (ks : List ℕ). HasAble channels q bounds ks mask) (sym c.fire.ensures.counts) able);
    }
