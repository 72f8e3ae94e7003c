use Rattle.std.proofs.Common.{◌≡◌, ◌++◌, ℕ, List, length, take, drop, ap, subst, sym, ◌∙◌, arith}
use Rattle.std.specs.Prelude.{ℤ, vec_len}
use Rattle.std.proofs.Math.Seq.{take-append_seam}
use Rattle.std.proofs.lemmas.Result.{on_ok_weaker}
use Rattle.csdf_core.specs.Own.{AreOwn, OwnView, own_passed}
use Rattle.csdf_core.proofs.firing_core.Core.pass_own.Goals as goal

pub returns-clause-passed : goal.returns-clause-passed
returns-clause-passed c =
    let new : List (List ℤ) = c.pass.new.queues in
    let rest : List (List ℤ) = drop (length c.pass.new.queues) c.own.inside.queues.items in
    let size : vec_len c.own.inside.queues ≡ length new = omega (arith, c.pass.auto.queues, c.deref_mut.ensures.len) in
    let whole : take (vec_len c.own.inside.queues) (new ++ rest) ≡ new = ap (λ (j : ℕ). take j (new ++ rest)) size ∙ take-append_seam new rest in
    let held = c.deref_mut.ensures.value ∙ ap (λ (v : OwnView). v.queues) c.own.view_is in
    on_ok_weaker c.pass.result
    (λ e. rw (← c.self.view_is) (λ tokens own. subst (AreOwn c.self.inside.plan.channels c.args.actor
    (own_passed c.self.inside.plan.channels c.args.actor c.args.turn.firing c.args.value.now tokens)) (sym whole)
    (e tokens (subst (AreOwn c.self.inside.plan.channels c.args.actor tokens) (sym held) own)))) c.pass.ensures
