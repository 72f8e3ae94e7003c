use Rattle.std.proofs.Common.{inl, inr, subst, sym, ◌∙◌, arith}
use Rattle.std.proofs.lemmas.Bool.{false≢true}
use Rattle.std.proofs.lemmas.Grind.{common_steps}
use Rattle.csdf_analysis.specs.Period.{CanGo}
use Rattle.csdf_analysis.proofs.run.Run.next.Goals as goal

pub returns-then-can_go-clause-found : goal.returns-then-can_go-clause-found
returns-then-can_go-clause-found c = grind (arith, common_steps)

pub loop-actor-init : goal.loop-actor-init
loop-actor-init c = c.requires.waiting

pub can_go-requires-clause-exists : goal.can_go-requires-clause-exists
can_go-requires-clause-exists c = c.loop-actor.invariant.actors _ c.in-Some.ensures.answer.set

pub returns-then-can_go-clause-waiting : goal.returns-then-can_go-clause-waiting
returns-then-can_go-clause-waiting c = c.loop-actor.invariant

pub without_actor-requires : goal.without_actor-requires
without_actor-requires c = c.in-Some.ensures.answer.set

pub loop-actor-smaller : goal.loop-actor-smaller
loop-actor-smaller c = c.without_actor.ensures.less

pub loop-actor-preserved : goal.loop-actor-preserved
loop-actor-preserved c =
    let channels = c.args.net.now.channels in
    let q = c.args.net.now.firings in
    let run = c.args.self.now in
    record {
      actors = λ a is. c.loop-actor.invariant.actors a (c.without_actor.ensures.kept a is);
      able = λ b go. elim (c.without_actor.ensures.others b (c.loop-actor.invariant.able b go)) [
        | inl same ↦ absurd (false≢true (sym c.if-can_go.false
            ∙ c.can_go.ensures.1 (subst (CanGo channels q run.bounds.items run.counts.items) same go)))
        | inr is ↦ is
      ];
    }

pub returns-clause-found : goal.returns-clause-found
returns-clause-found c = λ a go. c.in_default.ensures.answer a (c.loop-actor.invariant.able a go)

pub returns-clause-waiting : goal.returns-clause-waiting
returns-clause-waiting c = c.loop-actor.invariant
