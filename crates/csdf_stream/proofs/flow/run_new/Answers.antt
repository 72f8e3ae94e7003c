use Rattle.std.proofs.Common.{ℕ, List, [], ◌∷◌, ◌++◌, ap, length, map, refl, subst, sym, ◌∙◌}
use Rattle.std.specs.Prelude.{Option}
use Rattle.std.proofs.lemmas.List.{length-replicate}
use Rattle.std.proofs.lemmas.Result.{IfErr-at_err, IfOk-at_ok, IfOk-weaker}
use Rattle.csdf_analysis.specs.Acceptance.{Accepted}
use Rattle.csdf_run.specs.Streaming.{StandsAfter, StreamView}
use Rattle.csdf_stream.specs.declared.reader.Reader.{Reader}
use Rattle.csdf_stream.specs.Flowing.{GoesOnTo, IsAlike, IsPlanOf, IsStreamed, StopsAt, devices}
use Rattle.csdf_stream.specs.Marks.{IsMarked}
use Rattle.csdf_stream.specs.Ports.{sinks_in}
use Rattle.csdf_stream.specs.Reading.{fresh}
use Rattle.csdf_stream.proofs.EndLemmas.{alike_on, alike_stopped, fed_none, not_last, not_over, onward, plan_ready, stands_first, stands_next, stopped_first, stopped_of, streamed_of}
use Rattle.csdf_stream.proofs.StandLemmas.{IsLeft, buffers_now, left_first, left_next, left_some, ready_now}
use Rattle.csdf_stream.proofs.flow.run_new.Goals as goal

pub returns-in-Err-clause-stopped : goal.returns-in-Err-clause-stopped
returns-in-Err-clause-stopped g c = stopped_first c.args.stream.accepted c.args.options.format c.args.options.workers _ _

pub returns-in-Err-flow_of-clause-stopped : goal.returns-in-Err-flow_of-clause-stopped
returns-in-Err-flow_of-clause-stopped g c = stopped_first c.args.stream.accepted c.args.options.format c.args.options.workers _ _

pub loop-init : goal.loop-init
loop-init g c =
    let is = c.in-Ok-flow_of.ensures.flow in
    record {
      past = [];
      stands = stands_first c.args.stream.accepted c.in-Ok.plan c.args.options.periods (map g.I.Intake.left c.args.intakes.now) (map g.O.Outlet.written c.args.outlets.now)
          c.in-Ok-flow_of.flow
          (subst (λ (s : StreamView). StandsAfter c.args.stream.accepted [] s) (sym is.0) c.requires.new)
          (ap (λ (s : StreamView). s.is_over) is.0 ∙ c.requires.goes_on)
          is.2 is.5
          (ap (λ (rs : List Reader). length rs) is.2 ∙ length-replicate (length c.in-Ok.plan.sources.items) (fresh c.in-Ok.plan.format))
          (ap (λ (ns : List ℕ). length ns) is.5 ∙ length-replicate (length c.in-Ok.plan.sinks.items) 0)
          (fed_none c.args.stream.accepted.graph c.in-Ok-flow_of.flow.buffers.feeds.items is.3 is.4)
          (subst (λ (o : Option ℕ). IsLeft c.args.options.periods [] o) (sym is.1) (left_first c.args.options.periods c.args.options.some_period));
      intakes = refl;
      outlets = refl;
    }

pub advance-next-requires-clause-plan : goal.advance-next-requires-clause-plan
advance-next-requires-clause-plan g c κs within = ready_now c.args.stream.accepted c.in-Ok.plan c.args.options.periods (devices (map g.I.Intake.left c.args.intakes.now) (map g.I.Intake.left c.loop.intakes) (map g.O.Outlet.written c.args.outlets.now) (map g.O.Outlet.written c.loop.outlets)) c.loop.invariant.past c.loop.flow c.requires.new.accepted (plan_ready c.args.stream.accepted c.args.options c.in-Ok.plan (subst (λ (a : Accepted). IsPlanOf a c.args.options c.in-Ok.plan) c.accepted.ensures c.in-Ok.ensures)) c.loop.invariant.stands

pub advance-next-requires-clause-left : goal.advance-next-requires-clause-left
advance-next-requires-clause-left g c κs within = left_some c.args.options.periods c.loop.invariant.past c.loop.flow.left c.loop.invariant.stands.left

pub advance-next-requires-clause-buffers : goal.advance-next-requires-clause-buffers
advance-next-requires-clause-buffers g c κs within =
    buffers_now c.args.stream.accepted c.in-Ok.plan c.args.options.periods (devices (map g.I.Intake.left c.args.intakes.now) (map g.I.Intake.left c.loop.intakes) (map g.O.Outlet.written c.args.outlets.now) (map g.O.Outlet.written c.loop.outlets)) c.loop.invariant.past c.loop.flow c.requires.new.accepted (plan_ready c.args.stream.accepted c.args.options c.in-Ok.plan (subst (λ (a : Accepted). IsPlanOf a c.args.options c.in-Ok.plan) c.accepted.ensures c.in-Ok.ensures)) c.loop.invariant.stands

pub returns-then-is_done-clause-streamed : goal.returns-then-is_done-clause-streamed
returns-then-is_done-clause-streamed g c =
    IfOk-weaker c.finish.result.end _ _ (λ end is.
    subst (λ (s : StreamView). IsStreamed c.args.stream.accepted c.args.options.format c.args.options.periods s (onward (devices (map g.I.Intake.left c.args.intakes.now) (map g.I.Intake.left c.loop.intakes) (map g.O.Outlet.written c.args.outlets.now) (map g.O.Outlet.written c.loop.outlets)) (devices (map g.I.Intake.left c.loop.intakes) (map g.I.Intake.left c.advance-next.new.intakes) (map g.O.Outlet.written c.loop.outlets) (map g.O.Outlet.written c.advance-next.new.outlets))) end) (sym c.finish.ensures.stream)
    (streamed_of c.args.stream.accepted c.in-Ok.plan c.args.options.periods (devices (map g.I.Intake.left c.args.intakes.now) (map g.I.Intake.left c.loop.intakes) (map g.O.Outlet.written c.args.outlets.now) (map g.O.Outlet.written c.loop.outlets)) (devices (map g.I.Intake.left c.loop.intakes) (map g.I.Intake.left c.advance-next.new.intakes) (map g.O.Outlet.written c.loop.outlets) (map g.O.Outlet.written c.advance-next.new.outlets)) c.loop.invariant.past c.loop.flow c.advance-next.result.0 c.in-Ok-answer.part c.requires.new.accepted (plan_ready c.args.stream.accepted c.args.options c.in-Ok.plan (subst (λ (a : Accepted). IsPlanOf a c.args.options c.in-Ok.plan) c.accepted.ensures c.in-Ok.ensures)) (record { rests = refl; after = refl })
    c.loop.invariant.stands (IfOk-at_ok (GoesOnTo c.in-Ok.plan c.loop.flow c.advance-next.result.0 (devices (map g.I.Intake.left c.loop.intakes) (map g.I.Intake.left c.advance-next.new.intakes) (map g.O.Outlet.written c.loop.outlets) (map g.O.Outlet.written c.advance-next.new.outlets))) c.in-Ok-answer.is c.advance-next.ensures.goes_on) c.args.options.format end (subst (λ (a : Accepted). IsPlanOf a c.args.options c.in-Ok.plan) c.accepted.ensures c.in-Ok.ensures).format (c.is_done.ensures.0 c.if-is_done.true) is.0 is.1 is.2)) c.finish.ensures.end

pub returns-then-is_done-clause-alike : goal.returns-then-is_done-clause-alike
returns-then-is_done-clause-alike g c =
    subst (λ (s : StreamView). IsAlike c.args.stream.accepted s.accepted) (sym c.finish.ensures.stream)
    (alike_on c.args.stream.accepted c.in-Ok.plan c.args.options.periods (devices (map g.I.Intake.left c.args.intakes.now) (map g.I.Intake.left c.loop.intakes) (map g.O.Outlet.written c.args.outlets.now) (map g.O.Outlet.written c.loop.outlets)) c.loop.invariant.past c.loop.flow c.requires.new.accepted (plan_ready c.args.stream.accepted c.args.options c.in-Ok.plan (subst (λ (a : Accepted). IsPlanOf a c.args.options c.in-Ok.plan) c.accepted.ensures c.in-Ok.ensures)) c.loop.invariant.stands c.advance-next.result.0 (devices (map g.I.Intake.left c.loop.intakes) (map g.I.Intake.left c.advance-next.new.intakes) (map g.O.Outlet.written c.loop.outlets) (map g.O.Outlet.written c.advance-next.new.outlets)) c.in-Ok-answer.part (IfOk-at_ok (GoesOnTo c.in-Ok.plan c.loop.flow c.advance-next.result.0 (devices (map g.I.Intake.left c.loop.intakes) (map g.I.Intake.left c.advance-next.new.intakes) (map g.O.Outlet.written c.loop.outlets) (map g.O.Outlet.written c.advance-next.new.outlets))) c.in-Ok-answer.is c.advance-next.ensures.goes_on))

pub loop-preserved : goal.loop-preserved
loop-preserved g c =
    let on = (IfOk-at_ok (GoesOnTo c.in-Ok.plan c.loop.flow c.advance-next.result.0 (devices (map g.I.Intake.left c.loop.intakes) (map g.I.Intake.left c.advance-next.new.intakes) (map g.O.Outlet.written c.loop.outlets) (map g.O.Outlet.written c.advance-next.new.outlets))) c.in-Ok-answer.is c.advance-next.ensures.goes_on) in
    record {
      past = c.loop.invariant.past ++ on.stretch.segment ∷ [];
      stands = stands_next c.args.stream.accepted c.in-Ok.plan c.args.options.periods (devices (map g.I.Intake.left c.args.intakes.now) (map g.I.Intake.left c.loop.intakes) (map g.O.Outlet.written c.args.outlets.now) (map g.O.Outlet.written c.loop.outlets)) (devices (map g.I.Intake.left c.loop.intakes) (map g.I.Intake.left c.advance-next.new.intakes) (map g.O.Outlet.written c.loop.outlets) (map g.O.Outlet.written c.advance-next.new.outlets)) c.loop.invariant.past c.loop.flow c.advance-next.result.0 c.in-Ok-answer.part c.requires.new.accepted (plan_ready c.args.stream.accepted c.args.options c.in-Ok.plan (subst (λ (a : Accepted). IsPlanOf a c.args.options c.in-Ok.plan) c.accepted.ensures c.in-Ok.ensures)) (record { rests = refl; after = refl })
          c.loop.invariant.stands on
          (not_over c.is_done.result c.advance-next.result.0.stream.is_over _ c.is_done.ensures c.if-is_done.false)
          (left_next c.loop.flow.stream.accepted c.in-Ok.plan c.args.options.periods c.loop.flow.left c.advance-next.result.0.left c.loop.invariant.past
          on.stretch.segment on.periods c.loop.invariant.stands.left on.segment on.stretch.told.periods on.left
          (not_last c.is_done.result _ _ c.is_done.ensures c.if-is_done.false));
      intakes = c.advance-next.ensures.many.0 ∙ c.loop.invariant.intakes;
      outlets = c.advance-next.ensures.many.1 ∙ c.loop.invariant.outlets;
    }

pub returns-in-Err-answer-clause-stopped : goal.returns-in-Err-answer-clause-stopped
returns-in-Err-answer-clause-stopped g c =
    stopped_of c.args.stream.accepted c.in-Ok.plan c.args.options.periods (devices (map g.I.Intake.left c.args.intakes.now) (map g.I.Intake.left c.loop.intakes) (map g.O.Outlet.written c.args.outlets.now) (map g.O.Outlet.written c.loop.outlets)) (devices (map g.I.Intake.left c.loop.intakes) (map g.I.Intake.left c.advance-next.new.intakes) (map g.O.Outlet.written c.loop.outlets) (map g.O.Outlet.written c.advance-next.new.outlets)) c.loop.invariant.past c.loop.flow c.advance-next.result.0 c.requires.new.accepted (plan_ready c.args.stream.accepted c.args.options c.in-Ok.plan (subst (λ (a : Accepted). IsPlanOf a c.args.options c.in-Ok.plan) c.accepted.ensures c.in-Ok.ensures)) (record { rests = refl; after = refl }) c.loop.invariant.stands
    c.args.options.format c.args.options.workers (subst (λ (a : Accepted). IsPlanOf a c.args.options c.in-Ok.plan) c.accepted.ensures c.in-Ok.ensures).format (subst (λ (a : Accepted). IsPlanOf a c.args.options c.in-Ok.plan) c.accepted.ensures c.in-Ok.ensures).workers c.in-Err-answer.fault (IfErr-at_err (StopsAt c.in-Ok.plan c.loop.flow c.advance-next.result.0 (devices (map g.I.Intake.left c.loop.intakes) (map g.I.Intake.left c.advance-next.new.intakes) (map g.O.Outlet.written c.loop.outlets) (map g.O.Outlet.written c.advance-next.new.outlets))) c.in-Err-answer.is c.advance-next.ensures.stops)

pub returns-in-Err-answer-clause-alike : goal.returns-in-Err-answer-clause-alike
returns-in-Err-answer-clause-alike g c =
    alike_stopped c.args.stream.accepted c.in-Ok.plan c.args.options.periods (devices (map g.I.Intake.left c.args.intakes.now) (map g.I.Intake.left c.loop.intakes) (map g.O.Outlet.written c.args.outlets.now) (map g.O.Outlet.written c.loop.outlets)) c.loop.invariant.past c.loop.flow c.requires.new.accepted (plan_ready c.args.stream.accepted c.args.options c.in-Ok.plan (subst (λ (a : Accepted). IsPlanOf a c.args.options c.in-Ok.plan) c.accepted.ensures c.in-Ok.ensures)) c.loop.invariant.stands c.advance-next.result.0 (devices (map g.I.Intake.left c.loop.intakes) (map g.I.Intake.left c.advance-next.new.intakes) (map g.O.Outlet.written c.loop.outlets) (map g.O.Outlet.written c.advance-next.new.outlets))
    c.in-Err-answer.fault (IfErr-at_err (StopsAt c.in-Ok.plan c.loop.flow c.advance-next.result.0 (devices (map g.I.Intake.left c.loop.intakes) (map g.I.Intake.left c.advance-next.new.intakes) (map g.O.Outlet.written c.loop.outlets) (map g.O.Outlet.written c.advance-next.new.outlets))) c.in-Err-answer.is c.advance-next.ensures.stops)

pub returns-in-Err-answer-clause-marked : goal.returns-in-Err-answer-clause-marked
returns-in-Err-answer-clause-marked g c =
    let ins = map g.I.Intake.failed c.advance-next.new.intakes in
    let outs = map g.O.Outlet.failed c.advance-next.new.outlets in
    let is = subst (λ (a : Accepted). IsPlanOf a c.args.options c.in-Ok.plan) c.accepted.ensures c.in-Ok.ensures in
    subst (λ (xs : List ℕ). IsMarked xs (sinks_in c.args.stream.accepted.graph) ins outs c.in-Err-answer.fault) is.sources
    (subst (λ (xs : List ℕ). IsMarked c.in-Ok.plan.sources.items xs ins outs c.in-Err-answer.fault) is.sinks
    (IfErr-at_err (IsMarked c.in-Ok.plan.sources.items c.in-Ok.plan.sinks.items ins outs) c.in-Err-answer.is c.advance-next.ensures.marked))
