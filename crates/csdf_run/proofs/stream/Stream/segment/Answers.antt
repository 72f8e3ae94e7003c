use Rattle.std.proofs.Common.{◌≡◌, ℕ, true, List, length, map, Result, None, ap, sym, subst, ◌∙◌}
use Rattle.std.specs.Prelude.{ℤ, ◌↔◌, IfOk}
use Rattle.std.specs.Global.{Vec}
use Rattle.std.specs.List.{zip}
use Rattle.csdf_analysis.specs.Acceptance.{Accepted, IsAccepted}
use Rattle.csdf_model.specs.Holding.{HaveAsMany}
use Rattle.csdf_run.specs.declared.no_outcome.NoOutcome.{NoOutcome}
use Rattle.csdf_floor.specs.declared.outcome.Outcome.{Outcome}
use Rattle.csdf_floor.specs.Continuing.{AreExact}
use Rattle.csdf_floor.specs.Outcome.{IsOutcome}
use Rattle.csdf_floor.specs.Work.{HasFewFirings, Work, feeds_in}
use Rattle.csdf_run.specs.Streaming.{IsAfter, StreamView}
use Rattle.csdf_run.specs.Texts.{work_for}
use Rattle.csdf_run.specs.Totals.{with_report}
use Rattle.csdf_run.proofs.Lengths.{may_for}
use Rattle.csdf_run.proofs.Stretching.{many_left, stretch_of}
use Rattle.csdf_run.proofs.Totalling.{told_each}
use Rattle.csdf_run.proofs.stream.Stream.segment.Given.{Over}
use Rattle.csdf_run.proofs.stream.Stream.segment.Goals as goal
use Rattle.csdf_run.proofs.stream.Stream.segment.Goals.{In-Ok}

module _ (g : Over) (c : In-Ok g) where
  abbrev asked : Work
  asked = work_for c.args.self.accepted (feeds_in c.args.feeds.items) c.args.periods None

  is_asked : c.new-request.result.work ≡ asked
  is_asked = c.new-request.ensures.work.2
      ∙ ap (λ (n : ℕ). work_for c.self.inside.accepted (feeds_in c.args.feeds.items) n None) c.new-request.ensures.work.1
      ∙ ap (λ (s : StreamView). work_for s.accepted (feeds_in c.args.feeds.items) c.args.periods None) c.self.view_is

  same : c.watched_outcome_of-fed.result.fed.accepted ≡ c.args.self.accepted
  same = c.watched_outcome_of-fed.ensures.fed.accepted ∙ ap (λ (w : Work). w.accepted) is_asked

  ok : IsAccepted c.args.self.accepted
  ok = subst (λ (s : StreamView). IsAccepted s.accepted) c.self.view_is c.graph.ensures.accepted

  outcome : IsOutcome asked c.in-Ok.outcome
  outcome = subst (λ (w : Work). IsOutcome w c.in-Ok.outcome) is_asked
      (subst (λ (r : Result Outcome NoOutcome). IfOk r (IsOutcome c.new-request.result.work)) c.in-Ok.is c.watched_outcome_of-fed.ensures.outcome)

  exact : (c.are_exact-is_exact.result ≡ true) ↔ AreExact c.args.self.accepted (feeds_in c.args.feeds.items) c.args.periods
  exact = subst (λ (s : StreamView). (c.are_exact-is_exact.result ≡ true) ↔ AreExact s.accepted (feeds_in c.args.feeds.items) c.args.periods) c.self.view_is
      (subst (λ (vs : List (Vec ℤ)). (c.are_exact-is_exact.result ≡ true) ↔ AreExact c.self.inside.accepted (feeds_in vs) c.args.periods)
      c.deref.ensures.value c.are_exact-is_exact.ensures)

  each_channel : length c.self.inside.totals.items ≡ length c.watched_outcome_of-fed.result.fed.accepted.graph.channels
  each_channel = c.self.invariant ∙ ap (λ (a : Accepted). length a.graph.channels) (ap (λ (s : StreamView). s.accepted) c.self.view_is ∙ sym same)

  each_told : length c.in-Ok.outcome.report.items ≡ length c.watched_outcome_of-fed.result.fed.accepted.graph.channels
  each_told = told_each asked c.in-Ok.outcome ok outcome ∙ ap (λ (a : Accepted). length a.graph.channels) (sym same)

pub after-stream-requires-clause-each_channel : goal.after-stream-requires-clause-each_channel
after-stream-requires-clause-each_channel g c = each_channel g c

pub after-stream-requires-clause-each_told : goal.after-stream-requires-clause-each_told
after-stream-requires-clause-each_told g c = each_told g c

pub after-stream-requires-clause-as_many : goal.after-stream-requires-clause-as_many
after-stream-requires-clause-as_many g c just complete =
    subst (λ (a : Accepted). HaveAsMany (feeds_in c.in-Ok.outcome.left.items) a.graph.channels) (sym (same g c))
    (many_left (asked g c) c.in-Ok.outcome (ok g c) c.requires.fed.each_actor ((exact g c).0 just) (outcome g c) complete)

pub returns-in-Ok-clause-part : goal.returns-in-Ok-clause-part
returns-in-Ok-clause-part g c =
    let at : In-Ok g = (goal.at.returns-in-Ok-clause-part g c).In-Ok in
    stretch_of c.args.self c.after-stream.result.0 (feeds_in c.args.feeds.items) c.args.periods c.are_exact-is_exact.result c.in-Ok.outcome
    c.after-stream.result.1 (ok g at) c.requires.fed.each_actor (exact g at) (outcome g at)
    (subst (λ (a : Accepted). IsAfter a c.in-Ok.outcome c.are_exact-is_exact.result c.after-stream.result.0) (same g at) c.after-stream.ensures.stream)
    (subst (λ (s : StreamView). c.after-stream.result.0.totals ≡ map with_report (zip s.totals c.in-Ok.outcome.report.items)) c.self.view_is
    c.after-stream.ensures.totals)
    c.after-stream.ensures.ending c.after-stream.ensures.sinks c.after-stream.ensures.report

pub new-request-requires-clause-goes_on : goal.new-request-requires-clause-goes_on
new-request-requires-clause-goes_on g c =
    may_for c.self.inside.accepted c.args.periods c.requires.some_period
    (subst (λ (s : StreamView). HasFewFirings s.accepted c.args.periods) (sym c.self.view_is) c.requires.few_firings)
