use Rattle.std.proofs.Common.{◌<◌, length, set, ap, ◌∙◌, arith}
use Rattle.std.proofs.lemmas.Grind.{common_steps}
use Rattle.std.proofs.lemmas.List.{get_or_default}
use Rattle.csdf_analysis.proofs.AloneLemmas.{some_at}
use Rattle.csdf_analysis.proofs.RunLemmas.{firings_within}
use Rattle.csdf_analysis.proofs.SearchLemmas.{search_first, search_can, search_next, search_least}
use Rattle.csdf_analysis.proofs.calls.raise.least_bound.Goals as goal

pub loop-run-init : goal.loop-run-init
loop-run-init c =
    let some = some_at c.args.net.now.channels c.args.number c.requires.exists in
    record {
      run = c.go_on.ensures.run;
      stalled = c.go_on.ensures.stalled;
      search = search_first _ _ c.args.bounds.now _ c.args.number c.args.from some.0 c.requires.completes some.1 (c.requires.fits some.0 some.1) c.requires.low
          (c.go_on.ensures.bounds ∙ c.in_ok-run.ensures.bounds ∙ ap (λ ks. set ks c.args.number c.args.from) c.in_ok-start.ensures);
      waiting = c.go_on.ensures.waiting;
    }

pub raise-requires-clause-can : goal.raise-requires-clause-can
raise-requires-clause-can c = search_can _ _ c.args.bounds.now _ _ c.requires.completes c.loop-run.invariant.search

pub loop-run-preserved : goal.loop-run-preserved
loop-run-preserved c =
    let some = some_at c.args.net.now.channels c.args.number c.requires.exists in
    let lt : c.args.number < length c.loop-run.run.bounds.items = omega (arith, c.requires.exists, c.loop-run.invariant.run.at.each_bound) in
    record {
      run = c.go_on-in-loop-run.ensures.run;
      stalled = c.go_on-in-loop-run.ensures.stalled;
      search = search_next _ _ c.args.bounds.now _ _ _ c.args.number some.0 lt some.1 c.loop-run.invariant.search c.raise.ensures.bounds
          c.raise.ensures.raised c.raise.ensures.low c.go_on-in-loop-run.ensures.bounds;
      waiting = c.go_on-in-loop-run.ensures.waiting;
    }

pub returns-clause-firings : goal.returns-clause-firings
returns-clause-firings c =
    let most = firings_within _ _ _ _ _ _ c.loop-run.invariant.run.at in
    omega (arith, most, c.total.ensures.total, c.loop-run-test.false)

pub returns-clause-least : goal.returns-clause-least
returns-clause-least c =
    let most = firings_within _ _ _ _ _ _ c.loop-run.invariant.run.at in
    let lt : c.args.number < length c.loop-run.run.bounds.items = omega (arith, c.requires.exists, c.loop-run.invariant.run.at.each_bound) in
    search_least _ _ c.args.bounds.now _ _ _ c.loop-run.run.firings c.args.number _ c.loop-run.invariant.search c.loop-run.invariant.run.at
    (omega (arith, most, c.total.ensures.total, c.loop-run-test.false))
    (c.index.ensures ∙ get_or_default c.loop-run.run.bounds.items c.args.number c.index.result.now 0 lt)

pub index_mut-requires : goal.index_mut-requires
index_mut-requires c = grind (arith, common_steps)

pub new-requires : goal.new-requires
new-requires c = grind (arith, common_steps)

pub go_on-requires-clause-run : goal.go_on-requires-clause-run
go_on-requires-clause-run c = c.in_ok-run.ensures.run

pub go_on-requires-clause-waiting : goal.go_on-requires-clause-waiting
go_on-requires-clause-waiting c = record {
  actors = λ a is. (let lt = c.all-waiting.ensures.actors a is in omega (arith, lt, c.actors.ensures.count));
  able = λ b go. c.all-waiting.ensures.all b (omega (arith, go.able.exists, c.in_ok-run.ensures.run.at.each_actor, c.actors.ensures.count));
}

pub raise-requires-clause-exists : goal.raise-requires-clause-exists
raise-requires-clause-exists c = c.requires.exists

pub raise-requires-clause-run : goal.raise-requires-clause-run
raise-requires-clause-run c = c.loop-run.invariant.run

pub raise-requires-clause-stalled : goal.raise-requires-clause-stalled
raise-requires-clause-stalled c = c.loop-run.invariant.stalled

pub raise-requires-clause-left : goal.raise-requires-clause-left
raise-requires-clause-left c = omega (arith, c.loop-run-test.true, c.total.ensures.total)

pub raise-requires-clause-low : goal.raise-requires-clause-low
raise-requires-clause-low c = c.loop-run.invariant.search.low

pub raise-requires-clause-actors : goal.raise-requires-clause-actors
raise-requires-clause-actors c = c.loop-run.invariant.waiting.actors

pub go_on-requires-in-loop-run-clause-run : goal.go_on-requires-in-loop-run-clause-run
go_on-requires-in-loop-run-clause-run c = c.raise.ensures.run

pub go_on-requires-in-loop-run-clause-waiting : goal.go_on-requires-in-loop-run-clause-waiting
go_on-requires-in-loop-run-clause-waiting c = c.raise.ensures.waiting

pub loop-run-smaller : goal.loop-run-smaller
loop-run-smaller c = omega (arith, c.raise.ensures.firings, c.go_on-in-loop-run.ensures.firings, c.loop-run-test.true, c.total.ensures.total)

pub index-requires : goal.index-requires
index-requires c = omega (arith, c.requires.exists, c.loop-run.invariant.run.at.each_bound, c.loop-run.run.bounds.ok.0)
