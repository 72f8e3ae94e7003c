use Rattle.std.proofs.Common.{◌≡◌, Bool, ap, inr, subst, ◌∙◌}
use Rattle.std.specs.Prelude.{IfErr, IfOk}
use Rattle.std.proofs.lemmas.Result.{IfOk-weaker}
use Rattle.csdf_analysis.specs.Acceptance.{Accepted}
use Rattle.csdf_floor.specs.Outcome.{IsOutcome}
use Rattle.csdf_floor.specs.Work.{Work, feeds_in}
use Rattle.csdf_run.specs.Texts.{work_for}
use Rattle.csdf_run.specs.Tokens.{IsGraphRun, IsTokensCause, IsTokensRefusal}
use Rattle.csdf_run.specs.Causes.{IsWantAmong}
use Rattle.csdf_run.proofs.FeedTexts.{can_be_run, run_as_sequential}
use Rattle.csdf_run.proofs.Lengths.{may_over}
use Rattle.csdf_run.proofs.RoomTexts.{run_same_in_any_room}
use Rattle.csdf_run.proofs.TokenRuns.{told_err, told_ok, where_err}
use Rattle.csdf_run.proofs.tokens.run_tokens.Goals as goal

pub new-request-requires-clause-fed : goal.new-request-requires-clause-fed
new-request-requires-clause-fed g c =
    let texts = c.requires.read.0 in
    can_be_run c.in-Ok.fed.accepted.graph texts (feeds_in c.in-Ok.fed.feeds.items) (c.in-Ok.ensures.fed texts c.requires.read.1).tokens

pub new-request-requires-clause-goes_on : goal.new-request-requires-clause-goes_on
new-request-requires-clause-goes_on g c =
    may_over c.args.options.room c.args.graph c.args.options.how_long c.in-Ok.fed.accepted c.requires.goes_on
    (c.in-Ok.ensures.fed c.requires.read.0 c.requires.read.1).in_room

pub returns-clause-run : goal.returns-clause-run
returns-clause-run g c = λ texts read.
    let a = c.in-Ok.fed.accepted in
    let w : Work = work_for a (feeds_in c.in-Ok.fed.feeds.items) c.new-request.ensures.work.0 c.args.options.firings in
    let outcome : IfOk c.watched_outcome_of-fed.result.outcome (IsOutcome w) =
    subst (λ (x : Work). IfOk c.watched_outcome_of-fed.result.outcome (IsOutcome x)) c.new-request.ensures.work.2 c.watched_outcome_of-fed.ensures.outcome in
    let run : IfOk c.watched_outcome_of-fed.result.outcome (IsGraphRun c.args.options.room c.args.graph texts c.args.options.how_long c.args.options.firings) =
    IfOk-weaker c.watched_outcome_of-fed.result.outcome _ _ (λ o is. record {
      accepted = a;
      feeds = feeds_in c.in-Ok.fed.feeds.items;
      periods = c.new-request.ensures.work.0;
      goes_on = c.new-request.ensures.work.1;
      read = c.in-Ok.ensures.fed texts read;
      outcome = is;
    }) outcome in
    told_ok c.watched_outcome_of-fed.result.outcome c.told_of.result c.told_of.ensures.told c.told_of.ensures.failed _ run

pub returns-clause-sequential : goal.returns-clause-sequential
returns-clause-sequential g c = λ texts read.
    IfOk-weaker c.told_of.result _ _
    (λ o run. run_as_sequential c.args.options.room c.args.graph texts c.args.options.how_long c.args.options.firings o run) (returns-clause-run g c texts read)

pub returns-clause-rooms : goal.returns-clause-rooms
returns-clause-rooms g c = λ texts read.
    IfOk-weaker c.told_of.result _ _
    (λ o run. run_same_in_any_room c.args.options.room c.args.graph texts c.args.options.how_long c.args.options.firings o c.requires.goes_on run)
    (returns-clause-run g c texts read)

pub returns-clause-kept : goal.returns-clause-kept
returns-clause-kept g c =
    told_ok c.watched_outcome_of-fed.result.outcome c.told_of.result c.told_of.ensures.told c.told_of.ensures.failed _
    (subst (λ (b : Bool). IfOk c.watched_outcome_of-fed.result.outcome (λ o. o.journal.keeps ≡ b)) c.new-request.ensures.keeps c.watched_outcome_of-fed.ensures.keeps)

pub returns-clause-refused : goal.returns-clause-refused
returns-clause-refused g c = λ texts read.
    told_err c.watched_outcome_of-fed.result.outcome c.told_of.result c.told_of.ensures.told c.told_of.ensures.failed (λ _. Unit {0})
    (IsTokensRefusal c.args.options.room c.args.graph texts)
    (λ why _. (c.in-Ok.fed.accepted, feeds_in c.in-Ok.fed.feeds.items, c.in-Ok.ensures.fed texts read)) (where_err c.watched_outcome_of-fed.result.outcome)

pub returns-clause-cause : goal.returns-clause-cause
returns-clause-cause g c =
    let by : IfErr c.watched_outcome_of-fed.result.outcome (IsWantAmong c.args.options.workers) =
    subst (λ n. IfErr c.watched_outcome_of-fed.result.outcome (IsWantAmong n)) c.new-request.ensures.workers c.watched_outcome_of-fed.ensures.cause in
    told_err c.watched_outcome_of-fed.result.outcome c.told_of.result c.told_of.ensures.told c.told_of.ensures.failed (IsWantAmong c.args.options.workers)
    (IsTokensCause c.args.options.workers) (λ why is. is) by

pub returns-clause-graph : goal.returns-clause-graph
returns-clause-graph g c =
    inr (
      c.in-Ok.fed.accepted,
      (c.in-Ok.ensures.fed c.requires.read.0 c.requires.read.1).in_room,
      c.into_graph.ensures
          ∙ ap (λ (b : Accepted). b.graph) (c.watched_outcome_of-fed.ensures.fed.accepted ∙ ap (λ (x : Work). x.accepted) c.new-request.ensures.work.2),
    )

pub returns-in-Err-clause-cause : goal.returns-in-Err-clause-cause
returns-in-Err-clause-cause g c = c.in-Err.ensures.cause c.args.options.workers
