use Rattle.std.proofs.Common.{◌≡◌, Bool, ap, sym, subst, ◌∙◌, inr}
use Rattle.std.specs.Prelude.{IfErr, IfOk}
use Rattle.std.proofs.lemmas.Result.{IfErr-weaker, IfOk-weaker}
use Rattle.csdf_analysis.specs.Acceptance.{Accepted}
use Rattle.csdf_journal.specs.View.{is_kept}
use Rattle.csdf_floor.specs.Outcome.{IsOutcome}
use Rattle.csdf_floor.specs.Work.{Work, feeds_in}
use Rattle.csdf_run.specs.Texts.{IsGraphRefusal, texts_in, work_for}
use Rattle.csdf_run.specs.Causes.{IsCauseAmong}
use Rattle.csdf_run.proofs.FeedTexts.{as_sequential, can_be_run}
use Rattle.csdf_run.proofs.RunFaults.{is_run_cause, is_run_fault}
use Rattle.csdf_run.proofs.Lengths.{may_over}
use Rattle.csdf_run.proofs.RoomTexts.{same_in_any_room}
use Rattle.csdf_run.proofs.texts.run_and_hand_back.Goals as goal

pub new-request-requires-clause-fed : goal.new-request-requires-clause-fed
new-request-requires-clause-fed g c =
    can_be_run c.in-Ok.fed.accepted.graph (texts_in c.args.feeds.now) (feeds_in c.in-Ok.fed.feeds.items) c.in-Ok.ensures.read.tokens

pub new-request-requires-clause-goes_on : goal.new-request-requires-clause-goes_on
new-request-requires-clause-goes_on g c =
    may_over c.args.options.room c.args.graph c.args.options.how_long c.in-Ok.fed.accepted c.requires.goes_on c.in-Ok.ensures.read.in_room

pub returns-clause-run : goal.returns-clause-run
returns-clause-run g c =
    let a = c.in-Ok.fed.accepted in
    let w : Work = work_for a (feeds_in c.in-Ok.fed.feeds.items) c.new-request.ensures.work.0 c.args.options.firings in
    let same : w.accepted.graph ≡ c.graph.result.now =
    sym (c.graph.ensures.graph ∙ ap (λ (b : Accepted). b.graph) (c.outcome_of-fed.ensures.fed.accepted ∙ ap (λ (x : Work). x.accepted) c.new-request.ensures.work.2)) in
    let outcome : IfOk c.outcome_of-fed.result.outcome (IsOutcome w) =
    subst (λ (x : Work). IfOk c.outcome_of-fed.result.outcome (IsOutcome x)) c.new-request.ensures.work.2 c.outcome_of-fed.ensures.outcome in
    IfOk-weaker c.told_of-texts.result _ _ (λ texts told. record {
      accepted = a;
      feeds = feeds_in c.in-Ok.fed.feeds.items;
      periods = c.new-request.ensures.work.0;
      goes_on = c.new-request.ensures.work.1;
      outcome = told.0;
      read = c.in-Ok.ensures.read;
      told = told.1;
    }) (c.told_of-texts.ensures.told w same outcome)

pub returns-clause-sequential : goal.returns-clause-sequential
returns-clause-sequential g c =
    IfOk-weaker c.told_of-texts.result _ _
    (λ texts run. as_sequential c.args.options.room c.args.graph (texts_in c.args.feeds.now) c.args.options.how_long c.args.options.firings texts run)
    (returns-clause-run g c)

pub returns-clause-rooms : goal.returns-clause-rooms
returns-clause-rooms g c =
    IfOk-weaker c.told_of-texts.result _ _
    (λ texts run. same_in_any_room c.args.options.room c.args.graph (texts_in c.args.feeds.now) c.args.options.how_long c.args.options.firings texts
    c.requires.goes_on run)
    (returns-clause-run g c)

pub returns-clause-refused : goal.returns-clause-refused
returns-clause-refused g c =
    IfErr-weaker c.told_of-texts.result _ _
    (λ fault failed. subst (IsGraphRefusal c.args.options.room c.args.graph (texts_in c.args.feeds.now)) (sym failed.1)
    (c.in-Ok.fed.accepted, feeds_in c.in-Ok.fed.feeds.items, c.in-Ok.ensures.read))
    (is_run_fault c.outcome_of-fed.result.outcome c.told_of-texts.result c.told_of-texts.ensures.failed c.told_of-texts.ensures.memory)

pub returns-clause-cause : goal.returns-clause-cause
returns-clause-cause g c =
    let by : IfErr c.outcome_of-fed.result.outcome (IsCauseAmong c.args.options.workers) =
    subst (λ n. IfErr c.outcome_of-fed.result.outcome (IsCauseAmong n)) c.new-request.ensures.workers c.outcome_of-fed.ensures.cause in
    is_run_cause c.args.options.workers c.outcome_of-fed.result.outcome c.told_of-texts.result c.told_of-texts.ensures.failed c.told_of-texts.ensures.memory by

pub returns-clause-graph : goal.returns-clause-graph
returns-clause-graph g c =
    inr (
      c.in-Ok.fed.accepted,
      c.in-Ok.ensures.read.in_room,
      c.into_graph.ensures
          ∙ ap (λ (b : Accepted). b.graph) (c.outcome_of-fed.ensures.fed.accepted ∙ ap (λ (x : Work). x.accepted) c.new-request.ensures.work.2),
    )

pub returns-clause-kept : goal.returns-clause-kept
returns-clause-kept g c = c.told_of-texts.ensures.kept (is_kept c.args.options.keeping)
    (subst (λ (b : Bool). IfOk c.outcome_of-fed.result.outcome (λ o. o.journal.keeps ≡ b)) c.new-request.ensures.keeps c.outcome_of-fed.ensures.keeps)

pub returns-in-Err-clause-cause : goal.returns-in-Err-clause-cause
returns-in-Err-clause-cause g c = c.in-Err.ensures.cause c.args.options.workers
