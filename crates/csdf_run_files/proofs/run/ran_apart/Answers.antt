use Rattle.std.proofs.Common.{map}
use Rattle.std.proofs.lemmas.Result.{IfErr-weaker}
use Rattle.csdf_model.specs.Graph.{actor_view}
use Rattle.csdf_words.specs.CommandLine.{order_view}
use Rattle.csdf_files.specs.Places.{listed_files}
use Rattle.csdf_files.proofs.DiskLemmas.{on_err}
use Rattle.csdf_files.proofs.FaultLemmas.{gives_none}
use Rattle.csdf_run_files.proofs.RunLemmas.{apart_as, kept_by_place, kept_by_texts, on_ok, only_apart_looks}
use Rattle.csdf_answers.proofs.ToldLemmas.{if_err_fault}
use Rattle.csdf_run_files.proofs.run.ran_apart.Goals as goal

pub returns-in_err-keep_apart-clause-told : goal.returns-in_err-keep_apart-clause-told
returns-in_err-keep_apart-clause-told g c = λ texts read. gives_none c.from_residual.result c.in_err-keep_apart.field-0.0 _ c.from_residual.ensures.1

pub returns-in_err-keep_apart-clause-sequential : goal.returns-in_err-keep_apart-clause-sequential
returns-in_err-keep_apart-clause-sequential g c = λ texts read. gives_none c.from_residual.result c.in_err-keep_apart.field-0.0 _ c.from_residual.ensures.1

pub returns-in_err-keep_apart-clause-refused : goal.returns-in_err-keep_apart-clause-refused
returns-in_err-keep_apart-clause-refused g c = λ texts read.
    let fault = c.in_err-keep_apart.field-0.0 in
    if_err_fault _ fault _ c.from_residual.ensures.1
    (kept_by_place (order_view c.args.order) c.args.graph texts _ _ fault (map actor_view c.actors.result.now) c.actors.ensures.value
    c.in_err-keep_apart.ensures.in_use)

pub returns-in_err-keep_apart-clause-only : goal.returns-in_err-keep_apart-clause-only
returns-in_err-keep_apart-clause-only g c = on_err _ _ c.in_err-keep_apart.ensures.only

pub returns-clause-apart : goal.returns-clause-apart
returns-clause-apart g c =
    on_ok c.ran_over.result _
    (apart_as (order_view c.args.order) c.args.graph _ _ (map actor_view c.actors.result.now) c.actors.ensures.value c.in_ok-keep_apart.ensures.apart)

pub returns-clause-refused : goal.returns-clause-refused
returns-clause-refused g c = λ texts read.
    IfErr-weaker c.ran_over.result _ _ (λ fault refused.
    kept_by_texts (order_view c.args.order) c.args.graph texts _ _ fault
    (apart_as (order_view c.args.order) c.args.graph _ _ (map actor_view c.actors.result.now) c.actors.ensures.value c.in_ok-keep_apart.ensures.apart) refused)
    (c.ran_over.ensures.refused texts read)

pub returns-clause-only : goal.returns-clause-only
returns-clause-only g c =
    on_err c.ran_over.result _
    (only_apart_looks _ _ (listed_files (order_view c.args.order) (map actor_view c.actors.result.now)) c.in_ok-keep_apart.ensures.apart)
