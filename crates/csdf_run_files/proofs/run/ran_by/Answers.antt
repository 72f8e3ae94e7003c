use Rattle.std.proofs.Common.{map, refl, sym, subst, inl}
use Rattle.std.proofs.lemmas.Result.{IfErr-weaker}
use Rattle.csdf_model.specs.Graph.{actor_view}
use Rattle.csdf_words.specs.CommandLine.{order_view}
use Rattle.csdf_files.specs.GraphFiles.{IsNamed}
use Rattle.csdf_answers.specs.Faults.{fault_of}
use Rattle.csdf_answers.specs.declared.fault.DeviceName.TheVariants.{Input}
use Rattle.csdf_answers.specs.declared.fault.ToolFault.TheVariants.{Device}
use Rattle.csdf_run_files.proofs.FaultLemmas.{err_as}
use Rattle.csdf_files.proofs.FaultLemmas.{gives_none, no_fault}
use Rattle.csdf_run_files.proofs.RunLemmas.{both_errs, graph_ends, is_some-map, lacks_ends, kept_ends, ran_of_file, reads_asked, stops_by_feed, stops_by_graph, stops_by_run}
use Rattle.csdf_run_files.proofs.TokenLemmas.{read_as}
use Rattle.csdf_answers.proofs.ToldLemmas.{if_err_fault}
use Rattle.csdf_run_files.proofs.run.ran_by.Goals as goal

pub returns-in_err-bytes-clause-stopped : goal.returns-in_err-bytes-clause-stopped
returns-in_err-bytes-clause-stopped g c =
    if_err_fault _ c.in_err-bytes.field-0.0 _ c.from_residual.ensures.1
    (record { only = c.in_err-bytes.ensures.unread; why = inl c.in_err-bytes.ensures.missing })

pub returns-in_err-bytes-clause-input : goal.returns-in_err-bytes-clause-input
returns-in_err-bytes-clause-input g c = λ is failed.
    let told = (c.in_err-bytes.ensures.device is).1 failed in
    err_as _ c.in_err-bytes.field-0.0 (Device Input) c.from_residual.ensures.1 (cc)

pub returns-in_err-graph-clause-stopped : goal.returns-in_err-graph-clause-stopped
returns-in_err-graph-clause-stopped g c =
    let left = g.I.Intake.left c.args.reader.now in
    let why = c.in_err-graph.field-0.0 in
    if_err_fault _ (fault_of why) _ c.from_residual-in_err-graph.ensures.1
    (stops_by_graph (order_view c.args.order) left _ c.in_ok-bytes.bytes.items c.deref.result.now (sym c.deref.ensures.value) c.in_ok-bytes.ensures.named
    (fault_of why) _ _ c.in_ok-bytes.ensures.read why c.in_err-graph.ensures refl)

pub returns-in_err-feeds-clause-stopped : goal.returns-in_err-feeds-clause-stopped
returns-in_err-feeds-clause-stopped g c =
    let fault = c.in_err-feeds.field-0.0 in
    let left = g.I.Intake.left c.args.reader.now in
    if_err_fault _ fault _ c.from_residual-in_err-feeds.ensures.1
    (stops_by_feed (order_view c.args.order) left _ c.in_ok-bytes.bytes.items c.deref.result.now (sym c.deref.ensures.value) c.in_ok-bytes.ensures.named fault
    _ _ _ c.in_ok-bytes.ensures.read c.in_ok-graph.graph c.in_ok-graph.ensures c.in_err-feeds.ensures.only (map actor_view c.actors.result.now)
    c.actors.ensures.value c.in_err-feeds.ensures.missing)

pub returns-clause-stopped : goal.returns-clause-stopped
returns-clause-stopped g c =
    let left = g.I.Intake.left c.args.reader.now in
    let texts = c.in_ok-feeds.ensures.read.0 in
    let all = c.in_ok-feeds.ensures.read.1 in
    let read = read_as c.in_ok-graph.graph (map actor_view c.actors.result.now) texts c.in_ok-feeds.feeds c.actors.ensures.value c.in_ok-feeds.ensures.read.2 in
    IfErr-weaker c.ran_apart.result _ _ (λ fault both.
    stops_by_run (order_view c.args.order) left _ c.in_ok-bytes.bytes.items c.deref.result.now (sym c.deref.ensures.value) c.in_ok-bytes.ensures.named fault
    _ _ _ c.in_ok-bytes.ensures.read c.in_ok-graph.graph c.in_ok-graph.ensures (map actor_view c.actors.result.now) c.actors.ensures.value
    texts texts refl all.asked all.each _ both.0 both.1) (both_errs c.ran_apart.result _ _ c.ran_apart.ensures.only (c.ran_apart.ensures.refused texts read))

pub returns-clause-ran : goal.returns-clause-ran
returns-clause-ran g c =
    let seen = c.deref.result.now in
    let graph = c.in_ok-graph.graph in
    let left = g.I.Intake.left c.args.reader.now in
    let texts = c.in_ok-feeds.ensures.read.0 in
    let all = c.in_ok-feeds.ensures.read.1 in
    let read = read_as graph (map actor_view c.actors.result.now) texts c.in_ok-feeds.feeds c.actors.ensures.value c.in_ok-feeds.ensures.read.2 in
    let named = subst (λ bytes. IsNamed c.args.order.graph.now left bytes) (sym c.deref.ensures.value) c.in_ok-bytes.ensures.named in
    let asked = reads_asked (order_view c.args.order) graph c.in_ok-bytes.bytes.items seen (map actor_view c.actors.result.now)
    texts texts _ _ _ c.in_ok-bytes.ensures.read all.asked (sym c.deref.ensures.value) c.actors.ensures.value refl in
    ran_of_file (order_view c.args.order) left graph seen texts _ _ _ _ c.ran_apart.result named c.in_ok-graph.ensures asked
    (is_some-map c.args.order.journal) (c.ran_apart.ensures.told texts read) (c.ran_apart.ensures.sequential texts read) c.ran_apart.ensures.kept
    c.ran_apart.ensures.alike c.ran_apart.ensures.apart

pub ran_apart-requires-clause-read : goal.ran_apart-requires-clause-read
ran_apart-requires-clause-read g c = λ κs within. (
  c.in_ok-feeds.ensures.read.0,
  read_as c.in_ok-graph.graph (map actor_view c.actors.result.now) c.in_ok-feeds.ensures.read.0 c.in_ok-feeds.feeds c.actors.ensures.value
      c.in_ok-feeds.ensures.read.2,
)

pub returns-in_err-bytes-clause-ran : goal.returns-in_err-bytes-clause-ran
returns-in_err-bytes-clause-ran g c = gives_none c.from_residual.result c.in_err-bytes.field-0.0 _ c.from_residual.ensures.1

pub returns-in_err-bytes-clause-other : goal.returns-in_err-bytes-clause-other
returns-in_err-bytes-clause-other g c = if_err_fault _ c.in_err-bytes.field-0.0 _ c.from_residual.ensures.1 c.in_err-bytes.ensures.other

pub returns-in_err-graph-clause-ran : goal.returns-in_err-graph-clause-ran
returns-in_err-graph-clause-ran g c = gives_none c.from_residual-in_err-graph.result (fault_of c.in_err-graph.field-0.0) _ c.from_residual-in_err-graph.ensures.1

pub returns-in_err-graph-clause-input : goal.returns-in_err-graph-clause-input
returns-in_err-graph-clause-input g c = λ is failed.
    absurd (no_fault ((c.in_ok-bytes.ensures.device is).1 failed))

pub returns-in_err-graph-clause-other : goal.returns-in_err-graph-clause-other
returns-in_err-graph-clause-other g c =
    let why = c.in_err-graph.field-0.0 in
    if_err_fault _ (fault_of why) _ c.from_residual-in_err-graph.ensures.1 (graph_ends why)

pub returns-in_err-feeds-clause-ran : goal.returns-in_err-feeds-clause-ran
returns-in_err-feeds-clause-ran g c = gives_none c.from_residual-in_err-feeds.result c.in_err-feeds.field-0.0 _ c.from_residual-in_err-feeds.ensures.1

pub returns-in_err-feeds-clause-input : goal.returns-in_err-feeds-clause-input
returns-in_err-feeds-clause-input g c = λ is failed.
    absurd (no_fault ((c.in_ok-bytes.ensures.device is).1 failed))

pub returns-in_err-feeds-clause-other : goal.returns-in_err-feeds-clause-other
returns-in_err-feeds-clause-other g c =
    let fault = c.in_err-feeds.field-0.0 in
    if_err_fault _ fault _ c.from_residual-in_err-feeds.ensures.1
    (lacks_ends _ _ c.args.order.folder.now (map actor_view c.actors.result.now) fault c.in_err-feeds.ensures.missing)

pub returns-clause-input : goal.returns-clause-input
returns-clause-input g c = λ is failed.
    absurd (no_fault ((c.in_ok-bytes.ensures.device is).1 failed))

pub returns-clause-other : goal.returns-clause-other
returns-clause-other g c =
    let texts = c.in_ok-feeds.ensures.read.0 in
    let read = read_as c.in_ok-graph.graph (map actor_view c.actors.result.now) texts c.in_ok-feeds.feeds c.actors.ensures.value c.in_ok-feeds.ensures.read.2 in
    IfErr-weaker c.ran_apart.result _ _ (λ fault kept. kept_ends (order_view c.args.order) c.in_ok-graph.graph texts _ _ fault kept)
    (c.ran_apart.ensures.refused texts read)
