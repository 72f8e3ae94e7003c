use Rattle.std.proofs.Common.{◌≡◌, ℕ, List, Option, ap, inr, option_map, subst, sym, true, ◌∙◌}
use Rattle.std.specs.Io.KnownBytes.{Appends}
use Rattle.std.specs.Prelude.{◌⊎◌}
use Rattle.csdf_answers.proofs.ToldLemmas.{if_err_fault}
use Rattle.csdf_words.specs.CommandLine.{folders_view, stream_view}
use Rattle.csdf_flows.specs.Flows.{IsFlow, standard_flow}
use Rattle.csdf_flows.proofs.StreamLemmas.{fits_standard, stops_standard, told_or_mute}
use Rattle.csdf_flows.proofs.stream.stream_standard.Goals as goal

pub flow_standard-requires-clause-sources : goal.flow_standard-requires-clause-sources
flow_standard-requires-clause-sources g c = λ κs within.
    let found = c.in_ok-accepted.ensures.accepted in
    (fits_standard (stream_view c.args.order) found.0 c.in_ok-accepted.accepted (ap (option_map folders_view) c.requires) found.2).0

pub flow_standard-requires-clause-sinks : goal.flow_standard-requires-clause-sinks
flow_standard-requires-clause-sinks g c = λ κs within.
    let found = c.in_ok-accepted.ensures.accepted in
    (fits_standard (stream_view c.args.order) found.0 c.in_ok-accepted.accepted (ap (option_map folders_view) c.requires) found.2).1

pub returns-in_err-report-clause-stopped : goal.returns-in_err-report-clause-stopped
returns-in_err-report-clause-stopped g c =
    let fault = c.in_err-report.field-0.0 in
    if_err_fault _ fault _ c.from_residual-in_err-report.ensures.1
    (inr (inr (inr (stops_standard (stream_view c.args.order) _ _ _ c.in_ok-accepted.accepted _ (ap g.I.Intake.left (c.in_ok-accepted.ensures.untouched (sym c.eq.ensures ∙ c.if-eq.false)))
    c.in_ok-accepted.ensures.accepted fault c.in_err-report.ensures.stopped))))

pub returns-clause-streamed : goal.returns-clause-streamed
returns-clause-streamed g c =
    let found = c.in_ok-accepted.ensures.accepted in
    record {
      bytes = found.0;
      accepted = c.in_ok-accepted.accepted;
      report = c.in_ok-report.report.items;
      given = found.1;
      is = found.2;
      flows =
          subst (λ (left : Option (List ℕ)). IsFlow (stream_view c.args.order) c.in_ok-accepted.accepted
          (standard_flow c.in_ok-accepted.accepted.graph left (g.I.Intake.left c.flow_standard.new.reader) (g.O.Outlet.written c.args.out.now)
          (g.O.Outlet.written c.flow_standard.new.out)) c.in_ok-report.report.items)
          (ap g.I.Intake.left (c.in_ok-accepted.ensures.untouched (sym c.eq.ensures ∙ c.if-eq.false))) c.in_ok-report.ensures.flows;
      told =
          subst (λ (text : List ℕ). Appends (g.E.Outlet.written c.args.err.now) (g.E.Outlet.written c.write_bytes.new.writer) text
          ⊎ (g.E.Outlet.failed c.write_bytes.new.writer ≡ true)) c.deref.ensures.value
          (told_or_mute c.write_bytes.result c.write_bytes.ensures.written c.write_bytes.ensures.marked);
    }
