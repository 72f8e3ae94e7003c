use Rattle.std.proofs.Common.{List, subst, refl, ◌≡◌, inl, inr}
use Rattle.csdf_answers.specs.declared.fault.ToolFault.TheVariants as fault
use Rattle.csdf_answers.specs.declared.fault.DeviceName.TheVariants.{Output}
use Rattle.std.specs.Io.KnownBytes.{Appends}
use Rattle.csdf_files.proofs.DiskLemmas.{asks_more}
use Rattle.csdf_words.specs.CommandLine.{order_view}
use Rattle.csdf_run_files.specs.Running.{IsCutShort}
use Rattle.csdf_files.specs.Files.{Written}
use Rattle.csdf_run_files.proofs.RunLemmas.{cut_ends, ends_for_memory, files_alike, only_asks, puts_alike, report_alike}
use Rattle.csdf_answers.proofs.ToldLemmas.{if_err_fault}
use Rattle.csdf_run_files.proofs.run.run_files.Goals as goal

pub returns-in_err-ran-clause-ended : goal.returns-in_err-ran-clause-ended
returns-in_err-ran-clause-ended g c = if_err_fault _ c.in_err-ran.field-0.0 _ c.from_residual.ensures.1 (inl c.in_err-ran.ensures.stopped)

pub returns-in_err-report-clause-ended : goal.returns-in_err-report-clause-ended
returns-in_err-report-clause-ended g c =
    let ran = c.in_ok-ran.ensures.ran in
    let only = only_asks _ _ (order_view c.args.order) ran.0 ran.1 ran.2 ran.5 ran.6 ran.7 in
    ends_for_memory _ (order_view c.args.order) (g.I.Intake.left c.args.reader.now) _ _ _ c.from_residual-in_err-report.ensures.1 only

pub returns-in_err-put_sinks-clause-failed : goal.returns-in_err-put_sinks-clause-failed
returns-in_err-put_sinks-clause-failed g c = λ e.
    let told = rw e at c.from_residual-in_err-put_sinks.ensures in
    let same : c.in_err-put_sinks.field-0.0 ≡ fault.Device Output = cc in
    absurd (cut_ends _ _ c.in_err-put_sinks.field-0.0 c.in_err-put_sinks.ensures.cut.2 same)

pub returns-in_err-put_sinks-clause-ended : goal.returns-in_err-put_sinks-clause-ended
returns-in_err-put_sinks-clause-ended g c =
    let ran = c.in_ok-ran.ensures.ran in
    let cut = c.in_err-put_sinks.ensures.cut in
    if_err_fault _ c.in_err-put_sinks.field-0.0 _ c.from_residual-in_err-put_sinks.ensures.1
    (inr (inl (record {
      graph = ran.0;
      bytes = ran.1;
      feeds = ran.2;
      looks = ran.5;
      outcome = c.in_ok-ran.ran.outcome;
      puts = cut.0;
      apart = ran.6;
      runs = ran.3;
      files = asks_more _ _ _ _ _ ran.7 cut.1;
      cut = subst (λ (files : List Written). IsCutShort files cut.0 c.in_err-put_sinks.field-0.0)
          (files_alike (order_view c.args.order) ran.0 c.in_ok-ran.ran.graph c.in_ok-ran.ran.outcome ran.4) cut.2;
    })))

pub returns-in-Ok-clause-written : goal.returns-in-Ok-clause-written
returns-in-Ok-clause-written g c =
    let ran = c.in_ok-ran.ensures.ran in
    record {
      graph = ran.0;
      bytes = ran.1;
      feeds = ran.2;
      looks = ran.5;
      outcome = c.in_ok-ran.ran.outcome;
      apart = ran.6;
      runs = ran.3;
      files = puts_alike _ _ _ (order_view c.args.order) ran.0 c.in_ok-ran.ran.graph ran.1 ran.2 ran.5 c.in_ok-ran.ran.outcome ran.4 ran.7 c.in_ok-put_sinks.ensures.put;
      report = c.in_ok-report.report.items;
      tells = report_alike c.args.order.form ran.0 c.in_ok-ran.ran.graph c.in_ok-ran.ran.outcome c.in_ok-report.report.items ran.4 c.in_ok-report.ensures;
      written = subst (Appends _ _) c.deref.ensures.value c.in-Ok.ensures.written;
    }

pub returns-clause-ended : goal.returns-clause-ended
returns-clause-ended g c =
    let ran = c.in_ok-ran.ensures.ran in
    inr (inr (
      refl,
      c.in-Err.ensures.marked,
      record {
        graph = ran.0;
        bytes = ran.1;
        feeds = ran.2;
        looks = ran.5;
        outcome = c.in_ok-ran.ran.outcome;
        apart = ran.6;
        runs = ran.3;
        files = puts_alike _ _ _ (order_view c.args.order) ran.0 c.in_ok-ran.ran.graph ran.1 ran.2 ran.5 c.in_ok-ran.ran.outcome ran.4 ran.7
            c.in_ok-put_sinks.ensures.put;
      },
    ))
