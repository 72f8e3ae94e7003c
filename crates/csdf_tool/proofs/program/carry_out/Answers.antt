use Rattle.std.proofs.Common.{sym, ap, refl, ◌∙◌}
use Rattle.csdf_words.specs.CommandLine.{asked_view}
use Rattle.csdf_tool.specs.Carried.{flows_out, reads_input}
use Rattle.csdf_tool.proofs.CauseLemmas.{caused_as}
use Rattle.csdf_tool.proofs.EndLemmas.{carried_as, streamed_as}
use Rattle.csdf_run_files.proofs.RunLemmas.{on_ok}
use Rattle.csdf_tool.proofs.program.carry_out.Goals as goal

pub returns-in-Input-clause-carried : goal.returns-in-Input-clause-carried
returns-in-Input-clause-carried g c =
    carried_as _ c.play_file.result (asked_view c.args.request) (sym (ap asked_view c.in-Input.is)) (g.O.Outlet.written c.args.out.now) _ c.play_file.ensures.written

pub returns-in-Input-clause-caused : goal.returns-in-Input-clause-caused
returns-in-Input-clause-caused g c = caused_as _ c.play_file.result (asked_view c.args.request) (sym (ap asked_view c.in-Input.is)) _ _ c.play_file.ensures.caused

pub returns-in-Input-clause-input : goal.returns-in-Input-clause-input
returns-in-Input-clause-input g c = λ is failed. c.play_file.ensures.input refl failed

pub returns-in-Moves-clause-carried : goal.returns-in-Moves-clause-carried
returns-in-Moves-clause-carried g c =
    carried_as _ c.play_file-in-Moves.result (asked_view c.args.request) (sym (ap asked_view c.in-Moves.is)) (g.O.Outlet.written c.args.out.now) _ c.play_file-in-Moves.ensures.written

pub returns-in-Moves-clause-caused : goal.returns-in-Moves-clause-caused
returns-in-Moves-clause-caused g c = caused_as _ c.play_file-in-Moves.result (asked_view c.args.request) (sym (ap asked_view c.in-Moves.is)) _ _ c.play_file-in-Moves.ensures.caused

pub returns-in-Moves-clause-input : goal.returns-in-Moves-clause-input
returns-in-Moves-clause-input g c = λ is failed. c.play_file-in-Moves.ensures.input (sym (ap (λ r. reads_input (asked_view r)) c.in-Moves.is) ∙ is) failed

pub returns-in-Ask-clause-carried : goal.returns-in-Ask-clause-carried
returns-in-Ask-clause-carried g c =
    carried_as _ c.ask_file.result (asked_view c.args.request) (sym (ap asked_view c.in-Ask.is)) (g.O.Outlet.written c.args.out.now) _ c.ask_file.ensures.written

pub returns-in-Ask-clause-caused : goal.returns-in-Ask-clause-caused
returns-in-Ask-clause-caused g c = caused_as _ c.ask_file.result (asked_view c.args.request) (sym (ap asked_view c.in-Ask.is)) _ _ c.ask_file.ensures.caused

pub returns-in-Ask-clause-input : goal.returns-in-Ask-clause-input
returns-in-Ask-clause-input g c = λ is failed. c.ask_file.ensures.input (sym (ap (λ r. reads_input (asked_view r)) c.in-Ask.is) ∙ is) failed

pub returns-in-Explain-clause-carried : goal.returns-in-Explain-clause-carried
returns-in-Explain-clause-carried g c =
    carried_as _ c.explain_files.result (asked_view c.args.request) (sym (ap asked_view c.in-Explain.is)) (g.O.Outlet.written c.args.out.now) _ c.explain_files.ensures.written

pub returns-in-Explain-clause-caused : goal.returns-in-Explain-clause-caused
returns-in-Explain-clause-caused g c = caused_as _ c.explain_files.result (asked_view c.args.request) (sym (ap asked_view c.in-Explain.is)) _ _ c.explain_files.ensures.caused

pub returns-in-Explain-clause-input : goal.returns-in-Explain-clause-input
returns-in-Explain-clause-input g c = λ is failed. c.explain_files.ensures.input (sym (ap (λ r. reads_input (asked_view r)) c.in-Explain.is) ∙ is) failed

pub returns-in-Run-clause-carried : goal.returns-in-Run-clause-carried
returns-in-Run-clause-carried g c =
    carried_as _ c.run_files.result (asked_view c.args.request) (sym (ap asked_view c.in-Run.is)) (g.O.Outlet.written c.args.out.now) _ c.run_files.ensures.written

pub returns-in-Run-clause-caused : goal.returns-in-Run-clause-caused
returns-in-Run-clause-caused g c = caused_as _ c.run_files.result (asked_view c.args.request) (sym (ap asked_view c.in-Run.is)) _ _ c.run_files.ensures.ended

pub returns-in-Run-clause-input : goal.returns-in-Run-clause-input
returns-in-Run-clause-input g c = λ is failed. c.run_files.ensures.input (sym (ap (λ r. reads_input (asked_view r)) c.in-Run.is) ∙ is) failed

pub returns-in-Input-clause-streamed : goal.returns-in-Input-clause-streamed
returns-in-Input-clause-streamed g c =
    streamed_as _ c.play_file.result (asked_view c.args.request) (sym (ap asked_view c.in-Input.is)) _ (on_ok c.play_file.result _ tt)

pub returns-in-Moves-clause-streamed : goal.returns-in-Moves-clause-streamed
returns-in-Moves-clause-streamed g c =
    streamed_as _ c.play_file-in-Moves.result (asked_view c.args.request) (sym (ap asked_view c.in-Moves.is)) _ (on_ok c.play_file-in-Moves.result _ tt)

pub returns-in-Ask-clause-streamed : goal.returns-in-Ask-clause-streamed
returns-in-Ask-clause-streamed g c =
    streamed_as _ c.ask_file.result (asked_view c.args.request) (sym (ap asked_view c.in-Ask.is)) _ (on_ok c.ask_file.result _ tt)

pub returns-in-Explain-clause-streamed : goal.returns-in-Explain-clause-streamed
returns-in-Explain-clause-streamed g c =
    streamed_as _ c.explain_files.result (asked_view c.args.request) (sym (ap asked_view c.in-Explain.is)) _ (on_ok c.explain_files.result _ tt)

pub returns-in-Run-clause-streamed : goal.returns-in-Run-clause-streamed
returns-in-Run-clause-streamed g c =
    streamed_as _ c.run_files.result (asked_view c.args.request) (sym (ap asked_view c.in-Run.is)) _ (on_ok c.run_files.result _ tt)

pub returns-in-Stream-clause-carried : goal.returns-in-Stream-clause-carried
returns-in-Stream-clause-carried g c =
    carried_as _ c.stream_files.result (asked_view c.args.request) (sym (ap asked_view c.in-Stream.is)) (g.O.Outlet.written c.args.out.now) _ (on_ok c.stream_files.result _ tt)

pub returns-in-Stream-clause-streamed : goal.returns-in-Stream-clause-streamed
returns-in-Stream-clause-streamed g c =
    streamed_as _ c.stream_files.result (asked_view c.args.request) (sym (ap asked_view c.in-Stream.is)) _ c.stream_files.ensures.streamed

pub returns-in-Stream-clause-caused : goal.returns-in-Stream-clause-caused
returns-in-Stream-clause-caused g c =
    caused_as _ c.stream_files.result (asked_view c.args.request) (sym (ap asked_view c.in-Stream.is)) _ _ c.stream_files.ensures.stopped

pub returns-in-Stream-clause-input : goal.returns-in-Stream-clause-input
returns-in-Stream-clause-input g c = λ is failed. c.stream_files.ensures.input (sym (ap (λ r. reads_input (asked_view r)) c.in-Stream.is) ∙ is) failed

pub returns-in-Stream-clause-unwritten : goal.returns-in-Stream-clause-unwritten
returns-in-Stream-clause-unwritten g c = λ still. c.stream_files.ensures.unwritten (sym (ap (λ r. flows_out (asked_view r)) c.in-Stream.is) ∙ still)

pub returns-in-Stream-clause-unspoken : goal.returns-in-Stream-clause-unspoken
returns-in-Stream-clause-unspoken g c = λ still. c.stream_files.ensures.unspoken (sym (ap (λ r. flows_out (asked_view r)) c.in-Stream.is) ∙ still)
