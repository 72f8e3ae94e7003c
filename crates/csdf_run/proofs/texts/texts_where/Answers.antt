use Rattle.std.proofs.lemmas.Grind.{common_steps}
use Rattle.std.proofs.Common.{◌≡◌, Result, Ok, ap, subst, sym, ◌∙◌, arith}
use Rattle.std.specs.Prelude.{IfOk}
use Rattle.csdf_model.specs.Graph.{Graph}
use Rattle.csdf_floor.specs.declared.fault.RunFault.{RunFault}
use Rattle.csdf_floor.specs.declared.outcome.Outcome.{Outcome}
use Rattle.csdf_floor.specs.Outcome.{IsOutcome}
use Rattle.csdf_floor.specs.Report.{names_of, report_text}
use Rattle.csdf_floor.specs.Work.{feeds_in}
use Rattle.csdf_run.specs.Scripts.{kept_script}
use Rattle.csdf_run.specs.Texts.{sink_texts}
use Rattle.csdf_run.proofs.texts.texts_where.Goals as goal
use Rattle.csdf_run.proofs.texts.texts_where.Goals.{In_ok-outcome}

is_there : (c : In_ok-outcome) → c.args.outcome ≡ Ok c.in_ok-outcome.outcome
is_there c = grind (arith, common_steps)

pub returns-clause-told : goal.returns-clause-told
returns-clause-told c w same told =
    let at : In_ok-outcome = (goal.at.returns-clause-told c).In_ok-outcome in
    let o = c.in_ok-outcome.outcome in (
      o,
      record {
        outcome = subst (λ (r : Result Outcome RunFault). IfOk r (IsOutcome w)) (is_there at) told;
        ending = c.in_ok-texts.ensures.ending;
        sinks = c.in_ok-texts.ensures.sinks ∙ ap (λ (g : Graph). sink_texts g.actors (feeds_in o.sinks.items)) (sym same);
        report = c.in_ok-texts.ensures.report ∙ ap (λ (g : Graph). report_text (names_of g.channels) o.ending o.report.items) (sym same);
        channels = c.in_ok-texts.ensures.channels;
        journal = c.in_ok-texts.ensures.journal ∙ ap (λ (g : Graph). kept_script g o.journal) (sym same);
      },
    )
