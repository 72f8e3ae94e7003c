use Rattle.std.proofs.Common.{◌∙◌}
use Rattle.std.proofs.lemmas.Result.{IfErr-weaker}
use Rattle.clap.specs.Words.{found_of, rows_of}
use Rattle.csdf_words.specs.CommandLine.{AskForNothing}
use Rattle.csdf_words.proofs.CommandLemmas.{asked_met, rows_met}
use Rattle.csdf_words.proofs.command.asked.Goals as goal

pub returns-in-Some-clause-asked : goal.returns-in-Some-clause-asked
returns-in-Some-clause-asked c =
    c.asked_of.ensures.asked
    ∙ asked_met c.args.matches.now _ (rows_of (found_of c.in-Some.arguments.now)) c.in-Some.ensures.name c.in-Some.ensures.rows

pub returns-in-Some-clause-why : goal.returns-in-Some-clause-why
returns-in-Some-clause-why c =
    IfErr-weaker c.asked_of.result _ _
    (λ why h. rows_met c.args.matches.now (rows_of (found_of c.in-Some.arguments.now)) (λ rows. AskForNothing rows why) c.in-Some.ensures.rows h)
    c.asked_of.ensures.why
