use Rattle.std.proofs.Common.{◌∙◌, ap, option_map, sym}
use Rattle.clap.specs.Words.{found_of, rows_of}
use Rattle.clap.proofs.WalkLemmas.{first_value-rows}
use Rattle.csdf_words.proofs.CommandLemmas.{workers_given, workers_absent}
use Rattle.csdf_words.proofs.command.workers_of.Goals as goal

pub returns-in-Some-workers_in-clause-value : goal.returns-in-Some-workers_in-clause-value
returns-in-Some-workers_in-clause-value c =
    let found = c.get_str.ensures ∙ first_value-rows (found_of c.args.arguments.now) _ in
    sym c.in-Some-workers_in.is ∙ c.workers_in.ensures.value
    ∙ workers_given (rows_of (found_of c.args.arguments.now)) c.get_str.result c.in-Some.text c.in-Some.is found

pub returns-in-None-workers_in-clause-value : goal.returns-in-None-workers_in-clause-value
returns-in-None-workers_in-clause-value c =
    let found = c.get_str.ensures ∙ first_value-rows (found_of c.args.arguments.now) _ in
    sym c.in-None-workers_in.is ∙ c.workers_in.ensures.value
    ∙ workers_given (rows_of (found_of c.args.arguments.now)) c.get_str.result c.in-Some.text c.in-Some.is found

pub returns-in-None-workers_in-clause-why : goal.returns-in-None-workers_in-clause-why
returns-in-None-workers_in-clause-why c =
    let found = c.get_str.ensures ∙ first_value-rows (found_of c.args.arguments.now) _ in
    (sym c.workers_in.ensures.value ∙ c.in-None-workers_in.is, sym found ∙ ap (option_map (λ s. s.now)) c.in-Some.is)

pub returns-in-None-clause-value : goal.returns-in-None-clause-value
returns-in-None-clause-value c =
    let found = c.get_str.ensures ∙ first_value-rows (found_of c.args.arguments.now) _ in
    workers_absent (rows_of (found_of c.args.arguments.now)) c.get_str.result c.in-None.is found
