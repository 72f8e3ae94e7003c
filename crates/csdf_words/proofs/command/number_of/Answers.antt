use Rattle.std.proofs.Common.{◌∙◌}
use Rattle.clap.specs.Words.{found_of, rows_of}
use Rattle.clap.proofs.WalkLemmas.{first_value-rows}
use Rattle.csdf_words.proofs.CommandLemmas.{number_given, number_absent}
use Rattle.csdf_words.proofs.command.number_of.Goals as goal

pub returns-in-Some-clause-value : goal.returns-in-Some-clause-value
returns-in-Some-clause-value c =
    let found = c.get_str.ensures ∙ first_value-rows (found_of c.args.arguments.now) c.args.option.now in
    c.number_in.ensures.value
    ∙ number_given c.args.least c.args.most c.args.option.now (rows_of (found_of c.args.arguments.now)) c.get_str.result c.in-Some.text c.in-Some.is found

pub returns-in-None-clause-value : goal.returns-in-None-clause-value
returns-in-None-clause-value c =
    let found = c.get_str.ensures ∙ first_value-rows (found_of c.args.arguments.now) c.args.option.now in
    number_absent c.args.least c.args.most c.args.option.now (rows_of (found_of c.args.arguments.now)) c.get_str.result c.in-None.is found
