use Rattle.std.proofs.Common.{◌∙◌, ap, option_map, sym}
use Rattle.clap.specs.Words.{found_of, rows_of}
use Rattle.clap.proofs.WalkLemmas.{first_value-rows}
use Rattle.csdf_words.proofs.CommandLemmas.{room_given, room_absent}
use Rattle.csdf_words.proofs.command.room_of.Goals as goal

pub returns-in-Some-room_in-clause-value : goal.returns-in-Some-room_in-clause-value
returns-in-Some-room_in-clause-value c =
    let found = c.get_str.ensures ∙ first_value-rows (found_of c.args.arguments.now) _ in
    sym c.in-Some-room_in.is ∙ c.room_in.ensures.value
    ∙ room_given c.args.absent (rows_of (found_of c.args.arguments.now)) c.get_str.result c.in-Some.text c.in-Some.is found

pub returns-in-None-room_in-clause-value : goal.returns-in-None-room_in-clause-value
returns-in-None-room_in-clause-value c =
    let found = c.get_str.ensures ∙ first_value-rows (found_of c.args.arguments.now) _ in
    sym c.in-None-room_in.is ∙ c.room_in.ensures.value
    ∙ room_given c.args.absent (rows_of (found_of c.args.arguments.now)) c.get_str.result c.in-Some.text c.in-Some.is found

pub returns-in-None-room_in-clause-text : goal.returns-in-None-room_in-clause-text
returns-in-None-room_in-clause-text c =
    let found = c.get_str.ensures ∙ first_value-rows (found_of c.args.arguments.now) _ in
    (sym c.room_in.ensures.value ∙ c.in-None-room_in.is, sym found ∙ ap (option_map (λ s. s.now)) c.in-Some.is)

pub returns-in-None-clause-value : goal.returns-in-None-clause-value
returns-in-None-clause-value c =
    let found = c.get_str.ensures ∙ first_value-rows (found_of c.args.arguments.now) _ in
    room_absent c.args.absent (rows_of (found_of c.args.arguments.now)) c.get_str.result c.in-None.is found
