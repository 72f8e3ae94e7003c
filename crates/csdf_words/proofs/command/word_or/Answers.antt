use Rattle.std.proofs.Common.{ap, ◌∙◌}
use Rattle.std.specs.Prelude.{unwrap_or}
use Rattle.clap.specs.Words.{found_of}
use Rattle.clap.proofs.WalkLemmas.{first_value-rows}
use Rattle.csdf_words.proofs.CommandLemmas.{text_or}
use Rattle.csdf_words.proofs.command.word_or.Goals as goal

pub returns : goal.returns
returns c =
    let given = c.get_str.ensures ∙ first_value-rows (found_of c.args.arguments.now) c.args.place.now in
    text_or c.get_str.result _ _ c.unwrap_or.ensures ∙ ap (λ o. unwrap_or o c.args.other.now) given
