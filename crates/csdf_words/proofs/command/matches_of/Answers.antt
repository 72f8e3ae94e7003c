use Rattle.std.proofs.Common.{map, ap, subst, ◌∙◌, string_bytes}
use Rattle.std.proofs.lemmas.Result.{IfErr-weaker, IfOk-weaker}
use Rattle.clap.specs.Words.{App, fault_of, is_simple, is_simple_and_free, subcommand_of, takes, FailsBy}
use Rattle.csdf_words.specs.CommandLine.{format_names}
use Rattle.csdf_words.proofs.ProgramLemmas.{fault_alike, is_free, is_plain, subcommand_alike, takes_alike}
use Rattle.csdf_words.proofs.command.matches_of.Goals as goal

pub returns-clause-met : goal.returns-clause-met
returns-clause-met c =
    let is = c.in_ok-program.ensures in
    IfOk-weaker c.try_get_matches_from.result _ _
    (λ m has. (has (ap is_simple is.2 ∙ is_plain is.0)).1
    ∙ ap (λ (a : App). subcommand_of a (map string_bytes c.args.words.now)) is.2
    ∙ subcommand_alike is.0 format_names is.1 (map string_bytes c.args.words.now))
    c.try_get_matches_from.ensures.matches

pub returns-clause-taken : goal.returns-clause-taken
returns-clause-taken c = λ taken.
    let is = c.in_ok-program.ensures in
    let same = ap (λ (a : App). takes a (map string_bytes c.args.words.now)) is.2 ∙ takes_alike is.0 format_names is.1 (map string_bytes c.args.words.now) in
    IfErr-weaker c.try_get_matches_from.result _ _ (λ e h. h (same ∙ taken)) c.try_get_matches_from.ensures.passes

pub returns-clause-kinds : goal.returns-clause-kinds
returns-clause-kinds c =
    let is = c.in_ok-program.ensures in
    let same = ap (λ (a : App). fault_of a (map string_bytes c.args.words.now)) is.2 ∙ fault_alike is.0 format_names is.1 (map string_bytes c.args.words.now) in
    subst (λ kinds. FailsBy kinds c.try_get_matches_from.result) same (c.try_get_matches_from.ensures.kinds (ap is_simple_and_free is.2 ∙ is_free is.0))
