use Rattle.std.proofs.Common.{◌≡◌, [], ◌∙◌, ap, arith, length, map, string_bytes}
use Rattle.std.proofs.lemmas.List.{nil_from_length}
use Rattle.std.proofs.lemmas.Bool.Decides.{nat_tests}
use Rattle.clap.specs.Words.{fault_of}
use Rattle.csdf_words.specs.CommandLine.{program}
use Rattle.csdf_words.proofs.CommandExamples.{no_words_no_fault}
use Rattle.csdf_words.proofs.command.request_of.Goals as goal

pub returns-then-is_empty-clause-read : goal.returns-then-is_empty-clause-read
returns-then-is_empty-clause-read c =
    let zero : length c.args.words.now ≡ 0 = grind (arith, nat_tests, c.is_empty.ensures) in
    let none : c.args.words.now ≡ [] = nil_from_length _ zero in
    ap (λ words. fault_of program (map string_bytes words)) none ∙ no_words_no_fault
