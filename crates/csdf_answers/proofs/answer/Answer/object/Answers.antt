use Rattle.std.proofs.Common.{◌≡◌, [], ◌++◌, ◌∙◌, List, ap, arith, sym, true}
use Rattle.std.specs.Option.{option_map_or}
use Rattle.std.proofs.lemmas.Grind.{common_steps}
use Rattle.json.specs.Token.{Token}
use Rattle.json.specs.Tree.{json_tokens}
use Rattle.csdf_answers.specs.Objects.{object_of}
use Rattle.csdf_answers.proofs.ObjectLemmas.{line_told}
use Rattle.csdf_answers.proofs.answer.Answer.object.Goals as goal

pub returns : goal.returns
returns c =
    let has : c.has_object.result ≡ true = grind (arith, common_steps) in
    let written = option_map_or json_tokens (object_of c.args.self.now) [] in
    line_told (λ line. line.items) c.args.self.now _ c.line_of.result (sym c.has_object.ensures ∙ has)
    (c.in_ok-put.ensures.tokens ∙ ap (λ (ts : List Token). ts ++ written) c.json_writer-writer.ensures.tokens) c.line_of.ensures
