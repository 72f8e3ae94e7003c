use Rattle.std.proofs.Common.{◌++◌, ap, ◌∙◌}
use Rattle.json.specs.Tree.{json_tokens}
use Rattle.csdf_answers.specs.Objects.{reason_object}
use Rattle.csdf_answers.proofs.ObjectLemmas.{reason_shallow}
use Rattle.csdf_answers.proofs.object.reason_object.Goals as goal

pub returns : goal.returns
returns c =
    let value = reason_object c.args.reason.now c.args.status in
    c.line_of.ensures value (reason_shallow c.args.reason.now c.args.status)
    (c.in_ok-put_reason.ensures.tokens ∙ ap (λ ts. ts ++ json_tokens value) c.json_writer-writer.ensures.tokens)
