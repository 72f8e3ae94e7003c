use Rattle.std.proofs.Common.{◌∙◌, ◌++◌, ap, codes, string_bytes}
use Rattle.std.proofs.lemmas.List.{append_assoc}
use Rattle.std.proofs.lemmas.Result.{on_ok_weaker}
use Rattle.csdf_explain.specs.Stalled.{some_lines}
use Rattle.csdf_explain.proofs.stalled.Stalled.push_beside.Goals as goal

pub returns : goal.returns
returns c =
    let lines = some_lines c.args.self.now c.args.numbers.now in
    on_ok_weaker c.push_some.result
    (λ told. told ∙ ap (λ text. text ++ lines) c.in_ok-push_str.ensures.bytes
    ∙ append_assoc (string_bytes c.args.text.now) (codes "so these wait too:\n") lines)
    c.push_some.ensures
