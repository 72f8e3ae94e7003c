use Rattle.std.proofs.Common.{◌∙◌, ◌++◌, List, ℕ, ap, codes, slice_get, string_bytes}
use Rattle.std.proofs.lemmas.List.{append_assoc}
use Rattle.std.proofs.lemmas.Result.{on_ok_weaker}
use Rattle.csdf_explain.specs.Explained.{way_line, way_lines}
use Rattle.csdf_explain.proofs.explanation.push_circle_lines.Goals as goal

pub returns : goal.returns
returns c =
    let g = c.args.graph.now in
    let before : List ℕ = string_bytes c.args.text.now in
    let head : List ℕ = codes "one of these, which lie in a circle, does not fit the others:\n" in
    let line : List ℕ = way_line g (slice_get g.channels c.args.number) in
    let lines : List ℕ = way_lines g c.args.way.now in
    on_ok_weaker c.push_way_lines.result
    (λ told. told
    ∙ ap (λ (text : List ℕ). text ++ lines) (c.in_ok-push_way_at.ensures {u = tt})
    ∙ ap (λ (text : List ℕ). (text ++ line) ++ lines) c.in_ok-push_str.ensures.bytes
    ∙ append_assoc (before ++ head) line lines
    ∙ append_assoc before head (line ++ lines))
    c.push_way_lines.ensures
