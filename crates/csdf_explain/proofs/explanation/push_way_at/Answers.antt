use Rattle.std.proofs.Common.{◌≡◌, ◌++◌, ◌∙◌, ◌≤◌, List, None, Option, ap, arith, length, slice_get, string_bytes, sym}
use Rattle.std.proofs.lemmas.Grind.{common_steps}
use Rattle.std.proofs.lemmas.List.{append-nil, length-map}
use Rattle.std.proofs.lemmas.Option.{slice_get_past}
use Rattle.std.proofs.lemmas.Result.{on_ok_weaker}
use Rattle.csdf_model.specs.Graph.{Channel, channel_view}
use Rattle.csdf_explain.specs.Explained.{way_line}
use Rattle.csdf_explain.proofs.DistanceLemmas.{channel_at}
use Rattle.csdf_explain.proofs.explanation.push_way_at.Goals as goal

pub returns-in-Some : goal.returns-in-Some
returns-in-Some c =
    let found = c.in-Some.ensures.lookup in
    let there = sym (channel_at c.channels.result.now c.args.number c.in-Some.channel.now found.3.0 found.1)
    ∙ ap (λ (cs : List Channel). slice_get cs c.args.number) c.channels.ensures.value in
    on_ok_weaker c.push_way_line.result
    (λ told. told ∙ ap (λ (at : Option Channel). string_bytes c.args.text.now ++ way_line c.args.graph.now at) there) c.push_way_line.ensures

pub returns-in-None : goal.returns-in-None
returns-in-None c =
    let past : length c.channels.result.now ≤ c.args.number = grind (arith, common_steps) in
    let count = sym (length-map c.channels.result.now channel_view) ∙ ap length c.channels.ensures.value in
    let none : None ≡ slice_get c.args.graph.now.channels c.args.number =
    sym (slice_get_past c.args.graph.now.channels c.args.number (omega (arith, past, count))) in
    sym (append-nil (string_bytes c.args.text.now))
    ∙ ap (λ (at : Option Channel). string_bytes c.args.text.now ++ way_line c.args.graph.now at) none
