use Rattle.std.proofs.Common.{ℕ, List, [], ◌∷◌, ◌++◌, codes, map, ap, ◌∙◌}
use Rattle.std.specs.List.{enumerate_from}
use Rattle.std.proofs.lemmas.Result.{on_ok_weaker}
use Rattle.json.specs.Json.{Json, object, no_members}
use Rattle.json.specs.Token.{begin_object, end_object}
use Rattle.json.specs.Tree.{items_tokens, json_tokens}
use Rattle.csdf_json.specs.Lines.{list_member, list_tokens, number_member, number_tokens}
use Rattle.csdf_json.proofs.LineLemmas.{wrote_five}
use Rattle.csdf_model.specs.Graph.{Channel, Graph, channel_view}
use Rattle.csdf_answers.specs.Objects.{channel_items}
use Rattle.csdf_answers.specs.Printed.{names_of}
use Rattle.csdf_answers.proofs.object.put_capacities.Goals as goal

-- the object of these capacities, channels and cells
abbrev object_of : List ℕ → List Channel → ℕ → Json
object_of capacities channels cells =
    object (list_member (codes "capacities") (channel_items capacities (enumerate_from 0 (names_of channels)))
    (number_member (codes "cells") cells no_members))

pub returns-clause-tokens : goal.returns-clause-tokens
returns-clause-tokens c =
    let start = c.args.writer.now.tokens in
    let a = c.args.accepted.now in
    let seen = map channel_view c.channels.result.now in
    let items = channel_items c.capacities.result.now (enumerate_from 0 (names_of seen)) in
    let same = ap (λ (bs : List ℕ). object_of bs seen c.cells.result) c.capacities.ensures.value
    ∙ ap (λ (cs : List Channel). object_of a.capacities cs c.cells.result) (c.channels.ensures.value ∙ ap (λ (g : Graph). g.channels) c.graph.ensures.graph)
    ∙ ap (λ (n : ℕ). object_of a.capacities a.graph.channels n) c.cells.ensures in
    on_ok_weaker c.end_object.result
    (λ e. wrote_five start (begin_object ∷ []) (list_tokens (codes "capacities")) (items_tokens items) (number_tokens (codes "cells") c.cells.result)
    (end_object ∷ []) _ _ _ _ _ c.in_ok-begin_object.ensures.ok c.in_ok-open_list.ensures.tokens c.in_ok-put_channels.ensures.tokens
    c.in_ok-put_cells.ensures.tokens e
    ∙ ap (λ (value : Json). start ++ json_tokens value) same)
    c.end_object.ensures.ok
