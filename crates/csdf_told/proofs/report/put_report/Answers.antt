use Rattle.std.proofs.Common.{List, ℕ, [], ◌∷◌, ◌++◌, codes, map, ap, ◌∙◌}
use Rattle.std.specs.List.{enumerate_from}
use Rattle.std.proofs.lemmas.Result.{on_ok_weaker}
use Rattle.json.specs.Json.{object, no_members}
use Rattle.json.specs.Token.{begin_object, end_object}
use Rattle.json.specs.Tree.{items_tokens, json_tokens}
use Rattle.csdf_json.specs.Lines.{list_member, list_tokens, text_member, text_tokens}
use Rattle.csdf_json.proofs.LineLemmas.{wrote_five}
use Rattle.csdf_model.specs.Graph.{channel_view}
use Rattle.csdf_floor.specs.Report.{names_of}
use Rattle.csdf_told.specs.Reports.{channel_items}
use Rattle.csdf_told.proofs.report.put_report.Goals as goal

pub returns-clause-tokens : goal.returns-clause-tokens
returns-clause-tokens c =
    let start = c.args.writer.now.tokens in
    let items = channel_items (names_of (map channel_view c.args.channels.now)) (enumerate_from 0 c.args.reports.now) in
    let object_by = λ (word : List ℕ). object (text_member (codes "ending") word (list_member (codes "channels") items no_members)) in
    on_ok_weaker c.end_object.result
    (λ e. wrote_five start (begin_object ∷ []) (text_tokens (codes "ending") c.ending_word.result.now) (list_tokens (codes "channels"))
    (items_tokens items) (end_object ∷ []) _ _ _ _ _ c.in_ok-begin_object.ensures.ok c.in_ok-put_text.ensures.tokens c.in_ok-open_list.ensures.tokens
    c.in_ok-put_channels.ensures.tokens e
    ∙ ap (λ (word : List ℕ). start ++ json_tokens (object_by word)) c.ending_word.ensures)
    c.end_object.ensures.ok
