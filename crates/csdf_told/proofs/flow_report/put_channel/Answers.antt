use Rattle.std.proofs.Common.{[], ◌∷◌, ◌++◌, codes}
use Rattle.std.proofs.lemmas.Result.{on_ok_weaker}
use Rattle.json.specs.Token.{begin_object, end_object}
use Rattle.csdf_json.specs.Lines.{flag_tokens, number_tokens, text_tokens}
use Rattle.csdf_json.proofs.LineLemmas.{wrote_five}
use Rattle.csdf_told.proofs.flow_report.put_channel.Goals as goal

pub returns-clause-tokens : goal.returns-clause-tokens
returns-clause-tokens c =
    let r = c.args.report.now in
    let t = c.args.total.now in
    let tokens = number_tokens (codes "written") t.written ++ (number_tokens (codes "taken") t.taken ++ number_tokens (codes "held") r.held) in
    let room = number_tokens (codes "peak") t.peak ++ (number_tokens (codes "capacity") r.capacity ++ flag_tokens (codes "open") r.is_open) in
    on_ok_weaker c.end_object.result
    (λ e. wrote_five c.args.writer.now.tokens (begin_object ∷ []) (text_tokens (codes "channel") c.args.name.now) tokens room (end_object ∷ []) _ _ _ _ _
    c.in_ok-begin_object.ensures.ok c.in_ok-put_text.ensures.tokens c.in_ok-put_tokens.ensures.tokens c.in_ok-put_room.ensures.tokens e)
    c.end_object.ensures.ok
