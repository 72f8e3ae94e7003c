use Rattle.std.proofs.Common.{◌+◌, ◌∷◌, map, drop, ap, sym, subst, ◌∙◌, string_bytes}
use Rattle.std.proofs.lemmas.List.{drop_more, drop_all}
use Rattle.csdf_model.specs.Graph.{channel_view}
use Rattle.csdf_answers.specs.Lines.{line_view}
use Rattle.csdf_answers.specs.Printed.{names_of}
use Rattle.csdf_answers.proofs.TurnLemmas.{GoesOn, goes_on-more, goes_on-end}
use Rattle.csdf_answers.proofs.turns.turn_all.Goals as goal

pub loop-line-preserved : goal.loop-line-preserved
loop-line-preserved c =
    let left = ap (map line_view) (drop_more c.args.lines.now c.loop-line.line-index c.line-item.result c.loop-line-test.true
    ∙ ap (λ x. x ∷ drop (c.loop-line.line-index + 1) c.args.lines.now) (sym c.line-item.is)) in
    let names = names_of (map channel_view c.args.channels.now) in
    let on = subst (λ ls. GoesOn names c.args.core.now c.loop-line.core (map line_view c.args.lines.now) ls (string_bytes c.loop-line.text)) left
    c.loop-line.invariant in
    goes_on-more _ _ _ _ _ _ _ _ _ on c.in_ok-turn.ensures

pub returns : goal.returns
returns c =
    let left = ap (map line_view) (drop_all c.loop-line.line-index c.args.lines.now c.loop-line-test.false) in
    let names = names_of (map channel_view c.args.channels.now) in
    goes_on-end _ _ _ _ _ (subst (λ ls. GoesOn names c.args.core.now c.loop-line.core (map line_view c.args.lines.now) ls (string_bytes c.loop-line.text))
    left c.loop-line.invariant)
