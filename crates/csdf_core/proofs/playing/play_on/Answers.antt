use Rattle.std.proofs.lemmas.Grind.{common_steps}
use Rattle.std.proofs.Common.{◌≡◌, ◌+◌, ◌<◌, [], ◌∷◌, length, map, get_or, ap, subst, sym, ◌∙◌, arith}
use Rattle.std.proofs.lemmas.List.{map-append, length-map}
use Rattle.std.proofs.Math.ListN.{get_or-map}
use Rattle.csdf_core.specs.Moves.{move_of}
use Rattle.csdf_core.specs.Shows.{View, PlayedSome, as_reply}
use Rattle.csdf_core.proofs.Runs.{plays_more, played_some, on_err}
use Rattle.csdf_core.proofs.playing.play_on.Goals as goal

pub returns-in_err-reply-clause-some : goal.returns-in_err-reply-clause-some
returns-in_err-reply-clause-some c =
    on_err c.from_residual.result _
    (subst (λ (v : View). PlayedSome c.args.core.now v (map move_of c.args.moves.now)) (sym c.in_err-reply.ensures.same)
    (played_some c.args.core.now c.loop-next.core (map move_of c.args.moves.now) c.loop-next.next-index _ c.loop-next.invariant))

pub returns-in_err-push-clause-some : goal.returns-in_err-push-clause-some
returns-in_err-push-clause-some c =
    let lt : c.loop-next.next-index < length (map move_of c.args.moves.now) = omega (arith, c.loop-next-test.true, length-map c.args.moves.now move_of) in
    let at : move_of c.next-item.result ≡ get_or (map move_of c.args.moves.now) c.loop-next.next-index (move_of c.next-item.result) = ap move_of c.next-item.is
    ∙ sym (get_or-map move_of c.args.moves.now c.loop-next.next-index c.next-item.result) in
    on_err c.from_residual-in_err-push.result _ (played_some c.args.core.now c.play_one.new.core (map move_of c.args.moves.now) (c.loop-next.next-index + 1) _
    (plays_more c.args.core.now c.loop-next.core c.play_one.new.core (map move_of c.args.moves.now) c.loop-next.next-index (move_of c.next-item.result)
    (map (as_reply (λ tokens. tokens.items)) c.loop-next.replies.items) (as_reply (λ tokens. tokens.items) c.in_ok-reply.reply) lt at c.loop-next.invariant
    c.in_ok-reply.ensures.step))

pub loop-next-preserved : goal.loop-next-preserved
loop-next-preserved c =
    let lt : c.loop-next.next-index < length (map move_of c.args.moves.now) = omega (arith, c.loop-next-test.true, length-map c.args.moves.now move_of) in
    let at : move_of c.next-item.result ≡ get_or (map move_of c.args.moves.now) c.loop-next.next-index (move_of c.next-item.result) = ap move_of c.next-item.is
    ∙ sym (get_or-map move_of c.args.moves.now c.loop-next.next-index c.next-item.result) in
    let more = plays_more c.args.core.now c.loop-next.core c.play_one.new.core (map move_of c.args.moves.now) c.loop-next.next-index
    (move_of c.next-item.result) (map (as_reply (λ tokens. tokens.items)) c.loop-next.replies.items)
    (as_reply (λ tokens. tokens.items) c.in_ok-reply.reply) lt at c.loop-next.invariant c.in_ok-reply.ensures.step in
    rw (c.in_ok-push.ensures.items, map-append (as_reply (λ tokens. tokens.items)) c.loop-next.replies.items (c.in_ok-reply.reply ∷ [])) more

pub returns-clause-played : goal.returns-clause-played
returns-clause-played c = grind (arith, common_steps)
