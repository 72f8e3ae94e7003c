use Rattle.std.proofs.Common.{◌≡◌, [], length, ap, arith}
use Rattle.std.proofs.lemmas.List.{nil_from_length}
use Rattle.csdf_answers.proofs.TurnLemmas.{turns-none}
use Rattle.csdf_answers.proofs.turns.turn_move.Goals as goal

pub returns : goal.returns
returns c =
    let none : c.in_ok-replies.replies.items ≡ [] = nil_from_length _ (omega (arith, c.in-None.ensures.item.3, ap length c.deref.ensures.value)) in
    let played = rw (c.from_ref.ensures.value, none) at c.in_ok-replies.ensures.played in
    turns-none _ _ _ _ _ _ _ played
