use Rattle.std.proofs.Common.{take, map}
use Rattle.csdf_core.specs.Shows.{Plays, as_reply}
use Rattle.csdf_core.specs.Moves.{move_of}
use Rattle.csdf_core.proofs.playing.play_on.Given as goal

-- the moves so far were played
abbrev pub invariant-loop-next : goal.invariant-loop-next
invariant-loop-next l = Plays l.fn.core l.core (take l.next-index (map move_of l.moves)) (map (as_reply (λ tokens. tokens.items)) l.replies.items)
