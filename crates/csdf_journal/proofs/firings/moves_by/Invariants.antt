use Rattle.std.proofs.Common.{◌≡◌, ◌≤◌, ◌*◌, ◌++◌, map, drop}
use Rattle.std.specs.Vec.{vec_capacity, vec_len}
use Rattle.csdf_core.specs.Moves.{move_of}
use Rattle.csdf_journal.specs.Noted.{moves_by}
use Rattle.csdf_journal.proofs.firings.moves_by.Given as goal

-- the moves so far and those of what is left make the whole, and there is room for all
abbrev pub invariant-loop-gift : goal.invariant-loop-gift
invariant-loop-gift l = record {
  moves : map move_of l.moves.items ++ moves_by l.actor (drop l.gift-index l.gifts) l.left ≡ moves_by l.actor l.gifts l.tokens;
  len : vec_len l.moves ≡ 4 * l.gift-index;
  room : 4 * l.n ≤ vec_capacity l.moves;
}
