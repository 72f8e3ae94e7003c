use Rattle.std.proofs.Common.{◌≡◌, ◌+◌, ◌*◌, arith, subst}
use Rattle.csdf_claims.specs.Board.{Finds}
use Rattle.csdf_claims.proofs.board.Board.done.Goals as goal

-- one firing is no block of several
pub done_many-requires-clause-fits : goal.done_many-requires-clause-fits
done_many-requires-clause-fits c k several has = absurd (omega arith)

pub returns-clause-view : goal.returns-clause-view
returns-clause-view c k has = c.done_many.ensures.view k has

pub returns-clause-left : goal.returns-clause-left
returns-clause-left c k has = let next : 2 * (k + 1) ≡ 2 * k + 2 = omega arith in
    subst (Finds c.done_many.new.place.view c.args.actor) next (c.done_many.ensures.left k has)
