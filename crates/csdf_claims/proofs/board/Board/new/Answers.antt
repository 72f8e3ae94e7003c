use Rattle.std.proofs.Common.{◌+◌, ap, sym, subst}
use Rattle.csdf_claims.specs.Board.{IsNew}
use Rattle.csdf_claims.specs.Steps.{Seated}
use Rattle.csdf_claims.proofs.Openings.{is_new}
use Rattle.csdf_claims.proofs.Lists.{zeros_read}
use Rattle.csdf_claims.proofs.board.Board.new.Goals as goal

pub returns-clause-words : goal.returns-clause-words
returns-clause-words c = let e = ap (λ (z : Seated). z.0) c.in_ok-table.ensures.seat.1 in subst IsNew (sym e) (is_new c.args.actors)

pub open_table-requires-clause-zeros : goal.open_table-requires-clause-zeros
open_table-requires-clause-zeros c i = zeros_read (c.args.actors + 1) 65 i
