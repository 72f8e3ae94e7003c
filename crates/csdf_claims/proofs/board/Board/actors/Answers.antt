use Rattle.std.proofs.Common.{rules}
use Rattle.csdf_claims.proofs.board.Board.actors.Goals as goal

pub returns-clause-few : goal.returns-clause-few
returns-clause-few c = search rules

pub returns-clause-value : goal.returns-clause-value
returns-clause-value c = search rules
