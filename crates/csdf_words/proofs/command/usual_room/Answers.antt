use Rattle.std.proofs.Common.{rules}
use Rattle.csdf_words.proofs.command.usual_room.Goals as goal

pub returns-then-eq-clause-value : goal.returns-then-eq-clause-value
returns-then-eq-clause-value c = search rules
