use Rattle.std.proofs.Common.{rules}
use Rattle.csdf_floor.proofs.noting.note_firings.Goals as goal

pub returns-then-not-keeps-clause-moves : goal.returns-then-not-keeps-clause-moves
returns-then-not-keeps-clause-moves c = search rules
