use Rattle.std.proofs.Common.{rules}
use Rattle.csdf_floor.proofs.draft.Draft.new.Goals as goal

pub returns-clause-firings : goal.returns-clause-firings
returns-clause-firings c = search rules
