use Rattle.std.proofs.Common.{rules}
use Rattle.csdf_floor.proofs.draft.Draft.clear.Goals as goal

pub invariant_of-self : goal.invariant_of-self
invariant_of-self c = search rules

pub returns-clause-firings : goal.returns-clause-firings
returns-clause-firings c = search rules
