use Rattle.std.proofs.Common.{rules}
use Rattle.csdf_analysis.proofs.accepted.copy_of.Goals as goal

pub returns-clause-cycles : goal.returns-clause-cycles
returns-clause-cycles c = search rules

pub returns-clause-firings : goal.returns-clause-firings
returns-clause-firings c = search rules
