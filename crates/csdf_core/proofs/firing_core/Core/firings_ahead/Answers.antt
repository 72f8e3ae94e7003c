use Rattle.std.proofs.Common.{rules}
use Rattle.csdf_core.proofs.firing_core.Core.firings_ahead.Goals as goal

pub returns-clause-some : goal.returns-clause-some
returns-clause-some c = search rules

pub returns-then-cycles-ge1-clause-most : goal.returns-then-cycles-ge1-clause-most
returns-then-cycles-ge1-clause-most c = search rules

pub returns-then-cycles-ge1-clause-few : goal.returns-then-cycles-ge1-clause-few
returns-then-cycles-ge1-clause-few c = search rules

pub returns-then-cycles-ge1-clause-can : goal.returns-then-cycles-ge1-clause-can
returns-then-cycles-ge1-clause-can c = search rules

pub returns-then-is_ok-clause-few : goal.returns-then-is_ok-clause-few
returns-then-is_ok-clause-few c = search rules

pub returns-then-is_ok-clause-can : goal.returns-then-is_ok-clause-can
returns-then-is_ok-clause-can c = search rules
