use Rattle.std.proofs.Common.{rules}
use Rattle.csdf_kernel.specs.Value.{filter_token}
use Rattle.csdf_kernel.proofs.filter.Filter.wide_token.Goals as goal

pub returns : goal.returns
unfolding filter_token
returns c = search rules
