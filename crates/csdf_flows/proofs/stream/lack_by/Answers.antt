use Rattle.std.proofs.Common.{rules}
use Rattle.csdf_flows.proofs.stream.lack_by.Goals as goal

pub returns : goal.returns
returns c = search rules
