use Rattle.std.proofs.Common.{rules}
use Rattle.csdf_bytes.proofs.quick_line.quick_digits.Goals as goal

pub returns : goal.returns
returns c = search rules
