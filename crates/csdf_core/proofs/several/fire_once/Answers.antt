use Rattle.std.proofs.Common.{rules}
use Rattle.csdf_core.proofs.several.fire_once.Goals as goal

pub returns-clause-peaks : goal.returns-clause-peaks
returns-clause-peaks c = search rules

pub put_outputs-requires-clause-room : goal.put_outputs-requires-clause-room
put_outputs-requires-clause-room c = search rules

pub drop_inputs-requires-clause-enough : goal.drop_inputs-requires-clause-enough
drop_inputs-requires-clause-enough c = search rules

pub returns-clause-cells : goal.returns-clause-cells
returns-clause-cells c = search rules
