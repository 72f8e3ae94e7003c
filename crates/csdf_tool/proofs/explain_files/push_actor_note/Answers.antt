use Rattle.std.proofs.Common.{rules}
use Rattle.csdf_tool.proofs.explain_files.push_actor_note.Goals as goal

pub returns-clause-noted : goal.returns-clause-noted
returns-clause-noted g c = search rules
