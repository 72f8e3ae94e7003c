use Rattle.std.proofs.Common.{rules}
use Rattle.csdf_graph.specs.ScriptText.{script_draft}
use Rattle.csdf_graph.proofs.script_text.file_draft.Goals as goal

pub returns-in_default : goal.returns-in_default
unfolding script_draft
returns-in_default c = search rules
