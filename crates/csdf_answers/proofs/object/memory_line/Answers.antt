use Rattle.std.proofs.Common.{codes, sym, subst, rules}
use Rattle.csdf_answers.specs.declared.fault.ToolFault.TheVariants.{Memory}
use Rattle.csdf_answers.specs.declared.question.Form.{Form}
use Rattle.csdf_answers.specs.Objects.{TellsFault}
use Rattle.csdf_answers.proofs.ObjectLemmas.{memory_told}
use Rattle.csdf_answers.proofs.object.memory_line.Goals as goal

pub returns-in-Json : goal.returns-in-Json
returns-in-Json c = subst (λ (form : Form). TellsFault form Memory (codes "{\"fault\":\"memory\",\"status\":3}\n")) (sym c.in-Json.is) memory_told

pub returns-in-Text : goal.returns-in-Text
returns-in-Text c = search rules
