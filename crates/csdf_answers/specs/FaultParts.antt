-- The parts of the reason of a fault.
use Rattle.std.specs.Prelude.{ℕ, List}
use Rattle.std.specs.Fmt.{decimal}
use Rattle.csdf_answers.specs.declared.fault.Detail.{Detail}
use Rattle.csdf_answers.specs.declared.fault.Detail.TheVariants as detail
use Rattle.csdf_answers.specs.Faults.{graph_text, end_text}

-- what a reason ends with
abbrev pub detail_text : Detail → List ℕ
detail_text (detail.Words words) = words.now
detail_text (detail.Graph words) = graph_text words.0
detail_text (detail.Number n) = decimal n
detail_text (detail.End end) = end_text end
