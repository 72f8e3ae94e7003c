use Rattle.std.proofs.Common.{Err, refl, sym, ap, ◌∙◌}
use Rattle.std.proofs.lemmas.Bool.{iff_false}
use Rattle.csdf_graph.proofs.ReadLemmas.{is_text, text_is}
use Rattle.csdf_graph.proofs.read.file_of.Goals as goal

pub returns-in-Ok : goal.returns-in-Ok
returns-in-Ok c = rw (text_is c.args.bytes.now c.in-Ok.ensures.ok.0 ∙ c.in-Ok.ensures.ok.1) refl

pub returns-in-Err-2 : goal.returns-in-Err-2
returns-in-Err-2 c = λ other.
    rw (is_text c.args.bytes.now (c.in-Err.ensures.refused (iff_false c.is_memory.ensures c.if-is_memory.false))) (ap Err (sym (c.refuse.ensures other)))
