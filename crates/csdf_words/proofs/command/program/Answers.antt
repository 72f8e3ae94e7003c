use Rattle.std.proofs.Common.{refl}
use Rattle.std.proofs.lemmas.Result.{IfOk-weaker}
use Rattle.csdf_words.proofs.command.program.Goals as goal

pub returns : goal.returns
returns c = IfOk-weaker c.program_of.result _ _ (λ command same. (_, refl, same)) c.program_of.ensures
