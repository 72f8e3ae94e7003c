use Rattle.std.proofs.Common.{◌∙◌}
use Rattle.std.proofs.lemmas.Result.{IfOk-weaker}
use Rattle.csdf_words.proofs.CommandLemmas.{or_false}
use Rattle.csdf_words.proofs.command.with_argument.Goals as goal

pub returns-clause-globals : goal.returns-clause-globals
returns-clause-globals c = IfOk-weaker c.arg.result _ _ (λ r h. h.globals ∙ or_false _ _ c.argument_of.ensures.local) c.arg.ensures
