use Rattle.std.proofs.Common.{arith}
use Rattle.std.proofs.lemmas.Grind.{common_steps}
use Rattle.csdf_answers.proofs.drawing.dot_text.Goals as goal

pub returns : goal.returns
returns c = grind (arith, common_steps)

pub push_actors-requires : goal.push_actors-requires
push_actors-requires c = grind (arith, common_steps)

pub push_channels-requires : goal.push_channels-requires
push_channels-requires c = grind (arith, common_steps)
