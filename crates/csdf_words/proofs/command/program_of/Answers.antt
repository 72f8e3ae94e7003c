use Rattle.std.proofs.Common.{ap, arith}
use Rattle.clap.specs.Words.{App}
use Rattle.csdf_words.specs.Rows.{with_command_rows}
use Rattle.std.proofs.lemmas.Grind.{common_steps}
use Rattle.csdf_words.proofs.command.program_of.Goals as goal

pub loop-row-preserved : goal.loop-row-preserved
loop-row-preserved c = grind (arith, common_steps)

pub loop-row-init : goal.loop-row-init
loop-row-init c = ap (λ (a : App). with_command_rows a c.args.rows.now) c.in_ok-program.ensures
