use Rattle.std.proofs.Common.{◌≡◌, drop}
use Rattle.clap.specs.Words.{app_of}
use Rattle.csdf_words.specs.CommandLine.{no_commands}
use Rattle.csdf_words.specs.Rows.{with_command_rows}
use Rattle.csdf_words.proofs.command.program_of.Given as goal

abbrev pub invariant-loop-row : goal.invariant-loop-row
invariant-loop-row l = with_command_rows (app_of l.program) (drop l.row-index l.rows) ≡ with_command_rows no_commands l.rows
