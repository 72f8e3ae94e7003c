use Rattle.std.proofs.Common.{◌≡◌, drop}
use Rattle.clap.specs.Words.{app_of}
use Rattle.clap.specs.declared.builder.command.Command.TheViews.{out-Command as fields_of}
use Rattle.csdf_words.specs.Rows.{with_rows}
use Rattle.csdf_words.proofs.command.with_arguments.Given as goal

abbrev pub invariant-loop-row : goal.invariant-loop-row
invariant-loop-row l =
    (with_rows (app_of l.command) (drop l.row-index l.rows) ≡ with_rows (app_of l.fn.command) l.rows)
    × ((fields_of l.command).has_globals ≡ (fields_of l.fn.command).has_globals)
