use Rattle.std.proofs.Common.{◌∙◌, ap, Some}
use Rattle.std.specs.Path.{path_buf_bytes}
use Rattle.csdf_disk.specs.Terminals.{is_terminal}
use Rattle.csdf_disk.proofs.terminal.is_input_terminal.Goals as goal

pub returns-in-Ok : goal.returns-in-Ok
returns-in-Ok g c = (Some (path_buf_bytes c.in-Ok.path), c.in-Ok.ensures, c.is_terminal.ensures ∙ ap is_terminal c.as_str.ensures)
