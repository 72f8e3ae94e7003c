use Rattle.std.proofs.Common.{◌∙◌, ap, sym, drop}
use Rattle.csdf_bytes.proofs.TokenStreamLemmas.{stop-fault}
use Rattle.csdf_bytes.proofs.token_reader.TokenReader.read_lines.Goals as goal

pub returns-in-Err-clause-fault : goal.returns-in-Err-clause-fault
returns-in-Err-clause-fault c =
    stop-fault c.read_whole_lines-stop.result.outcome c.in-Err.fault c.read_whole_lines-stop.result.line
    (drop c.read_whole_lines-stop.result.used c.held.result.now) c.let_go.new.self.bytes c.in-Err.is c.read_whole_lines-stop.ensures.fault
    (c.let_go.ensures ∙ ap (drop c.read_whole_lines-stop.result.used) (sym c.held.ensures))
