use Rattle.std.proofs.Common.{rules}
use Rattle.csdf_files.proofs.InputLemmas.{input_fault}
use Rattle.csdf_files.proofs.files.input_bytes.Goals as goal

pub returns-in-Err-clause-missing : goal.returns-in-Err-clause-missing
returns-in-Err-clause-missing g c =
    let why = c.in-Err.fault in
    (why, input_fault (g.I.Intake.left c.args.reader.now) _ why (λ e. c.in-Err.ensures.read.0 e) (λ e. c.in-Err.ensures.long e), c.unread.ensures)

pub returns-in-Err-clause-device : goal.returns-in-Err-clause-device
returns-in-Err-clause-device g c = search rules

pub returns-in-Err-clause-other : goal.returns-in-Err-clause-other
returns-in-Err-clause-other g c = search rules
