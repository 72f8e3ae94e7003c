use Rattle.std.proofs.Common.{◌<◌, ◌+◌, ◌∙◌, ap, sym, subst, arith, length, Ok}
use Rattle.csdf_bytes.specs.TokenStream.{IsOneLine}
use Rattle.csdf_bytes.proofs.TokenStreamLemmas.{gives-ended, held-same, next-ended}
use Rattle.csdf_bytes.proofs.token_reader.TokenReader.read.Goals as goal

pub returns-in-Err-clause-fault : goal.returns-in-Err-clause-fault
returns-in-Err-clause-fault g c = λ other told.
    let idle = c.in_ok-has_read.ensures.idle (ap Ok c.if-has_read.false) in
    let came = c.in_ok-count.ensures.fetched in
    let room : length c.read_lines.new.tokens.items < length c.args.tokens.now.items + c.args.most =
    omega (arith, ap length idle.2, c.if-most-eq0.false) in
    let one : IsOneLine c.fetch.new.self.bytes =
    subst IsOneLine (sym (held-same c.in_ok-count.count c.read_lines.new.self.bytes c.fetch.new.self.bytes _ _ came c.if-count-eq0.true))
    (c.in_ok-has_read.ensures.whole room) in
    next-ended c.fetch.new.self.line c.read_last.new.self.line c.fetch.new.self.bytes c.read_last.new.self.bytes c.in-Err.fault
    (g.I.Intake.left c.fetch.new.device) c.in-Err.ensures.kept.0 c.in-Err.ensures.kept.1 (c.in-Err.ensures.fault told) one (came.ended c.if-count-eq0.true)

pub returns-then-count-eq0-clause-given : goal.returns-then-count-eq0-clause-given
returns-then-count-eq0-clause-given g c =
    let idle = c.in_ok-has_read.ensures.idle (ap Ok c.if-has_read.false) in
    let came = c.in_ok-count.ensures.fetched in
    let room : length c.read_lines.new.tokens.items < length c.args.tokens.now.items + c.args.most =
    omega (arith, ap length idle.2, c.if-most-eq0.false) in
    let one : IsOneLine c.fetch.new.self.bytes =
    subst IsOneLine (sym (held-same c.in_ok-count.count c.read_lines.new.self.bytes c.fetch.new.self.bytes _ _ came c.if-count-eq0.true))
    (c.in_ok-has_read.ensures.whole room) in
    gives-ended c.args.most c.fetch.new.self.line c.read_last.new.self.line c.in_ok-count.count c.read_lines.new.self.bytes c.fetch.new.self.bytes
    c.read_last.new.self.bytes (g.I.Intake.left c.args.device.now) (g.I.Intake.left c.fetch.new.device) c.read_lines.new.tokens.items
    c.read_last.new.tokens.items c.args.self.now.line c.args.self.now.bytes c.args.tokens.now.items (c.in_ok-count.ensures.line ∙ idle.0) idle.1 idle.2
    c.in_default.ensures.emptied came c.in_default.ensures.read one (came.ended c.if-count-eq0.true) (omega (arith, c.if-most-eq0.false))
