use Rattle.std.proofs.KnownBytes.{Keeps-refl}
use Rattle.csdf_bytes.proofs.SampleStreamLemmas.{gives-same, reads-unasked}
use Rattle.csdf_bytes.proofs.sample_reader.SampleReader.read.Goals as goal

pub returns-in_err-has_read-clause-given : goal.returns-in_err-has_read-clause-given
returns-in_err-has_read-clause-given g c =
    reads-unasked c.args.most c.args.self.now c.read_fetched.new.self _ _ c.args.tokens.now.items c.read_fetched.new.tokens.items
    (Keeps-refl (g.I.Intake.left c.args.device.now)) c.in_err-has_read.ensures.read

pub returns-then-has_read-clause-given : goal.returns-then-has_read-clause-given
returns-then-has_read-clause-given g c =
    reads-unasked c.args.most c.args.self.now c.read_fetched.new.self _ _ c.args.tokens.now.items c.read_fetched.new.tokens.items
    (Keeps-refl (g.I.Intake.left c.args.device.now)) c.in_ok-has_read.ensures.read

pub returns-in_err-count-clause-given : goal.returns-in_err-count-clause-given
returns-in_err-count-clause-given g c =
    reads-unasked c.args.most c.args.self.now c.fetch.new.self _ _ c.args.tokens.now.items c.read_fetched.new.tokens.items
    c.in_err-count.ensures.kept
    (gives-same c.args.most c.args.self.now c.read_fetched.new.self c.fetch.new.self c.args.self.now.bytes c.args.tokens.now.items
    c.read_fetched.new.tokens.items c.in_err-count.ensures.unchanged c.in_err-count.ensures.stays.0 c.in_err-count.ensures.stays.1
    c.in_ok-has_read.ensures.read)
