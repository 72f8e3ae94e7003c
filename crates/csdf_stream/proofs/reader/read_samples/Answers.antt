use Rattle.std.proofs.Common.{inr, subst, sym}
use Rattle.csdf_stream.specs.declared.reader.Reader.TheVariants.{Samples}
use Rattle.csdf_stream.specs.Reading.{IsFaultAt}
use Rattle.csdf_stream.proofs.ReadLemmas.{gives_samples, sample_fault}
use Rattle.csdf_stream.proofs.reader.read_samples.Goals as goal

pub returns-in-Ok-clause-given : goal.returns-in-Ok-clause-given
returns-in-Ok-clause-given g c =
    let came = gives_samples c.args.most c.args.reader.now c.read.new.self _ _ _ _ c.read.ensures.given in
    (came.0, came.1, came.2, inr (c.args.most, came.3))

pub returns-in-Err-clause-given : goal.returns-in-Err-clause-given
returns-in-Err-clause-given g c =
    let came = gives_samples c.args.most c.args.reader.now c.read.new.self _ _ _ _ c.read.ensures.given in
    (came.0, came.1, came.2, inr (c.args.most, came.3))

pub returns-in-Err-clause-fault : goal.returns-in-Err-clause-fault
returns-in-Err-clause-fault g c =
    subst (λ why. IsFaultAt why (Samples c.read.new.self) (g.I.Intake.left c.read.new.device)) (sym c.of_samples.ensures)
    (sample_fault c.in-Err.fault c.read.new.self (g.I.Intake.left c.read.new.device) c.in-Err.ensures.cut)
