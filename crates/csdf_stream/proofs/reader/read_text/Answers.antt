use Rattle.std.proofs.Common.{inr, subst, sym}
use Rattle.csdf_stream.specs.declared.reader.Reader.TheVariants.{Text}
use Rattle.csdf_stream.specs.Reading.{IsFaultAt}
use Rattle.csdf_stream.proofs.ReadLemmas.{text_fault}
use Rattle.csdf_stream.proofs.reader.read_text.Goals as goal

pub returns-in-Ok-clause-given : goal.returns-in-Ok-clause-given
returns-in-Ok-clause-given g c = (c.read.ensures.given.given, c.read.ensures.given.few, c.read.ensures.given.appended, inr c.read.ensures.given.taken)

pub returns-in-Err-clause-given : goal.returns-in-Err-clause-given
returns-in-Err-clause-given g c = (c.read.ensures.given.given, c.read.ensures.given.few, c.read.ensures.given.appended, inr c.read.ensures.given.taken)

pub returns-in-Err-clause-fault : goal.returns-in-Err-clause-fault
returns-in-Err-clause-fault g c =
    subst (λ why. IsFaultAt why (Text c.read.new.self) (g.I.Intake.left c.read.new.device)) (sym c.of_text.ensures)
    (text_fault c.in-Err.fault c.read.new.self (g.I.Intake.left c.read.new.device) c.in-Err.ensures.fault)
