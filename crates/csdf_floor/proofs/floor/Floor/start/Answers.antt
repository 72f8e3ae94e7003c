use Rattle.std.proofs.Common.{rules}
use Rattle.csdf_floor.specs.Floor.{start_refusal}
use Rattle.csdf_floor.proofs.Floors.{handed_on}
use Rattle.csdf_floor.proofs.floor.Floor.start.Goals as goal

pub returns-in_err-start_into-clause-answer : goal.returns-in_err-start_into-clause-answer
returns-in_err-start_into-clause-answer c =
    handed_on (Unit {0}) (start_refusal c.args.self.now c.args.actor c.args.firing) c.from_residual.result c.in_err-start_into.field-0.0
    c.from_residual.ensures.1 c.in_err-start_into.ensures.answer

pub returns-clause-answer : goal.returns-clause-answer
returns-clause-answer c = search rules

pub returns-clause-firing : goal.returns-clause-firing
returns-clause-firing c = search rules
