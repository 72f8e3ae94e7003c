use Rattle.std.proofs.Common.{arith, rules}
use Rattle.std.proofs.lemmas.Grind.{common_steps}
use Rattle.csdf_tool.proofs.program.status_of_words.Goals as goal

pub returns-in-Room-clause-answered : goal.returns-in-Room-clause-answered
returns-in-Room-clause-answered g c = grind (arith, common_steps)

pub returns-in-Room-clause-ends : goal.returns-in-Room-clause-ends
returns-in-Room-clause-ends g c = search rules

pub returns-in-Lengths-clause-answered : goal.returns-in-Lengths-clause-answered
returns-in-Lengths-clause-answered g c = grind (arith, common_steps)

pub returns-in-Lengths-clause-ends : goal.returns-in-Lengths-clause-ends
returns-in-Lengths-clause-ends g c = search rules

pub returns-in-Parse-clause-refused : goal.returns-in-Parse-clause-refused
returns-in-Parse-clause-refused g c = c.status_of_error.ensures.refused

pub returns-in-Parse-clause-device : goal.returns-in-Parse-clause-device
returns-in-Parse-clause-device g c = c.status_of_error.ensures.device

pub returns-in-Parse-clause-answered : goal.returns-in-Parse-clause-answered
returns-in-Parse-clause-answered g c = c.status_of_error.ensures.answered

pub returns-in-Parse-clause-lined : goal.returns-in-Parse-clause-lined
returns-in-Parse-clause-lined g c = c.status_of_error.ensures.lined

pub returns-in-Room-clause-refused : goal.returns-in-Room-clause-refused
returns-in-Room-clause-refused g c = grind (arith, common_steps)

pub returns-in-Room-clause-device : goal.returns-in-Room-clause-device
returns-in-Room-clause-device g c = grind (arith, common_steps)

pub returns-in-Room-clause-lined : goal.returns-in-Room-clause-lined
returns-in-Room-clause-lined g c = grind (arith, common_steps)

pub returns-in-Lengths-clause-refused : goal.returns-in-Lengths-clause-refused
returns-in-Lengths-clause-refused g c = grind (arith, common_steps)

pub returns-in-Lengths-clause-device : goal.returns-in-Lengths-clause-device
returns-in-Lengths-clause-device g c = grind (arith, common_steps)

pub returns-in-Lengths-clause-lined : goal.returns-in-Lengths-clause-lined
returns-in-Lengths-clause-lined g c = grind (arith, common_steps)

pub returns-in-OutAlone-clause-answered : goal.returns-in-OutAlone-clause-answered
returns-in-OutAlone-clause-answered g c = grind (arith, common_steps)

pub returns-in-OutAlone-clause-ends : goal.returns-in-OutAlone-clause-ends
returns-in-OutAlone-clause-ends g c = search rules

pub returns-in-OutAlone-clause-refused : goal.returns-in-OutAlone-clause-refused
returns-in-OutAlone-clause-refused g c = grind (arith, common_steps)

pub returns-in-OutAlone-clause-device : goal.returns-in-OutAlone-clause-device
returns-in-OutAlone-clause-device g c = grind (arith, common_steps)

pub returns-in-OutAlone-clause-lined : goal.returns-in-OutAlone-clause-lined
returns-in-OutAlone-clause-lined g c = grind (arith, common_steps)

pub returns-in-Workers-clause-answered : goal.returns-in-Workers-clause-answered
returns-in-Workers-clause-answered g c = grind (arith, common_steps)

pub returns-in-Workers-clause-ends : goal.returns-in-Workers-clause-ends
returns-in-Workers-clause-ends g c = search rules

pub returns-in-Workers-clause-refused : goal.returns-in-Workers-clause-refused
returns-in-Workers-clause-refused g c = grind (arith, common_steps)

pub returns-in-Workers-clause-device : goal.returns-in-Workers-clause-device
returns-in-Workers-clause-device g c = grind (arith, common_steps)

pub returns-in-Workers-clause-lined : goal.returns-in-Workers-clause-lined
returns-in-Workers-clause-lined g c = grind (arith, common_steps)
