use Rattle.std.proofs.Common.{arith, rules, subst, ◌≡◌}
use Rattle.std.proofs.lemmas.Grind.{common_steps}
use Rattle.std.specs.Prelude.{◌⊎◌}
use Rattle.clap.specs.declared.error.kind.ErrorKind.{ErrorKind}
use Rattle.clap.specs.declared.error.kind.ErrorKind.TheVariants.{DisplayHelp, DisplayVersion}
use Rattle.csdf_tool.proofs.EndLemmas.{ends_as, help_ends, help_for}
use Rattle.csdf_tool.proofs.program.status_of_error.Goals as goal

pub returns-in-OutOfMemory-clause-lined : goal.returns-in-OutOfMemory-clause-lined
returns-in-OutOfMemory-clause-lined g c = λ three. ends_as _ c.tell.ensures

pub returns-in_default : goal.returns-in_default
returns-in_default g c = search rules

pub returns-in-DisplayHelp-clause-ends : goal.returns-in-DisplayHelp-clause-ends
returns-in-DisplayHelp-clause-ends g c =
    help_for _ _ (subst (λ (k : ErrorKind). (k ≡ DisplayHelp) ⊎ (k ≡ DisplayVersion)) c.kind.ensures c.in-DisplayHelp.is)
    (help_ends c.print_help.result _ c.status_after.ensures.ends c.print_help.ensures.caused c.print_help.ensures.failed)

pub returns-in-DisplayHelp-clause-refused : goal.returns-in-DisplayHelp-clause-refused
returns-in-DisplayHelp-clause-refused g c = grind (arith, common_steps)

pub returns-in-DisplayHelp-clause-device : goal.returns-in-DisplayHelp-clause-device
returns-in-DisplayHelp-clause-device g c = grind (arith, common_steps)

pub returns-in-DisplayHelp-clause-answered : goal.returns-in-DisplayHelp-clause-answered
returns-in-DisplayHelp-clause-answered g c = grind (arith, common_steps)

pub returns-in-DisplayHelp-clause-lined : goal.returns-in-DisplayHelp-clause-lined
returns-in-DisplayHelp-clause-lined g c = grind (arith, common_steps)

pub returns-in-OutOfMemory-clause-refused : goal.returns-in-OutOfMemory-clause-refused
returns-in-OutOfMemory-clause-refused g c = grind (arith, common_steps)

pub returns-in-OutOfMemory-clause-device : goal.returns-in-OutOfMemory-clause-device
returns-in-OutOfMemory-clause-device g c = grind (arith, common_steps)

pub returns-in-OutOfMemory-clause-answered : goal.returns-in-OutOfMemory-clause-answered
returns-in-OutOfMemory-clause-answered g c = grind (arith, common_steps)

pub returns-in-OutOfMemory-clause-ends : goal.returns-in-OutOfMemory-clause-ends
returns-in-OutOfMemory-clause-ends g c = grind (arith, common_steps)
