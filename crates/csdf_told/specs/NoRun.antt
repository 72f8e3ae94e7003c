-- Why a run has no outcome.
use Rattle.csdf_run.specs.declared.no_outcome.NoOutcome.{NoOutcome}
use Rattle.csdf_run.specs.declared.no_outcome.NoOutcome.TheVariants as run
use Rattle.csdf_answers.specs.declared.fault.ToolFault.{ToolFault}
use Rattle.csdf_answers.specs.declared.fault.ToolFault.TheVariants.{Worker, Memory}

-- why a run has no outcome, as the program tells it
abbrev pub run_fault : NoOutcome → ToolFault
run_fault run.Memory = Memory
run_fault run.Worker = Worker
