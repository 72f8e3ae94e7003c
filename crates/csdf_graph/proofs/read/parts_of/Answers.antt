use Rattle.csdf_graph.specs.GraphText.{parts_of}
use Rattle.std.proofs.Common.{rules}
use Rattle.csdf_graph.proofs.read.parts_of.Goals as goal

pub returns-in_err-check_ports : goal.returns-in_err-check_ports
unfolding parts_of
returns-in_err-check_ports c = search rules

pub returns-in_err-check_rates : goal.returns-in_err-check_rates
unfolding parts_of
returns-in_err-check_rates c = search rules
