use Rattle.std.proofs.lemmas.Grind.{common_steps}
use Rattle.std.proofs.Common.{rules, arith}
use Rattle.csdf_crew.proofs.worker.Worker.advance.Goals as goal

pub make-requires-clause-open : goal.make-requires-clause-open
make-requires-clause-open g c = search rules

pub turn-requires-clause-holds : goal.turn-requires-clause-holds
turn-requires-clause-holds g c = search rules

pub returns-then-makes_blocks-clause-rests : goal.returns-then-makes_blocks-clause-rests
returns-then-makes_blocks-clause-rests g c = grind (arith, common_steps)

pub fire-requires-clause-ready : goal.fire-requires-clause-ready
fire-requires-clause-ready g c = grind (arith, common_steps)

pub returns-then-makes_blocks-clause-actor : goal.returns-then-makes_blocks-clause-actor
returns-then-makes_blocks-clause-actor g c = grind (arith, common_steps)

pub returns-then-makes_blocks-clause-holds : goal.returns-then-makes_blocks-clause-holds
returns-then-makes_blocks-clause-holds g c = grind (arith, common_steps)

pub returns-then-makes_blocks-clause-made : goal.returns-then-makes_blocks-clause-made
returns-then-makes_blocks-clause-made g c = grind (arith, common_steps)

pub returns-in_default-clause-holds : goal.returns-in_default-clause-holds
returns-in_default-clause-holds g c = grind (arith, common_steps)

pub returns-in_default-clause-made : goal.returns-in_default-clause-made
returns-in_default-clause-made g c = grind (arith, common_steps)

pub turn-requires-clause-next : goal.turn-requires-clause-next
turn-requires-clause-next g c = grind (arith, common_steps)

pub returns-in_default-clause-rests : goal.returns-in_default-clause-rests
returns-in_default-clause-rests g c = grind (arith, common_steps)

pub make-requires-clause-holds : goal.make-requires-clause-holds
make-requires-clause-holds g c = search rules

pub returns-then-not-is_started-clause-holds : goal.returns-then-not-is_started-clause-holds
returns-then-not-is_started-clause-holds g c = search rules

pub returns-then-not-is_started-clause-made : goal.returns-then-not-is_started-clause-made
returns-then-not-is_started-clause-made g c = search rules

pub fire-requires-clause-holds : goal.fire-requires-clause-holds
fire-requires-clause-holds g c = search rules

pub returns-clause-made : goal.returns-clause-made
returns-clause-made g c = search rules
