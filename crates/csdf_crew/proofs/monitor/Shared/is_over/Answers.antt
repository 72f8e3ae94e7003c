use Rattle.std.proofs.Common.{arith, rules, subst, sym}
use Rattle.std.proofs.lemmas.Grind.{common_steps}
use Rattle.csdf_core.specs.Shows.{View as CoreView}
use Rattle.csdf_crew.specs.Looking.{CanBegin}
use Rattle.csdf_crew.proofs.monitor.Shared.is_over.Goals as goal

pub returns-clause-over : goal.returns-clause-over
returns-clause-over g c = search rules

pub returns-clause-looked : goal.returns-clause-looked
returns-clause-looked g c = λ idle none over a below can.
    c.look_at_all.ensures.able a below (subst (λ (x : CoreView). CanBegin x a) (sym c.core-2.ensures.value) can)

pub returns-then-is_quiet-clause-over : goal.returns-then-is_quiet-clause-over
returns-then-is_quiet-clause-over g c = grind (arith, common_steps)

pub returns-then-is_quiet-clause-looked : goal.returns-then-is_quiet-clause-looked
returns-then-is_quiet-clause-looked g c = grind (arith, common_steps)

pub returns-then-self-ne0-clause-looked : goal.returns-then-self-ne0-clause-looked
returns-then-self-ne0-clause-looked g c = grind (arith, common_steps)

pub of-requires : goal.of-requires
of-requires g c = search rules
