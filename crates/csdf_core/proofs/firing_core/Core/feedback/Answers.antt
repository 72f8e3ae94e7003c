use Rattle.std.proofs.Common.{◌≡◌, ◌≢◌, ℕ, false, true, subst, sym, arith}
use Rattle.std.specs.List.{AllByRecursion}
use Rattle.std.proofs.lemmas.Grind.{common_steps}
use Rattle.csdf_core.specs.Plan.{Plan, from_at}
use Rattle.csdf_core.specs.Ports.{inputs_at}
use Rattle.csdf_core.proofs.FeedbackFound.{same_loop}
use Rattle.csdf_core.proofs.FeedbackReads.{other_there}
use Rattle.csdf_core.proofs.firing_core.Core.feedback.Goals as goal

pub taken_of_other-requires-clause-own : goal.taken_of_other-requires-clause-own
taken_of_other-requires-clause-own c = other_there _ _ _ _ _ c.in_ok-other.ensures.order

pub returns : goal.returns
returns c = grind (arith, common_steps)

pub given_before-requires-clause-actor : goal.given_before-requires-clause-actor
given_before-requires-clause-actor c = grind (arith, common_steps)

pub taken_of_other-requires-clause-actor : goal.taken_of_other-requires-clause-actor
taken_of_other-requires-clause-actor c = grind (arith, common_steps)

pub order_of-requires : goal.order_of-requires
order_of-requires c = grind (arith, common_steps)

pub given_before-requires-clause-in_phase : goal.given_before-requires-clause-in_phase
given_before-requires-clause-in_phase c = grind (arith, common_steps)

pub taken_of_other-requires-clause-in_phase : goal.taken_of_other-requires-clause-in_phase
taken_of_other-requires-clause-in_phase c = grind (arith, common_steps)

pub is_only_loop-requires : goal.is_only_loop-requires
is_only_loop-requires c = grind (arith, common_steps)

pub gives-requires-clause-phase : goal.gives-requires-clause-phase
gives-requires-clause-phase c = grind (arith, common_steps)

pub takes-taken-requires-clause-phase : goal.takes-taken-requires-clause-phase
takes-taken-requires-clause-phase c = grind (arith, common_steps)

pub gives-requires-clause-channel : goal.gives-requires-clause-channel
gives-requires-clause-channel c = grind (arith, common_steps)

pub takes-taken-requires-clause-channel : goal.takes-taken-requires-clause-channel
takes-taken-requires-clause-channel c = grind (arith, common_steps)

pub first_loop-requires : goal.first_loop-requires
first_loop-requires c = grind (arith, common_steps)

pub returns-then-not-is_only_loop-clause-none : goal.returns-then-not-is_only_loop-clause-none
returns-then-not-is_only_loop-clause-none c =
    let plan : Plan = c.self.inside.plan in
    let a : ℕ = c.args.actor in
    let found = c.in_ok-channel.ensures.some in
    rw (← c.self.view_is) (λ f is. absurd (let told : false ≡ true =
    c.if-not-is_only_loop.ensures.1
    (subst (λ own. AllByRecursion (λ c. c ≢ own → from_at plan.channels c ≢ a) (inputs_at plan.channels a))
    (sym (same_loop plan a f is c.in_ok-channel.channel found.0 found.1 found.2)) is.keeps.alone) in cc))
