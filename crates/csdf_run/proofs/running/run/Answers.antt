use Rattle.std.proofs.lemmas.Grind.{common_steps}
use Rattle.std.proofs.Common.{◌≡◌, ℕ, Bool, List, Result, Ok, ap, ap₂, subst, sym, ◌∙◌, arith}
use Rattle.std.specs.Prelude.{ℤ, IfOk, true}
use Rattle.csdf_analysis.specs.Acceptance.{Accepted}
use Rattle.csdf_floor.specs.declared.fault.RunFault.{RunFault}
use Rattle.csdf_floor.specs.declared.outcome.Outcome.{Outcome}
use Rattle.csdf_floor.specs.Outcome.{IsOutcome}
use Rattle.csdf_floor.specs.Work.{HasFewFirings, Work, feeds_in}
use Rattle.csdf_run.specs.Texts.{work_for}
use Rattle.csdf_run.proofs.Lengths.{may_for}
use Rattle.csdf_run.proofs.running.run.Given.{Over}
use Rattle.csdf_run.proofs.running.run.Goals as goal
use Rattle.csdf_run.proofs.running.run.Goals.{In_ok-outcome}

module _ (g : Over) (c : In_ok-outcome g) where
  abbrev asked : Work
  asked = work_for c.args.accepted.now (feeds_in c.args.feeds.now) c.args.periods c.args.firings

  is_asked : c.new-request.result.work ≡ asked
  is_asked = c.new-request.ensures.work.2
      ∙ ap (λ (n : ℕ). work_for c.in_ok-fed.fed.accepted (feeds_in c.in_ok-fed.fed.feeds.items) n c.args.firings) c.new-request.ensures.work.1
      ∙ ap₂ (λ (a : Accepted) (fs : List (List ℤ)). work_for a fs c.args.periods c.args.firings) c.in_ok-fed.ensures.accepted c.in_ok-fed.ensures.feeds

  is_there : c.outcome_of-outcome.result.outcome ≡ Ok c.in_ok-outcome.outcome
  is_there = grind (arith, common_steps)

  here : (P : Outcome → Type 0) → IfOk c.outcome_of-outcome.result.outcome P → P c.in_ok-outcome.outcome
  here P = subst (λ (r : Result Outcome RunFault). IfOk r P) is_there

  outcome : IsOutcome asked c.in_ok-outcome.outcome
  outcome = subst (λ (w : Work). IsOutcome w c.in_ok-outcome.outcome) is_asked (here (IsOutcome c.new-request.result.work) c.outcome_of-outcome.ensures.outcome)

pub returns-clause-honest : goal.returns-clause-honest
returns-clause-honest g c = (outcome g (goal.at.returns-clause-honest g c).In_ok-outcome).honest

pub returns-clause-settled : goal.returns-clause-settled
returns-clause-settled g c = (outcome g (goal.at.returns-clause-settled g c).In_ok-outcome).settled

pub returns-clause-order : goal.returns-clause-order
returns-clause-order g c = (outcome g (goal.at.returns-clause-order g c).In_ok-outcome).order

pub returns-clause-capacities : goal.returns-clause-capacities
returns-clause-capacities g c = (outcome g (goal.at.returns-clause-capacities g c).In_ok-outcome).capacities

pub returns-clause-closing : goal.returns-clause-closing
returns-clause-closing g c = (outcome g (goal.at.returns-clause-closing g c).In_ok-outcome).closing

pub returns-clause-sinks : goal.returns-clause-sinks
returns-clause-sinks g c = (outcome g (goal.at.returns-clause-sinks g c).In_ok-outcome).sinks

pub returns-clause-report : goal.returns-clause-report
returns-clause-report g c = (outcome g (goal.at.returns-clause-report g c).In_ok-outcome).report

pub returns-clause-left : goal.returns-clause-left
returns-clause-left g c = (outcome g (goal.at.returns-clause-left g c).In_ok-outcome).left

pub returns-clause-ending : goal.returns-clause-ending
returns-clause-ending g c = (outcome g (goal.at.returns-clause-ending g c).In_ok-outcome).ending

pub returns-clause-sequential : goal.returns-clause-sequential
returns-clause-sequential g c = (outcome g (goal.at.returns-clause-sequential g c).In_ok-outcome).sequential

pub returns-clause-rooms : goal.returns-clause-rooms
returns-clause-rooms g c = (outcome g (goal.at.returns-clause-rooms g c).In_ok-outcome).rooms

pub returns-clause-complete : goal.returns-clause-complete
returns-clause-complete g c = (outcome g (goal.at.returns-clause-complete g c).In_ok-outcome).complete

pub returns-clause-keeps : goal.returns-clause-keeps
returns-clause-keeps g c =
    here g (goal.at.returns-clause-keeps g c).In_ok-outcome (λ o. o.journal.keeps ≡ true)
    (subst (λ (b : Bool). IfOk c.outcome_of-outcome.result.outcome (λ o. o.journal.keeps ≡ b)) c.new-request.ensures.keeps c.outcome_of-outcome.ensures.keeps)

pub new-request-requires-clause-goes_on : goal.new-request-requires-clause-goes_on
new-request-requires-clause-goes_on g c =
    may_for c.in_ok-fed.fed.accepted c.args.periods c.requires.some_period
    (subst (λ (a : Accepted). HasFewFirings a c.args.periods) (sym c.in_ok-fed.ensures.accepted) c.requires.few_firings)
