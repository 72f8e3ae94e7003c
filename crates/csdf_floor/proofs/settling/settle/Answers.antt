use Rattle.std.proofs.lemmas.Grind.{common_steps}
use Rattle.std.proofs.Common.{◌≡◌, Result, Ok, subst, refl, arith, rules}
use Rattle.std.specs.Prelude.{IfOk}
use Rattle.csdf_floor.specs.declared.fault.RunFault.{RunFault}
use Rattle.csdf_floor.specs.declared.outcome.Outcome.{Outcome}
use Rattle.csdf_floor.specs.Outcome.{HasTotals, IsOutcome}
use Rattle.csdf_floor.specs.Work.{Work, feeds_in, program}
use Rattle.csdf_floor.proofs.settling.settle.Goals as goal
use Rattle.csdf_floor.proofs.settling.settle.Goals.{In_ok-outcome}

module _ (c : In_ok-outcome) where
  abbrev asked : Work
  asked = record { accepted = c.args.accepted.now; feeds = feeds_in c.args.feeds.now; periods = c.args.periods; firings = c.args.firings }

  work : c.args.floor.work ≡ asked
  work = c.if-not-is_of.ensures.0 refl

  abbrev told : (Outcome → Type 0) → Type 0
  told P = IfOk c.settle_and_hand_back-outcome.result.outcome P

  is_told : c.settle_and_hand_back-outcome.result.outcome ≡ Ok c.in_ok-outcome.outcome
  is_told = grind (arith, common_steps)

  here : (P : Outcome → Type 0) → told P → P c.in_ok-outcome.outcome
  here P = subst (λ (r : Result Outcome RunFault). IfOk r P) is_told

  outcome : IsOutcome asked c.in_ok-outcome.outcome
  outcome = subst (λ (w : Work). IsOutcome w c.in_ok-outcome.outcome) work (here (IsOutcome c.args.floor.work) c.settle_and_hand_back-outcome.ensures.outcome)

pub returns-clause-settled : goal.returns-clause-settled
returns-clause-settled c = (outcome (goal.at.returns-clause-settled c).In_ok-outcome).settled

pub returns-clause-order : goal.returns-clause-order
returns-clause-order c = (outcome (goal.at.returns-clause-order c).In_ok-outcome).order

pub returns-clause-capacities : goal.returns-clause-capacities
returns-clause-capacities c = (outcome (goal.at.returns-clause-capacities c).In_ok-outcome).capacities

pub returns-clause-closing : goal.returns-clause-closing
returns-clause-closing c = (outcome (goal.at.returns-clause-closing c).In_ok-outcome).closing

pub returns-clause-sinks : goal.returns-clause-sinks
returns-clause-sinks c = (outcome (goal.at.returns-clause-sinks c).In_ok-outcome).sinks

pub returns-clause-report : goal.returns-clause-report
returns-clause-report c = (outcome (goal.at.returns-clause-report c).In_ok-outcome).report

pub returns-clause-left : goal.returns-clause-left
returns-clause-left c = (outcome (goal.at.returns-clause-left c).In_ok-outcome).left

pub returns-clause-ending : goal.returns-clause-ending
returns-clause-ending c = (outcome (goal.at.returns-clause-ending c).In_ok-outcome).ending

pub returns-clause-sequential : goal.returns-clause-sequential
returns-clause-sequential c = (outcome (goal.at.returns-clause-sequential c).In_ok-outcome).sequential

pub returns-clause-rooms : goal.returns-clause-rooms
returns-clause-rooms c = (outcome (goal.at.returns-clause-rooms c).In_ok-outcome).rooms

pub returns-clause-complete : goal.returns-clause-complete
returns-clause-complete c = (outcome (goal.at.returns-clause-complete c).In_ok-outcome).complete

pub returns-clause-totals : goal.returns-clause-totals
returns-clause-totals c =
    let at : In_ok-outcome = (goal.at.returns-clause-totals c).In_ok-outcome in
    subst (λ (w : Work). HasTotals (program w) c.in_ok-outcome.outcome c.args.totals.now) (work at)
    (here at (λ o. HasTotals (program c.args.floor.work) o c.args.totals.now) c.settle_and_hand_back-outcome.ensures.totals)

pub returns-clause-honest : goal.returns-clause-honest
returns-clause-honest c = (outcome (goal.at.returns-clause-honest c).In_ok-outcome).honest

pub returns-in_err-outcome-clause-answer : goal.returns-in_err-outcome-clause-answer
returns-in_err-outcome-clause-answer c = search rules

pub returns-clause-answer : goal.returns-clause-answer
returns-clause-answer c = search rules
