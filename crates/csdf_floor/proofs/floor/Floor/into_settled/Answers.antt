use Rattle.std.proofs.Common.{sym, subst}
use Rattle.csdf_core.specs.Shows.{View}
use Rattle.csdf_core.specs.Step.{IsQuiet}
use Rattle.csdf_floor.specs.Endings.{IsEnding}
use Rattle.csdf_floor.specs.Floor.{FloorView}
use Rattle.csdf_floor.specs.Outcome.{HasTotals, IsOutcome}
use Rattle.csdf_floor.specs.Work.{program}
use Rattle.csdf_floor.specs.declared.outcome.Outcome.{Outcome}
use Rattle.csdf_floor.proofs.Settles.{at_rest, counts_are, outcome_is}
use Rattle.csdf_floor.proofs.floor.Floor.into_settled.Goals as goal
use Rattle.csdf_floor.proofs.floor.Floor.into_settled.Goals.{In-Ok}

pub report_and_left-told-requires : goal.report_and_left-told-requires
report_and_left-told-requires c =
    at_rest c.self.inside.book.shown.core.plan c.self.inside.book.shown.core.now
    (subst (λ (f : FloorView). IsQuiet f.core.plan f.core.now) (sym c.self.view_is) c.requires)

module _ (c : In-Ok) where
  abbrev told : Outcome
  told = record {
    ending = c.ending_of-ending.result;
    sinks = c.into_parts-fed.result.2;
    journal = c.into_parts-fed.result.1;
    report = c.in-Ok.report;
    left = c.in-Ok.left;
  }

pub returns-in-Ok-clause-outcome : goal.returns-in-Ok-clause-outcome
returns-in-Ok-clause-outcome c =
    let o : Outcome = told (goal.at.returns-in-Ok-clause-outcome c).In-Ok in
    subst (λ (f : FloorView). IsOutcome f.work o) c.self.view_is
    (outcome_is c.self.inside.book.shown c.self.inside.book.reads c.core.ensures.book c.self.invariant
    (subst (λ (f : FloorView). IsQuiet f.core.plan f.core.now) (sym c.self.view_is) c.requires) o
    c.into_parts-fed.ensures.moves c.into_parts-fed.ensures.sinks c.in-Ok.ensures.report c.in-Ok.ensures.left
    (subst (λ (v : View). IsEnding v.plan v.now c.ending_of-ending.result) c.core.ensures.value c.ending_of-ending.ensures))

pub returns-in-Ok-clause-totals : goal.returns-in-Ok-clause-totals
returns-in-Ok-clause-totals c =
    let o : Outcome = told (goal.at.returns-in-Ok-clause-totals c).In-Ok in
    subst (λ (f : FloorView). HasTotals (program f.work) o f.core.now.counts) c.self.view_is
    (counts_are c.self.inside.book.shown c.self.inside.book.reads c.core.ensures.book c.self.invariant
    (subst (λ (f : FloorView). IsQuiet f.core.plan f.core.now) (sym c.self.view_is) c.requires) o
    c.into_parts-fed.ensures.moves c.into_parts-fed.ensures.sinks c.in-Ok.ensures.report c.in-Ok.ensures.left
    (subst (λ (v : View). IsEnding v.plan v.now c.ending_of-ending.result) c.core.ensures.value c.ending_of-ending.ensures))
