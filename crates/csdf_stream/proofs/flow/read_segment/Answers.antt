use Rattle.std.proofs.Common.{◌≤◌, ℕ, List, inr, map, subst, sym}
use Rattle.csdf_floor.specs.Work.{HasFewFirings, feeds_in}
use Rattle.csdf_stream.specs.Feeding.{AreFull, AreRead}
use Rattle.csdf_stream.specs.Flowing.{IsUnfedBy}
use Rattle.csdf_stream.specs.Marks.{IsReadMarked}
use Rattle.csdf_stream.proofs.FeedLemmas.{if_unfed, read_twice, unfed_by}
use Rattle.csdf_stream.proofs.LengthLemmas.{few_shortest, some_shortest}
use Rattle.csdf_stream.proofs.flow.read_segment.Goals as goal

pub fill_feeds-requires-2-clause-few_firings : goal.fill_feeds-requires-2-clause-few_firings
fill_feeds-requires-2-clause-few_firings g c =
    subst (HasFewFirings c.args.accepted.now) (sym c.at_most-last.ensures) (few_shortest c.args.accepted.now c.args.plan.now.last c.args.left c.requires.plan.few_last)

pub returns-in_err-fill_feeds-2-clause-read : goal.returns-in_err-fill_feeds-2-clause-read
returns-in_err-fill_feeds-2-clause-read g c =
    read_twice c.args.plan.now.sources.items c.args.readers.now c.fill_feeds.new.readers c.fill_feeds-2.new.readers _ _ _ _ _ _
    (subst (λ (xs : List ℕ). AreRead xs c.args.readers.now c.fill_feeds.new.readers (map g.I.Intake.left c.args.intakes.now) (map g.I.Intake.left c.fill_feeds.new.devices)
    (feeds_in c.args.feeds.now) (feeds_in c.fill_feeds.new.feeds)) c.deref.ensures.value c.fill_feeds.ensures.read)
    (subst (λ (xs : List ℕ). AreRead xs c.fill_feeds.new.readers c.fill_feeds-2.new.readers (map g.I.Intake.left c.fill_feeds.new.devices)
    (map g.I.Intake.left c.fill_feeds-2.new.devices) (feeds_in c.fill_feeds.new.feeds) (feeds_in c.fill_feeds-2.new.feeds)) c.deref-2.ensures.value c.fill_feeds-2.ensures.read)

pub returns-in_err-fill_feeds-2-clause-unfed : goal.returns-in_err-fill_feeds-2-clause-unfed
returns-in_err-fill_feeds-2-clause-unfed g c =
    if_unfed _ c.in_err-fill_feeds-2.field-0.0 (IsUnfedBy c.args.accepted.now c.args.plan.now c.fill_feeds-2.new.readers (map g.I.Intake.left c.fill_feeds-2.new.devices))
    c.from_residual-in_err-fill_feeds-2.ensures.1
    (unfed_by c.args.accepted.now c.args.plan.now c.at_most-last.result c.deref-2.result.now c.fill_feeds-2.new.readers (map g.I.Intake.left c.fill_feeds-2.new.devices)
    c.in_err-fill_feeds-2.field-0.0 c.deref-2.ensures.value c.in_err-fill_feeds-2.ensures.unfed)

pub returns-in_err-fill_feeds-2-clause-marked : goal.returns-in_err-fill_feeds-2-clause-marked
returns-in_err-fill_feeds-2-clause-marked g c =
    if_unfed _ c.in_err-fill_feeds-2.field-0.0 (IsReadMarked c.args.plan.now.sources.items (map g.I.Intake.failed c.fill_feeds-2.new.devices))
    c.from_residual-in_err-fill_feeds-2.ensures.1
    (subst (λ (xs : List ℕ). IsReadMarked xs (map g.I.Intake.failed c.fill_feeds-2.new.devices) c.in_err-fill_feeds-2.field-0.0) c.deref-2.ensures.value
    c.in_err-fill_feeds-2.ensures.marked)

pub returns-clause-read : goal.returns-clause-read
returns-clause-read g c =
    read_twice c.args.plan.now.sources.items c.args.readers.now c.fill_feeds.new.readers c.fill_feeds-2.new.readers _ _ _ _ _ _
    (subst (λ (xs : List ℕ). AreRead xs c.args.readers.now c.fill_feeds.new.readers (map g.I.Intake.left c.args.intakes.now) (map g.I.Intake.left c.fill_feeds.new.devices)
    (feeds_in c.args.feeds.now) (feeds_in c.fill_feeds.new.feeds)) c.deref.ensures.value c.fill_feeds.ensures.read)
    (subst (λ (xs : List ℕ). AreRead xs c.fill_feeds.new.readers c.fill_feeds-2.new.readers (map g.I.Intake.left c.fill_feeds.new.devices)
    (map g.I.Intake.left c.fill_feeds-2.new.devices) (feeds_in c.fill_feeds.new.feeds) (feeds_in c.fill_feeds-2.new.feeds)) c.deref-2.ensures.value c.fill_feeds-2.ensures.read)

pub returns-clause-segment : goal.returns-clause-segment
returns-clause-segment g c = record {
  some = subst (λ (n : ℕ). 1 ≤ n) (sym c.at_most-last.ensures) (some_shortest c.args.plan.now.last c.args.left c.requires.plan.some_last c.requires.left);
  few = subst (HasFewFirings c.args.accepted.now) (sym c.at_most-last.ensures) (few_shortest c.args.accepted.now c.args.plan.now.last c.args.left c.requires.plan.few_last);
  which = inr c.at_most-last.ensures;
}

pub returns-clause-full : goal.returns-clause-full
returns-clause-full g c =
    subst (λ (xs : List ℕ). AreFull c.args.accepted.now c.at_most-last.result xs c.fill_feeds-2.new.readers (map g.I.Intake.left c.fill_feeds-2.new.devices)
    (feeds_in c.fill_feeds-2.new.feeds)) c.deref-2.ensures.value c.in_ok-fill_feeds-2.ensures.full
