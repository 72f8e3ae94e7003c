use Rattle.std.proofs.lemmas.Grind.{common_steps}
use Rattle.std.proofs.Common.{◌≡◌, ◌<◌, ◌==◌, ℕ, List, length, get_or, ap, sym, subst, ◌∙◌, arith}
use Rattle.csdf_core.specs.Plan.{Channel, Plan}
use Rattle.csdf_core.specs.Ports.{outputs_at}
use Rattle.csdf_core.specs.Step.{is_over}
use Rattle.csdf_floor.specs.Inside.{BookView, IsBook}
use Rattle.csdf_floor.proofs.Closes.{closed_at_place, closed_nothing, outputs_go_on, room_more, rising_numbers}
use Rattle.csdf_floor.proofs.book.Book.close_outputs.Goals as goal

pub loop-place-preserved : goal.loop-place-preserved
loop-place-preserved c =
    let cs : List ℕ = outputs_at c.args.self.now.shown.core.plan.channels c.args.actor in
    let same : outputs_at c.loop-place.self.shown.core.plan.channels c.args.actor ≡ cs =
    ap (λ (u : Plan). outputs_at u.channels c.args.actor) c.loop-place.invariant.closed.plan in
    let is : c.output-channel.result ≡ get_or cs c.loop-place.place 0 = c.output-channel.ensures.value
    ∙ ap (λ (ns : List ℕ). get_or ns c.loop-place.place 0) same in
    let lt : c.loop-place.place < length cs = omega (arith, c.loop-place-test.true, c.output_count-place-end.ensures) in
    record {
      closed = closed_at_place c.args.self.now.shown c.loop-place.self c.close_if_due.new.self cs c.loop-place.place c.output-channel.result is
          (rising_numbers (λ (d : Channel). d.from == c.args.actor) 0 c.args.self.now.shown.core.plan.channels) lt c.loop-place.invariant.closed
          c.close_if_due.ensures.due c.close_if_due.ensures.other;
      room = room_more c.loop-place.self c.close_if_due.new.self c.output-channel.result (length cs) c.loop-place.place c.loop-place.invariant.room
          c.close_if_due.ensures.due c.close_if_due.ensures.other;
    }

pub returns-clause-before : goal.returns-clause-before
returns-clause-before c = (subst (λ (b : BookView). IsBook b.shown b.reads) c.self.view_is c.self.invariant).kept.shows.same

pub returns-clause-closed : goal.returns-clause-closed
returns-clause-closed c = grind (arith, common_steps)

pub loop-place-init : goal.loop-place-init
loop-place-init c = grind (arith, common_steps)

pub returns-then-not-is_over-clause-before : goal.returns-then-not-is_over-clause-before
returns-then-not-is_over-clause-before c = (subst (λ (b : BookView). IsBook b.shown b.reads) c.self.view_is c.self.invariant).kept.shows.same

pub returns-then-not-is_over-clause-closed : goal.returns-then-not-is_over-clause-closed
returns-then-not-is_over-clause-closed c =
    closed_nothing c.args.self.now.shown (outputs_at c.args.self.now.shown.core.plan.channels c.args.actor)
    (outputs_go_on c.args.self.now.shown.core.plan c.args.self.now.shown.core.now c.args.actor
    (ap (λ (b : BookView). is_over b.shown.core.plan b.shown.core.now c.args.actor) (sym c.self.view_is) ∙ sym c.is_over.ensures ∙ c.if-not-is_over.true))
