use Rattle.std.proofs.lemmas.Grind.{common_steps}
use Rattle.std.proofs.Common.{◌≡◌, ◌+◌, ◌≤◌, ℕ, List, ap, ap₂, subst, ◌∙◌, arith}
use Rattle.std.specs.Prelude.{sum}
use Rattle.csdf_model.specs.declared.parts.Kernel.{Kernel}
use Rattle.csdf_kernel.specs.Loop.{loop_values}
use Rattle.csdf_core.specs.Feedback.{IsFeedback}
use Rattle.csdf_core.specs.Plan.{Plan}
use Rattle.csdf_core.specs.Step.{count}
use Rattle.csdf_floor.specs.Inside.{BookView}
use Rattle.csdf_floor.specs.Journal.{Program, output_counts}
use Rattle.csdf_floor.specs.Work.{feeds_in, program}
use Rattle.csdf_floor.proofs.Books.{book_resized}
use Rattle.csdf_floor.proofs.LoopMakings.{own_values, part_of_gift, sum_counts}
use Rattle.csdf_floor.proofs.Makings.{on_ok}
use Rattle.csdf_floor.proofs.book.Book.own_values_into.Goals as goal
use Rattle.csdf_floor.proofs.book.Book.own_values_into.Goals.{After-as_mut_slice}

module _ (c : After-as_mut_slice) where
  abbrev p : Program
  p = program c.self.inside.work

  abbrev a : ℕ
  a = c.args.actor

  abbrev k : ℕ
  k = count c.self.inside.core.now a

  pub here : IsFeedback c.self.inside.core.plan a c.args.feedback
  here = rw (← c.self.view_is) at c.requires.feedback

  told : IsFeedback p.plan a c.args.feedback
  told = subst (λ (u : Plan). IsFeedback u a c.args.feedback) c.self.invariant.kept.plan here

  pub counts : c.as_slice.result.now ≡ output_counts p a k
  counts = c.as_slice.ensures ∙ (rw (← c.self.view_is) at c.in_ok-counts_into.ensures.value)

  pub fits : c.args.feedback.before + c.args.feedback.taken ≤ sum c.as_slice.result.now
  fits =
      let all = ap (λ (ns : List ℕ). sum ns) counts ∙ sum_counts p a c.args.feedback told k in
      let part = part_of_gift p a c.args.feedback told k in
      omega (arith, all, part)

pub own_values-requires-clause-part : goal.own_values-requires-clause-part
own_values-requires-clause-part c = fits (goal.at.own_values-requires-clause-part c).After-as_mut_slice

pub invariant_of-self : goal.invariant_of-self
invariant_of-self c = book_resized _ c.self.inside.reads.items c.args.actor _ c.self.invariant (rw (← c.self.view_is) at c.requires.can.idle)

pub returns-clause-values : goal.returns-clause-values
returns-clause-values c =
    let at : After-as_mut_slice = (goal.at.returns-clause-values c).After-as_mut_slice in
    rw (← c.self.view_is) (on_ok c.own_values.result _ _
    (λ e. own_values c.self.inside.journal.keeps c.self.inside.work c.self.inside.core c.self.inside.journal.moves c.self.inside.sinks.lists
    (feeds_in c.self.inside.reads.items) c.args.actor c.args.n c.args.feedback e.state e.others c.own_values.new.outputs.items c.self.invariant (here at)
    e.state_long e.others_long e.read
    (e.values
    ∙ ap₂ (λ (x : Kernel) (ns : List ℕ). loop_values x ns c.args.feedback.is_first c.args.feedback.each c.args.feedback.before c.args.n e.state e.others)
    c.kernel-kernel.ensures.value (counts at))) c.own_values.ensures.values)

pub counts_into-requires : goal.counts_into-requires
counts_into-requires c = c.requires.can.there

pub kernel-kernel-requires : goal.kernel-kernel-requires
kernel-kernel-requires c = grind (arith, common_steps)

pub index_mut-buffer-requires : goal.index_mut-buffer-requires
index_mut-buffer-requires c = grind (arith, common_steps)

pub own_values-requires-clause-feedback : goal.own_values-requires-clause-feedback
own_values-requires-clause-feedback c = rw (← c.self.view_is) at c.requires.feedback

pub own_values-requires-clause-can : goal.own_values-requires-clause-can
own_values-requires-clause-can c = rw (← c.self.view_is) at c.requires.can

pub own_values-requires-clause-filter_in_range : goal.own_values-requires-clause-filter_in_range
own_values-requires-clause-filter_in_range c = c.kernel-kernel.ensures.in_range

pub own_values-requires-clause-buffer : goal.own_values-requires-clause-buffer
own_values-requires-clause-buffer c = grind (arith, common_steps)

pub returns-clause-shown : goal.returns-clause-shown
returns-clause-shown c = ap (λ (b : BookView). b.shown) c.self.view_is

pub returns-clause-rooms : goal.returns-clause-rooms
returns-clause-rooms c = ap (λ (b : BookView). b.rooms) c.self.view_is

pub returns-clause-room : goal.returns-clause-room
returns-clause-room c = ap (λ (b : BookView). b.room) c.self.view_is

pub returns-clause-width : goal.returns-clause-width
returns-clause-width c = ap (λ (b : BookView). b.width) c.self.view_is

pub own_values-requires-clause-few_counts : goal.own_values-requires-clause-few_counts
own_values-requires-clause-few_counts c = rw c.as_slice.ensures c.in_ok-counts_into.ensures.few
