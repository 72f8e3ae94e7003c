use Rattle.std.proofs.lemmas.Grind.{common_steps}
use Rattle.std.proofs.Common.{◌≡◌, ◌<◌, ◌≤◌, ◌+◌, ◌-◌, ◌++◌, ℕ, false, List, length, take, drop, ap, ap₂, subst, sym, ◌∙◌, rules, arith}
use Rattle.std.specs.Prelude.{ℤ, sum}
use Rattle.std.specs.List.{AllByRecursion}
use Rattle.std.proofs.lemmas.Slice.{overwrites}
use borrow.Rule.Slice.PartMut.{put_mid}
use Rattle.csdf_model.specs.declared.parts.Kernel.{Kernel}
use Rattle.csdf_kernel.specs.Value.{value_of}
use Rattle.csdf_core.specs.Engine.{FindsIn}
use Rattle.csdf_core.specs.Own.{AreOwn, OwnEnough, own_laid, own_passed}
use Rattle.csdf_core.specs.Plan.{Channel, Plan}
use Rattle.csdf_core.specs.Ports.{inputs_at, take_at}
use Rattle.csdf_core.specs.Rows.{need, gift}
use Rattle.csdf_core.specs.Step.{count, is_source}
use Rattle.csdf_floor.specs.Journal.{Program, output_counts, value}
use Rattle.csdf_floor.specs.Work.{program}
use Rattle.csdf_floor.proofs.Sequential.{length_value, sum_of_counts}
use Rattle.csdf_floor.proofs.SuccessiveValues.{gifts_within, needs_within, on_enough, on_more, value_read}
use Rattle.csdf_floor.proofs.Works.{counted}
use Rattle.csdf_floor.proofs.work.Work.push_successive.Goals as goal
use Rattle.csdf_floor.proofs.work.Work.push_successive.Goals.{After-need_at, After-as_slice}

module _ (c : After-need_at) where
  abbrev pub cs : List Channel
  cs = c.args.core.now.plan.channels

  abbrev pub k : ℕ
  k = count c.args.core.now.now c.args.actor

  abbrev pub i : ℕ
  i = c.loop-firing._firing

  pub less : i < c.args.n
  less = c.loop-firing-test.true

  pub here : c.loop-firing.turn.firing ≡ k + i
  here = c.loop-firing.invariant.firing

  pub needed : c.need_at.result ≡ need c.args.actor (k + i) cs
  needed = c.need_at.ensures.value ∙ ap (λ (j : ℕ). need c.args.actor j cs) here

  pub finds : (j : ℕ) → j < c.args.n → AllByRecursion (FindsIn cs c.args.core.now.now.tokens c.args.actor k j) (inputs_at cs c.args.actor)
  finds = c.reads.ensures.found c.requires.can

  pub within : c.loop-firing.at + c.need_at.result ≤ length c.loop-firing.buffer
  within =
      omega (
        arith,
        needs_within cs c.args.actor k c.args.n i less,
        c.loop-firing.invariant.on.at_is,
        c.loop-firing.invariant.on.size,
        needed,
      )

pub overflow_add-end : goal.overflow_add-end
overflow_add-end c =
    let fits = within (goal.at.overflow_add-end c).After-need_at in
    grind (arith, common_steps, fits)

pub offset_bounds-buffer-at : goal.offset_bounds-buffer-at
offset_bounds-buffer-at c =
    let fits = within (goal.at.offset_bounds-buffer-at c).After-need_at in
    grind (arith, common_steps, fits)

pub slice_bounds-part-end : goal.slice_bounds-part-end
slice_bounds-part-end c = within (goal.at.slice_bounds-part-end c).After-need_at

-- the counts are those of the firing
module _ (c : After-as_slice) where
  abbrev w : Program
  w = program c.args.self.now

  pub told_counts : c.as_slice.result.now ≡ output_counts w c.args.actor c.loop-firing.turn.firing
  told_counts =
      counted w c.args.core.now.plan c.args.actor c.loop-firing.turn.firing c.as_slice.result.now c.requires.plan
      (c.as_slice.ensures ∙ c.loop-firing.invariant.counts)

  pub total : sum c.as_slice.result.now ≡ gift c.args.actor c.loop-firing.turn.firing c.args.core.now.plan.channels
  total =
      ap sum told_counts ∙ sum_of_counts c.args.actor c.loop-firing.turn.firing w.plan.channels
      ∙ ap (λ (u : Plan). gift c.args.actor c.loop-firing.turn.firing u.channels) (sym c.requires.plan)

pub push_next-requires-clause-all_counts : goal.push_next-requires-clause-all_counts
push_next-requires-clause-all_counts c = total (goal.at.push_next-requires-clause-all_counts c).After-as_slice

pub push_next-requires-clause-enough : goal.push_next-requires-clause-enough
push_next-requires-clause-enough c =
    let at : After-need_at = (goal.at.push_next-requires-clause-enough c).After-need_at in
    subst (λ (j : ℕ). OwnEnough (cs at) c.args.actor (take_at (cs at) j) c.loop-firing.own.queues) (sym (here at))
    (on_enough (program c.args.self.now) c.args.core.now.plan c.args.actor (k at) c.args.n c.args.core.now.now.tokens c.requires.plan (finds at) (i at)
    c.loop-firing.at c.loop-firing.own.queues c.loop-firing.buffer c.loop-firing.outputs.items (less at) c.loop-firing.invariant.on)

pub push_next-requires-clause-room : goal.push_next-requires-clause-room
push_next-requires-clause-room c =
    let at : After-need_at = (goal.at.push_next-requires-clause-room c).After-need_at in
    let same = ap (λ (j : ℕ). gift c.args.actor j (cs at)) (here at) in
    omega (
      arith,
      gifts_within (cs at) c.args.actor (k at) c.args.n (i at) (less at),
      same,
      c.loop-firing.invariant.room,
      c.loop-firing.invariant.on.written,
    )

pub loop-firing-preserved : goal.loop-firing-preserved
loop-firing-preserved c =
    let at : After-need_at = (goal.at.loop-firing-preserved c).After-need_at in
    let known : After-as_slice = (goal.at.loop-firing-preserved c).After-as_slice in
    let w : Program = program c.args.self.now in
    let a : ℕ = c.args.actor in
    let m : ℕ = c.need_at.result in
    let next : ℕ = k at + i at in
    let old : List ℤ = c.loop-firing.outputs.items in
    let chunk : List ℤ = c.push_next.new.part in
    let x : List ℤ = value_of c.new-kernel.result c.as_slice.result.now chunk in
    let other : is_source w.plan a ≡ false = sym (ap (λ (u : Plan). is_source u a) c.requires.plan) ∙ c.requires.no_source in
    let told : x ≡ value w a next chunk =
    ap₂ (λ (kernel : Kernel) (ns : List ℕ). value_of kernel ns chunk) (c.new-kernel.ensures ∙ c.kernel.ensures.value)
    (told_counts known ∙ ap (output_counts w a) (here at))
    ∙ sym (value_read w a next chunk other) in
    let one : length x ≡ gift a next (cs at) =
    ap length told ∙ length_value w a next chunk ∙ ap (λ (u : Plan). gift a next u.channels) (sym c.requires.plan) in
    let front : take (c.loop-firing.at + c.need_at.result)
    (put_mid c.loop-firing.at (c.loop-firing.at + c.need_at.result - c.loop-firing.at) c.loop-firing.buffer c.push_next.new.part)
    ≡ take c.loop-firing.at c.loop-firing.buffer ++ c.push_next.new.part = search (rules, overwrites) in
    let back : drop (c.loop-firing.at + c.need_at.result)
    (put_mid c.loop-firing.at (c.loop-firing.at + c.need_at.result - c.loop-firing.at) c.loop-firing.buffer c.push_next.new.part)
    ≡ drop (c.loop-firing.at + c.need_at.result) c.loop-firing.buffer = search (rules, overwrites) in
    let size : length (put_mid c.loop-firing.at (c.loop-firing.at + c.need_at.result - c.loop-firing.at) c.loop-firing.buffer c.push_next.new.part)
    ≡ length c.loop-firing.buffer = search (rules, overwrites) in
    record {
      firing = omega (arith, c.turn_after-after.ensures.firing, here at);
      in_phase = c.turn_after-after.ensures.in_phase;
      low = c.turn_after-after.ensures.low;
      counts = c.in_ok-put_counts_after.ensures.value;
      few = c.in_ok-put_counts_after.ensures.few;
      small = c.in_ok-put_counts_after.ensures.small;
      placed = c.turn_own.ensures.placed;
      room = omega (arith, c.loop-firing.invariant.room, c.push_next.ensures.capacity);
      on = on_more w c.args.core.now.plan a (k at) c.args.n c.args.core.now.now.tokens c.requires.plan (finds at) (i at) c.loop-firing.at m c.loop-firing.own.queues
          c.turn_own.new.own.queues c.loop-firing.buffer old chunk _ x c.push_next.new.outputs.items (less at) c.loop-firing.invariant.on (needed at)
          (λ tokens own. subst (λ (j : ℕ). chunk ≡ own_laid (cs at) a (take_at (cs at) j) (inputs_at (cs at) a) tokens
          (take (c.loop-firing.at + m - c.loop-firing.at) (drop c.loop-firing.at c.loop-firing.buffer))) (here at) (c.push_next.ensures.part tokens own))
          told one c.push_next.ensures.items
          (λ tokens own. subst (λ (j : ℕ). AreOwn (cs at) a (own_passed (cs at) a j x tokens) c.turn_own.new.own.queues) (here at)
          (subst (AreOwn (cs at) a (own_passed (cs at) a c.loop-firing.turn.firing x tokens)) (sym c.turn_own.ensures.queues)
          (c.in_ok-push_next.ensures.own tokens own)))
          front back size;
    }
