use Rattle.std.proofs.Common.{◌≡◌, ℕ, List, map, get_or, ap, subst, ◌∙◌, arith}
use Rattle.std.specs.Prelude.{sum_by}
use Rattle.std.proofs.lemmas.List.{length-map}
use Rattle.csdf_core.specs.Plan.{Channel}
use Rattle.csdf_core.specs.PlanInside.{channel_in}
use Rattle.csdf_core.specs.Sides.{amount_at, ends_at}
use Rattle.csdf_core.proofs.AmountLemmas.{HasAmounts, small_by_phase, told_by_phase}
use Rattle.csdf_core.proofs.OwnChannels.{ends_within}
use Rattle.csdf_core.proofs.planned.planned_ends.Goals as goal

pub moved_in-requires-clause-within : goal.moved_in-requires-clause-within
moved_in-requires-clause-within c = λ k d lt.
    (let w = ends_within c.args.side (map channel_in c.args.channels.now) c.args.actor c.args.ends.now c.requires.ends k d lt in
    omega (arith, w, length-map c.args.channels.now channel_in))

pub returns : goal.returns
returns c =
    let cs : List Channel = map channel_in c.args.channels.now in
    let amount = λ (phase : ℕ). sum_by (amount_at c.args.side cs phase) (ends_at c.args.side cs c.args.actor) in
    let table : List ℕ = c.loop-phase.moved.items in
    let told : HasAmounts amount c.args.phases table =
    subst (λ (ns : List ℕ). HasAmounts (λ phase. sum_by (amount_at c.args.side cs phase) ns) c.args.phases table) c.requires.ends
    (rw (let e : c.loop-phase.phase ≡ c.args.phases = omega arith in e) at c.loop-phase.invariant) in
    record {
      numbers = c.in_ok-from_slice.ensures.items ∙ c.requires.ends;
      few = rw c.in_ok-from_slice.ensures.items c.requires.few;
      moved = told_by_phase c.args.side cs c.args.actor c.args.phases table c.requires.phases told;
      small = small_by_phase amount c.args.phases table told;
      first = c.first_of-first.ensures ∙ ap (λ ns. get_or ns 0 0) c.deref.ensures.value;
    }
