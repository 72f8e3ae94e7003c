use Rattle.std.proofs.Common.{◌≡◌, ℕ, List, length, map, get_or, refl, ap, sym, ◌∙◌, arith}
use Rattle.std.specs.List.{zip}
use Rattle.std.proofs.lemmas.List.{length-map, take_all}
use Rattle.csdf_model.specs.Graph.{channel_view}
use Rattle.csdf_core.specs.Plan.{Channel}
use Rattle.csdf_core.specs.PlanInside.{channel_in}
use Rattle.csdf_core.specs.Planned.{with_capacity}
use Rattle.csdf_core.proofs.PlanLemmas.{length-capacities, taken_on, zipped_at}
use Rattle.csdf_core.proofs.planned.planned_channels.Goals as goal
use Rattle.csdf_core.proofs.planned.planned_channels.Goals.{Start}

module _ (c : Start) where
  abbrev all : List Channel
  all = map with_capacity (zip (map channel_view c.args.channels.now) c.args.capacities.now)

  long : length all ≡ length c.args.channels.now
  long = length-capacities (map channel_view c.args.channels.now) c.args.capacities.now
      (c.requires ∙ sym (length-map c.args.channels.now channel_view)) ∙ length-map c.args.channels.now channel_view

pub loop-c-preserved : goal.loop-c-preserved
loop-c-preserved c =
    let at : Start = (goal.at.loop-c-preserved c).Start in
    let cap : ℕ = get_or c.args.capacities.now c.loop-c.c 0 in
    let seen : channel_in c.in_ok-planned_channel.field-0 ≡ with_capacity (channel_view c.index-channels-c.result, cap) = c.in_ok-planned_channel.ensures in
    let entry = zipped_at channel_view c.args.channels.now c.args.capacities.now c.loop-c.c c.index-channels-c.result cap c.requires c.loop-c-test.true
    c.index-channels-c.is refl in
    ap (map channel_in) c.in_ok-push.ensures.items
    ∙ taken_on channel_in c.loop-c.planned.items (all at) c.loop-c.c c.in_ok-planned_channel.field-0 c.loop-c.invariant
    (let l = long at in omega arith) (seen ∙ entry ∙ ap (get_or (all at) c.loop-c.c) (sym seen))

pub returns : goal.returns
returns c =
    let at : Start = (goal.at.returns c).Start in
    c.loop-c.invariant ∙ take_all c.loop-c.c (all at) (let l = long at in omega (arith, c.loop-c-test.false))
