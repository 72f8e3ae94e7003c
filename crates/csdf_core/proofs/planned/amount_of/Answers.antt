use Rattle.std.proofs.Common.{ℕ, List, refl, ap, ◌∙◌, arith}
use Rattle.csdf_model.specs.Rates.{rate}
use Rattle.csdf_core.specs.Plan.{consumption, production}
use Rattle.csdf_core.specs.PlanInside.{channel_in}
use Rattle.csdf_core.proofs.PlanLemmas.{rate_small, seen_at, small_at_item}
use Rattle.csdf_core.proofs.planned.amount_of.Goals as goal

pub returns-in-Input-clause-value : goal.returns-in-Input-clause-value
returns-in-Input-clause-value c =
    rw c.in-Input.is (c.rate.ensures ∙ ap (λ (rates : List ℕ). rate rates c.args.phase) c.deref.ensures.value
    ∙ seen_at channel_in (λ ch. consumption ch c.args.phase) c.args.channels.now _ refl c.args.channel _ 0 c.requires.within c.index-channels-channel.is)

pub returns-in-Input-clause-small : goal.returns-in-Input-clause-small
returns-in-Input-clause-small c =
    let few = rate_small (channel_in c.index-channels-channel.result).consume c.args.phase
    (small_at_item c.args.channels.now c.args.channel c.index-channels-channel.result c.requires.channels c.requires.within c.index-channels-channel.is).consume in
    let same = ap (λ (rates : List ℕ). rate rates c.args.phase) c.deref.ensures.value in
    omega (arith, few, same, c.rate.ensures)

pub returns-in-Output-clause-value : goal.returns-in-Output-clause-value
returns-in-Output-clause-value c =
    rw c.in-Output.is (c.rate-in-Output.ensures ∙ ap (λ (rates : List ℕ). rate rates c.args.phase) c.deref-in-Output.ensures.value
    ∙ seen_at channel_in (λ ch. production ch c.args.phase) c.args.channels.now _ refl c.args.channel _ 0 c.requires.within c.index-channels-channel.is)

pub returns-in-Output-clause-small : goal.returns-in-Output-clause-small
returns-in-Output-clause-small c =
    let few = rate_small (channel_in c.index-channels-channel.result).produce c.args.phase
    (small_at_item c.args.channels.now c.args.channel c.index-channels-channel.result c.requires.channels c.requires.within c.index-channels-channel.is).produce in
    let same = ap (λ (rates : List ℕ). rate rates c.args.phase) c.deref-in-Output.ensures.value in
    omega (arith, few, same, c.rate-in-Output.ensures)
