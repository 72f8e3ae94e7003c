use Rattle.std.proofs.Common.{◌≡◌, ◌≢◌, ◌<◌, ℕ, length, map, get_or, refl, ap, subst, sym, ◌∙◌, arith}
use Rattle.std.specs.List.{AllByRecursion}
use Rattle.std.proofs.lemmas.List.{get_or_default, length-map}
use Rattle.std.proofs.lemmas.List.Elements.{recursion_from_All}
use borrow.Author.Count.{below_more}
use Rattle.csdf_core.specs.declared.side.Side.TheVariants.{Input}
use Rattle.csdf_core.specs.Plan.{from_at}
use Rattle.csdf_core.specs.PlanInside.{channel_in}
use Rattle.csdf_core.proofs.PlanLemmas.{seen_at}
use Rattle.csdf_core.proofs.OwnChannels.{ends_owned}
use Rattle.csdf_core.proofs.planned.first_own.Goals as goal
use Rattle.csdf_core.proofs.planned.first_own.Goals.{After-index-channels-channel}

module _ (c : After-index-channels-channel) where
  abbrev here : ℕ
  here = get_or c.args.inputs.now c.loop-channel.channel-index 0

  there : here < length c.args.channels.now
  there = c.requires.within c.loop-channel.channel-index 0 c.loop-channel-test.true

  from : (get_or c.args.channels.now here c.index-channels-channel.result).from ≡ from_at (map channel_in c.args.channels.now) here
  from = ap (λ x. x.from) (sym c.index-channels-channel.is) ∙ seen_at channel_in (λ ch. ch.from) c.args.channels.now _ refl here _ 0 there c.index-channels-channel.is

pub returns-then-channels-channel : goal.returns-then-channels-channel
returns-then-channels-channel c =
    let at : After-index-channels-channel = (goal.at.returns-then-channels-channel c).After-index-channels-channel in
    let within : here at < length (map channel_in c.args.channels.now) = (let lt = there at in omega (arith, lt, length-map c.args.channels.now channel_in)) in
    record {
      some = (
        within,
        sym (from at) ∙ c.if-channels-channel.true,
        ends_owned Input (map channel_in c.args.channels.now) c.args.actor c.args.inputs.now c.requires.inputs c.loop-channel.channel-index 0
            c.loop-channel-test.true,
      );
      none = tt;
    }

pub loop-channel-preserved : goal.loop-channel-preserved
loop-channel-preserved c =
    let at : After-index-channels-channel = (goal.at.loop-channel-preserved c).After-index-channels-channel in
    below_more (λ j. from_at (map channel_in c.args.channels.now) (get_or c.args.inputs.now j 0) ≢ c.args.actor) c.loop-channel.channel-index
    c.loop-channel.invariant (λ e. c.if-channels-channel.false (from at ∙ e))

pub returns : goal.returns
returns c =
    let cs = map channel_in c.args.channels.now in
    record {
      some = tt;
      none = subst (AllByRecursion (λ i. from_at cs i ≢ c.args.actor)) c.requires.inputs (recursion_from_All (λ i. from_at cs i ≢ c.args.actor) c.args.inputs.now
          (λ k d lt. subst (λ i. from_at cs i ≢ c.args.actor) (get_or_default c.args.inputs.now k 0 d lt) (c.loop-channel.invariant k (omega arith))));
    }
