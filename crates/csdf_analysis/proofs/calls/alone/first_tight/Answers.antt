use Rattle.std.proofs.Common.{◌≡◌, ◌<◌, ◌≤◌, Some, length, map, refl, sym, subst, arith}
use Rattle.std.specs.Prelude.{slice_get}
use Rattle.std.proofs.lemmas.List.{length-map}
use Rattle.std.proofs.lemmas.Option.{slice_get_within}
use Rattle.csdf_model.specs.Graph.{channel_view}
use Rattle.csdf_analysis.specs.Repetition.{full_capacity}
use Rattle.csdf_analysis.specs.Fitting.{IsBetween}
use Rattle.csdf_analysis.proofs.LeastLemmas.{channel_has}
use Rattle.csdf_analysis.proofs.LowerLemmas.{seen_channel}
use Rattle.csdf_analysis.proofs.TightLemmas.{enough_more}
use Rattle.csdf_analysis.proofs.calls.alone.first_tight.Goals as goal

pub loop-number-init : goal.loop-number-init
loop-number-init c = λ i d lt here. absurd (omega (arith, lt))

pub tight_at-requires-clause-channel : goal.tight_at-requires-clause-channel
tight_at-requires-clause-channel c = channel_has (IsBetween (length c.args.q.now)) c.args.channels.now c.loop-number.number c.index-channels-number.result
    c.loop-number-test.true c.index-channels-number.is c.requires.between

pub tight_at-requires-clause-room : goal.tight_at-requires-clause-room
tight_at-requires-clause-room c = channel_has (λ d. full_capacity c.args.q.now d ≤ 65535) c.args.channels.now c.loop-number.number
    c.index-channels-number.result c.loop-number-test.true c.index-channels-number.is c.requires.room

pub returns-in-Some : goal.returns-in-Some
returns-in-Some c =
    let channels = map channel_view c.args.channels.now in
    let d = channel_view c.index-channels-number.result in
    let number = c.in-Some.ensures.number in
    record {
      channel = d;
      place = subst (λ k. slice_get channels k ≡ Some d) (sym number)
          (seen_channel c.args.channels.now channels c.loop-number.number c.index-channels-number.result refl c.loop-number-test.true
          c.index-channels-number.is);
      tight = c.in-Some.ensures.tight;
      before = λ i e lt here. c.loop-number.invariant i e (subst (λ k. i < k) number lt) here;
    }

pub loop-number-preserved : goal.loop-number-preserved
loop-number-preserved c =
    let channels = map channel_view c.args.channels.now in
    enough_more channels c.args.q.now c.loop-number.number (channel_view c.index-channels-number.result)
    (seen_channel c.args.channels.now channels c.loop-number.number c.index-channels-number.result refl c.loop-number-test.true c.index-channels-number.is)
    c.in_default.ensures.tight c.loop-number.invariant

pub returns : goal.returns
returns c =
    let channels = map channel_view c.args.channels.now in
    let len = length-map c.args.channels.now channel_view in
    λ i d here. c.loop-number.invariant i d (let lt = slice_get_within channels i d here in omega (arith, lt, len, c.loop-number-test.false)) here
