use Rattle.std.proofs.Common.{length, map, get_or, refl, sym, ap, subst, ◌∙◌, ◌+◌, ◌≤◌, arith}
use Rattle.std.proofs.lemmas.List.{length-map, length_push}
use Rattle.std.proofs.lemmas.Option.{slice_get_within}
use Rattle.csdf_model.specs.Graph.{channel_view}
use Rattle.csdf_analysis.specs.Repetition.{full_capacity}
use Rattle.csdf_analysis.specs.Fitting.{IsBetween}
use Rattle.csdf_analysis.specs.Alone.{IsOwnBound}
use Rattle.csdf_analysis.proofs.LeastLemmas.{channel_has}
use Rattle.csdf_analysis.proofs.LowerLemmas.{seen_channel}
use Rattle.csdf_analysis.proofs.AloneLemmas.{own_pushed}
use Rattle.csdf_analysis.proofs.calls.alone.own_bounds.Goals as goal

pub own_bound-requires-clause-channel : goal.own_bound-requires-clause-channel
own_bound-requires-clause-channel c = channel_has (IsBetween (length c.args.q.now)) c.args.channels.now c.loop-channel.channel-index c.channel-item.result
    c.loop-channel-test.true c.channel-item.is c.requires.between

pub own_bound-requires-clause-room : goal.own_bound-requires-clause-room
own_bound-requires-clause-room c = channel_has (λ d. full_capacity c.args.q.now d ≤ 65535) c.args.channels.now c.loop-channel.channel-index
    c.channel-item.result c.loop-channel-test.true c.channel-item.is c.requires.room

pub loop-channel-preserved : goal.loop-channel-preserved
loop-channel-preserved c =
    let pushed = c.in_ok-push.ensures.items in
    record {
      count = ap length pushed ∙ length_push c.loop-channel.bounds.items c.own_bound.result ∙ ap (λ k. k + 1) c.loop-channel.invariant.count;
      own = λ i d lt is. subst (λ ks. IsOwnBound c.args.q.now d (get_or ks i 0)) (sym pushed)
          (own_pushed (map channel_view c.args.channels.now) c.args.q.now c.loop-channel.bounds.items c.loop-channel.channel-index (channel_view c.channel-item.result)
          c.own_bound.result c.loop-channel.invariant.count
          (seen_channel c.args.channels.now (map channel_view c.args.channels.now) c.loop-channel.channel-index c.channel-item.result refl c.loop-channel-test.true
          c.channel-item.is) c.own_bound.ensures c.loop-channel.invariant.own i d lt is);
    }

pub returns : goal.returns
returns c =
    let len = length-map c.args.channels.now channel_view in
    record {
      each_channel = omega (arith, len, c.loop-channel.invariant.count, c.loop-channel-test.false, c.loop-channel.auto.channel-index-end);
      own = λ i d is. c.loop-channel.invariant.own i d (let lt = slice_get_within (map channel_view c.args.channels.now) i d is in omega (
        arith,
        lt,
        len,
        c.loop-channel-test.false,
        c.loop-channel.auto.channel-index-end,
      )) is;
    }
