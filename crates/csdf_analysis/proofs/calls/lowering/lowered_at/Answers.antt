use Rattle.std.proofs.Common.{◌<◌, suc, ap, subst, sym, length, set, ◌∙◌, arith}
use Rattle.std.specs.Option.{is_some}
use Rattle.csdf_model.specs.Graph.{channel_view}
use Rattle.csdf_analysis.specs.Capacities.{IsLeastCapacity}
use Rattle.csdf_analysis.specs.Lowering.{IsLowered}
use Rattle.csdf_analysis.specs.Period.{CompletesPeriod}
use Rattle.csdf_analysis.proofs.LowerLemmas.{lowered_given, lowered_raised, none_of, some_of}
use Rattle.csdf_analysis.proofs.AloneLemmas.{own_low, own_fits}
use Rattle.csdf_analysis.proofs.calls.lowering.lowered_at.Goals as goal
use Rattle.csdf_analysis.proofs.calls.lowering.lowered_at.Goals.{then-is_none+in_ok-least, else-is_none}

pub returns : goal.returns
returns c =
    let channels = c.args.net.now.channels in
    let q = c.args.net.now.firings in
    let at = c.channel.ensures.value in
    elim c.if-is_none.branch [
      | then-is_none+in_ok-least w ↦
          lowered_raised channels q c.args.bounds.items c.if-is_none.bounds.items c.args.place w.in_ok-least.least (channel_view c.channel.result.now) at
          (none_of c.channel.result.now.capacity c.is_none.result c.is_none.ensures w.if-is_none.true) (ap (λ v. v.items) w.bounds-is)
          (subst (λ b. IsLeastCapacity channels q b c.args.place w.in_ok-least.least) w.deref.ensures.value w.in_ok-least.ensures.least) c.requires.first
      | else-is_none w ↦
          let given = some_of c.channel.result.now.capacity c.is_none.result c.is_none.ensures w.if-is_none.false in
          subst (λ v. IsLowered channels q (suc c.args.place) v.items) (sym w.bounds-is)
          (lowered_given channels q c.args.bounds.items c.args.place (channel_view c.channel.result.now) given.0 at given.1 c.requires.first)
    ]

pub least_bound-requires-clause-fits : goal.least_bound-requires-clause-fits
least_bound-requires-clause-fits c =
    let none = none_of c.channel.result.now.capacity c.is_none.result c.is_none.ensures c.if-is_none.true in
    λ d here. own_fits c.args.net.now.channels c.args.net.now.firings c.args.own.now c.args.place (channel_view c.channel.result.now) d c.channel.ensures.value none
    c.requires.own here

pub least_bound-requires-clause-low : goal.least_bound-requires-clause-low
least_bound-requires-clause-low c =
    let channels = c.args.net.now.channels in
    let q = c.args.net.now.firings in
    let none = none_of c.channel.result.now.capacity c.is_none.result c.is_none.ensures c.if-is_none.true in
    λ w done. own_low channels q c.args.bounds.items c.args.own.now c.args.place (channel_view c.channel.result.now) c.channel.ensures.value none
    (omega (arith, c.requires.exists, c.requires.first.completes.each_channel)) c.requires.own w
    (subst (λ b. CompletesPeriod channels q (set b c.args.place w)) c.deref.ensures.value done)
