use Rattle.std.proofs.Common.{arith, map, sym, subst, get_or}
use Rattle.std.proofs.lemmas.List.{length-map}
use Rattle.std.proofs.lemmas.Option.{slice_get_within}
use Rattle.csdf_model.specs.Graph.{channel_view}
use Rattle.csdf_analysis.specs.Fewer.{IsHeld}
use Rattle.csdf_analysis.proofs.MostLemmas.{lessened_more, placed_at}
use Rattle.csdf_analysis.proofs.most.lower_all.Goals as goal

pub lower_ends-is_lower-requires : goal.lower_ends-is_lower-requires
lower_ends-is_lower-requires c =
    subst (λ n. IsHeld n (get_or c.args.capacities.now c.loop-number.number 0) (channel_view c.index-channels-number.result)) (sym c.loop-number.invariant.long)
    (c.requires.held c.loop-number.number (channel_view c.index-channels-number.result)
    (placed_at c.args.channels.now c.loop-number.number c.index-channels-number.result c.loop-number-test.true c.index-channels-number.is))

pub loop-number-preserved : goal.loop-number-preserved
loop-number-preserved c =
    lessened_more (map channel_view c.args.channels.now) c.args.capacities.now c.args.most.now c.loop-number.most c.lower_ends-is_lower.new.most
    c.loop-number.number c.loop-number.is_lower c.lower_ends-is_lower.result (channel_view c.index-channels-number.result)
    (placed_at c.args.channels.now c.loop-number.number c.index-channels-number.result c.loop-number-test.true c.index-channels-number.is)
    c.loop-number.invariant (record {
      long = c.lower_ends-is_lower.auto.most;
      within = c.lower_ends-is_lower.ensures.within;
      kept = c.lower_ends-is_lower.ensures.kept;
      lower = c.lower_ends-is_lower.ensures.lower;
      same = c.lower_ends-is_lower.ensures.same;
      fits = c.lower_ends-is_lower.ensures.fits;
    })

pub returns-clause-fits : goal.returns-clause-fits
returns-clause-fits c = λ none i d is.
    c.loop-number.invariant.fits none i d
    (let lt = slice_get_within (map channel_view c.args.channels.now) i d is in
    let len = length-map c.args.channels.now channel_view in
    omega (arith, lt, len, c.loop-number-test.false)) is
