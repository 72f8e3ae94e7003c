use Rattle.std.proofs.Common.{◌≡◌, ◌+◌, ◌<◌, length, length-append, sum, ap, ◌∙◌, arith}
use Rattle.csdf_kernel.specs.Filter.{IsNarrow}
use Rattle.csdf_kernel.specs.Value.{value_of}
use Rattle.csdf_kernel.proofs.NumberLemmas.{narrow_part}
use Rattle.csdf_kernel.proofs.ValueLemmas.{length_of_value, one_firing_more, room_less}
use Rattle.csdf_kernel.proofs.outputs.push_values.Goals as goal

pub loop-firing-preserved : goal.loop-firing-preserved
loop-firing-preserved c =
    let more : c.loop-firing._firing < c.args.firings = omega (arith, c.loop-firing-test.true) in
    let longer : length c.push_value_by.new.outputs.items ≡ length c.loop-firing.outputs.items + sum c.args.counts.now =
    ap length c.push_value_by.ensures.items ∙ length-append c.loop-firing.outputs.items (value_of c.args.kernel.now c.args.counts.now _)
    ∙ ap (λ k. length c.loop-firing.outputs.items + k) (length_of_value c.args.kernel.now c.args.counts.now _) in
    let left = room_less (sum c.args.counts.now) c.args.firings c.loop-firing._firing (length c.loop-firing.outputs.items) _ more
    c.loop-firing.invariant.room in
    record {
      values = one_firing_more c.args.kernel.now c.args.counts.now c.args.need c.args.firings c.loop-firing._firing c.loop-firing.at
          c.args.inputs.now c.loop-firing.outputs.items c.push_value_by.new.outputs.items _ more c.push_value_by.ensures.items
          c.loop-firing.invariant.values;
      inputs = room_less c.args.need c.args.firings c.loop-firing._firing c.loop-firing.at _ more c.loop-firing.invariant.inputs;
      room = omega (arith, longer, left, c.push_value_by.ensures.capacity);
    }

pub push_value_by-requires-clause-narrow : goal.push_value_by-requires-clause-narrow
push_value_by-requires-clause-narrow c = λ yes.
    let all : IsNarrow c.args.filter.now c.args.inputs.now =
    c.is_narrow-narrow.ensures yes in
    record {
      marked = all.marked;
      sixteen = all.sixteen;
      weighted = all.weighted;
      narrow = narrow_part c.args.filter.now.weights.now c.args.inputs.now c.loop-firing.at (c.loop-firing.at + c.args.need) all.narrow;
    }
