use Rattle.std.proofs.Common.{◌≡◌, ◌+◌, ◌-◌, ◌<◌, ℕ, List, length, length-append, take, drop, sum, ap, sym, ◌∙◌, arith}
use Rattle.std.specs.Prelude.{ℤ}
use Rattle.std.proofs.lemmas.List.Sums.{sum_by-le}
use Rattle.std.proofs.lemmas.Nat.{mul-le}
use Rattle.csdf_kernel.specs.Value.{value_of}
use Rattle.csdf_kernel.specs.Loop.{beside, latest_of}
use Rattle.csdf_kernel.proofs.LoopLemmas.{latest_long, latest_more, one_loop_more}
use Rattle.csdf_kernel.proofs.ValueLemmas.{length_of_value, room_less}
use Rattle.csdf_kernel.proofs.looping.eval_loop.Goals as goal

pub total_of-size-requires : goal.total_of-size-requires
total_of-size-requires c = omega (arith, sum_by-le (λ x. x) 64 c.args.counts.now c.requires.small_counts, c.requires.few_counts)

pub overflow_mul-firings : goal.overflow_mul-firings
overflow_mul-firings c =
    let few = sum_by-le (λ x. x) 64 c.args.counts.now c.requires.small_counts in
    let n = c.ranges.firings.fits in
    let counts = c.requires.few_counts in
    let total = c.total_of-size.ensures in
    let most = mul-le c.args.firings c.total_of-size.result 4294967296 8192 (omega (arith, n)) (omega (arith, few, counts, total)) in
    omega (arith, most)

pub loop-firing-preserved : goal.loop-firing-preserved
loop-firing-preserved c =
    let more : c.loop-firing._firing < c.args.firings = omega (arith, c.loop-firing-test.true) in
    let old : List ℤ = c.loop-firing.outputs.items in
    let x : List ℤ = value_of c.args.kernel.now c.args.counts.now c.lay.new.window in
    let size : length x ≡ c.total_of-size.result = length_of_value c.args.kernel.now c.args.counts.now _ ∙ sym c.total_of-size.ensures in
    let grown = c.push_value_by.ensures.items in
    let longer : length c.push_value_by.new.outputs.items ≡ length old + sum c.args.counts.now =
    ap length grown ∙ length-append old x ∙ ap (λ k. length old + k) (size ∙ c.total_of-size.ensures) in
    let part = c.requires.part in
    let left = room_less (sum c.args.counts.now) c.args.firings c.loop-firing._firing (length old) _ more c.loop-firing.invariant.room in
    let state : List ℤ = latest_of c.args.state.now old c.total_of-size.result c.args.before in
    let next : latest_of c.args.state.now c.push_value_by.new.outputs.items c.total_of-size.result c.args.before ≡ take (length state) (drop c.args.before x) =
    ap (λ (u : List ℤ). latest_of c.args.state.now u c.total_of-size.result c.args.before) grown
    ∙ latest_more c.args.state.now old x c.total_of-size.result c.args.before size
    ∙ ap (λ (j : ℕ). take j (drop c.args.before x)) (sym c.loop-firing.invariant.sized) in
    record {
      values = one_loop_more c.args.kernel.now c.args.counts.now c.args.is_first (length c.args.window.now - length c.args.state.now) c.args.before
          c.args.firings
          c.loop-firing._firing c.loop-firing.at c.args.others.now state _ old c.push_value_by.new.outputs.items x _ more
          (ap (value_of c.args.kernel.now c.args.counts.now) (c.lay.ensures
          ∙ ap (λ (u : List ℤ). beside c.args.is_first u
          (take (c.loop-firing.at + (length c.args.window.now - length c.args.state.now) - c.loop-firing.at)
          (drop c.loop-firing.at c.args.others.now))) (c.latest-own.ensures
          ∙ ap (λ (u : List ℤ). latest_of c.args.state.now u c.total_of-size.result c.args.before) c.as_slice.ensures))) grown next c.loop-firing.invariant.values;
      sized = ap (λ (u : List ℤ). length (latest_of c.args.state.now u c.total_of-size.result c.args.before)) grown
          ∙ latest_long c.args.state.now old x c.total_of-size.result c.args.before size (omega (arith, part, c.total_of-size.ensures));
      window = c.lay.auto.window ∙ c.loop-firing.invariant.window;
      inputs = room_less (length c.args.window.now - length c.args.state.now) c.args.firings c.loop-firing._firing c.loop-firing.at _ more
          c.loop-firing.invariant.inputs;
      room = omega (arith, longer, left, c.push_value_by.ensures.capacity);
    }
