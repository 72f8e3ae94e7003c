use Rattle.std.proofs.Common.{◌≡◌, ◌≤◌, ◌*◌, ◌∷◌, [], ℕ, List, slice_index, refl, subst, sym, ◌∙◌, arith, ℤ}
use Rattle.std.specs.Prelude.{OnOk}
use Rattle.csdf_model.specs.declared.parts.Kernel.{Kernel}
use Rattle.csdf_model.specs.declared.parts.Kernel.TheVariants.{Fir}
use Rattle.csdf_kernel.specs.Value.{values_of}
use Rattle.csdf_kernel.proofs.ValueLemmas.{no_counts, one_sum, values_as_read, values_unwritten}
use Rattle.std.proofs.lemmas.List.Sums.{sum_by-le}
use Rattle.std.proofs.lemmas.Nat.{mul-le}
use Rattle.csdf_kernel.proofs.outputs.eval_block.Goals as goal

pub total_of-requires : goal.total_of-requires
total_of-requires c = omega (arith, sum_by-le (λ x. x) 64 c.args.counts.now c.requires.small_counts, c.requires.few_counts)

pub overflow_mul-firings : goal.overflow_mul-firings
overflow_mul-firings c =
    let few = sum_by-le (λ x. x) 64 c.args.counts.now c.requires.small_counts in
    let n = c.ranges.firings.fits in
    let counts = c.requires.few_counts in
    let total = c.total_of.ensures in
    let most = mul-le c.args.firings c.total_of.result 4294967296 8192 (omega (arith, n)) (omega (arith, few, counts, total)) in
    omega (arith, most)

pub returns-then-is_empty-clause-values : goal.returns-then-is_empty-clause-values
returns-then-is_empty-clause-values c =
    let none = no_counts c.args.counts.now c.if-is_empty.ensures in
    c.in_ok-make_room.ensures.items ∙ sym (values_unwritten c.args.kernel.now c.args.counts.now c.args.need c.args.firings c.args.inputs.now none)

pub returns-then-gives_as_read-clause-values : goal.returns-then-gives_as_read-clause-values
returns-then-gives_as_read-clause-values c =
    subst (λ (xs : List ℤ). OnOk c.push_as_read.result (c.push_as_read.new.outputs.items ≡ xs))
    (sym (values_as_read c.args.kernel.now c.args.counts.now c.args.need c.args.firings c.args.inputs.now (c.if-gives_as_read.ensures.as_read refl) c.requires.whole))
    c.push_as_read.ensures.values

pub returns-then-gives_as_read-clause-room : goal.returns-then-gives_as_read-clause-room
returns-then-gives_as_read-clause-room c enough =
    c.push_as_read.ensures.room (subst (λ (k : ℕ). c.args.firings * k ≤ c.args.outputs.now.capacity) (c.if-gives_as_read.ensures.many refl) enough)

pub returns-then-are_light-clause-values : goal.returns-then-are_light-clause-values
returns-then-are_light-clause-values c =
    let result = c.light_values_into.result in
    let values : List ℤ = c.light_values_into.new.outputs.items in
    let filter : Kernel = Fir c.filter_of-filter.result.weights.now c.filter_of-filter.result.taps c.filter_of-filter.result.shift in
    let alone : List ℕ = slice_index c.args.counts.now 0 ∷ [] in
    subst (λ (k : Kernel). OnOk result (values ≡ values_of k c.args.counts.now c.args.need c.args.firings c.args.inputs.now)) (sym (c.if-are_light.ensures.kernel refl))
    (subst (λ (cs : List ℕ). OnOk result (values ≡ values_of filter cs c.args.need c.args.firings c.args.inputs.now)) (sym (c.if-are_light.ensures.alone refl))
    c.light_values_into.ensures.values)

pub returns-then-are_light-clause-room : goal.returns-then-are_light-clause-room
returns-then-are_light-clause-room c enough =
    let one = one_sum c.args.counts.now (slice_index c.args.counts.now 0) (c.if-are_light.ensures.alone refl) in
    c.light_values_into.ensures.room (subst (λ (k : ℕ). c.args.firings * k ≤ c.args.outputs.now.capacity) one enough)
