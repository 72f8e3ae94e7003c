use Rattle.std.proofs.Common.{ℕ, ◌+◌, ℤ, ◌∙◌}
use Rattle.csdf_kernel.specs.Value.{filter_token}
use Rattle.csdf_kernel.proofs.PlaceLemmas.{places_after}
use Rattle.csdf_kernel.proofs.channels.push_narrow.Goals as goal

pub loop-place-init : goal.loop-place-init
loop-place-init c =
    let token : ℕ → ℤ = filter_token c.args.filter.now.weights.now c.args.filter.now.taps c.args.filter.now.shift c.args.inputs.now in
    let whole : ℕ = c.min-whole.result in
    let first : ℕ = c.min-first.result in
    let after_first = places_after token whole first c.args.outputs.now.items _ _ c.push_narrow_whole.ensures.items c.push_late.ensures.items in
    let after_second = places_after token (whole + first) c.min-second.result c.args.outputs.now.items _ _ after_first c.push_late-2.ensures.items in
    (after_second, c.push_late-2.ensures.capacity ∙ c.push_late.ensures.capacity ∙ c.push_narrow_whole.ensures.capacity)
