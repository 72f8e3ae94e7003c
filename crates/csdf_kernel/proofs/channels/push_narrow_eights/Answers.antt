use Rattle.std.proofs.Common.{ℕ, ◌*◌, List, ◌++◌, ℤ, append_assoc, ap, sym, ◌∙◌}
use Rattle.csdf_kernel.specs.Value.{places, filter_token}
use Rattle.csdf_kernel.proofs.PlaceLemmas.{eight_more}
use Rattle.csdf_kernel.proofs.channels.push_narrow_eights.Goals as goal

pub loop-eight-preserved : goal.loop-eight-preserved
loop-eight-preserved c =
    let token : ℕ → ℤ = filter_token c.args.filter.now.weights.now c.args.filter.now.taps c.args.filter.now.shift c.args.inputs.now in
    let done : List ℤ = places token (c.loop-eight.eight * 8) in
    let old : List ℤ = c.args.outputs.now.items in
    let more = ap (λ xs. done ++ xs) c.eight_narrow_tokens.ensures ∙ sym (eight_more token c.loop-eight.eight) in (
      c.push_each.ensures.items ∙ ap (λ xs. xs ++ c.eight_narrow_tokens.result) c.loop-eight.invariant.0
          ∙ append_assoc old done c.eight_narrow_tokens.result ∙ ap (λ xs. old ++ xs) more,
      c.push_each.ensures.capacity ∙ c.loop-eight.invariant.1,
    )
