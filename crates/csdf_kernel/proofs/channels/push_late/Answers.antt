use Rattle.std.proofs.Common.{ℕ, ◌+◌, ◌++◌, ℤ, take, ap, ◌∙◌}
use Rattle.csdf_kernel.specs.Value.{filter_token}
use Rattle.csdf_kernel.proofs.PlaceLemmas.{places_first}
use Rattle.csdf_kernel.proofs.channels.push_late.Goals as goal

pub returns-clause-items : goal.returns-clause-items
returns-clause-items c =
    let token : ℕ → ℤ =
    λ i. filter_token c.args.filter.now.weights.now c.args.filter.now.taps c.args.filter.now.shift c.args.inputs.now (c.args.place + i) in
    c.push_each.ensures.items
    ∙ ap (λ xs. c.args.outputs.now.items ++ xs) (ap (take c.args.count) c.eight_window_tokens-tokens.ensures ∙ places_first token c.args.count 8 c.requires.few)
