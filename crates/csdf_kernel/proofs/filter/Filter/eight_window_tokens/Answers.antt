use Rattle.std.proofs.Common.{◌∙◌}
use Rattle.csdf_kernel.proofs.NumberLemmas.{narrow_window, window_tokens_are}
use Rattle.csdf_kernel.proofs.filter.Filter.eight_window_tokens.Goals as goal

pub eight_narrow_tokens_at-requires-clause-narrow : goal.eight_narrow_tokens_at-requires-clause-narrow
eight_narrow_tokens_at-requires-clause-narrow c =
    narrow_window c.args.self.now.weights.now c.args.inputs.now c.args.window.now c.args.base c.requires.window c.requires.narrow.narrow

pub returns : goal.returns
returns c =
    c.eight_narrow_tokens_at.ensures
    ∙ window_tokens_are c.args.self.now.weights.now c.args.inputs.now c.args.window.now c.args.base c.args.place c.args.self.now.taps c.args.self.now.shift
    c.requires.window c.requires.near.0 c.requires.near.1 c.requires.narrow.sixteen
