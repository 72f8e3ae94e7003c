use Rattle.std.proofs.Common.{◌≡◌, ◌≤◌, length, max, ap, subst, ◌∙◌, arith, rules}
use Rattle.csdf_model.specs.Graph.{Channel, channel_view}
use Rattle.csdf_analysis.proofs.SearchLemmas.{first_low}
use Rattle.std.proofs.lemmas.Grind.{common_steps}
use Rattle.csdf_analysis.proofs.calls.raise.raise.Goals as goal

pub returns-clause-firings : goal.returns-clause-firings
returns-clause-firings c = search rules

pub least_bound-requires-clause-exists : goal.least_bound-requires-clause-exists
least_bound-requires-clause-exists c = grind (arith, common_steps)

pub least_bound-requires-clause-completes : goal.least_bound-requires-clause-completes
least_bound-requires-clause-completes c = grind (arith, common_steps)

pub returns-clause-least : goal.returns-clause-least
returns-clause-least c = grind (arith, common_steps)

pub net_of-requires : goal.net_of-requires
net_of-requires c = c.requires.vector

pub least_bound-requires-clause-fits : goal.least_bound-requires-clause-fits
least_bound-requires-clause-fits c = λ d is.
    let same : channel_view c.channel.result.now ≡ d = (let here = c.channel.ensures.value in cc (here, is)) in
    subst (λ (e : Channel). length e.initial ≤ c.max-first.result) same (omega (arith, c.max-first.ensures, c.len.ensures))

pub least_bound-requires-clause-low : goal.least_bound-requires-clause-low
least_bound-requires-clause-low c =
    first_low _ _ c.args.bounds.now c.args.c c.max-first.result (channel_view c.channel.result.now) c.channel.ensures.fit
    (omega (arith, c.requires.exists, c.requires.completes.each_channel)) c.channel.ensures.value (c.max-first.ensures
    ∙ ap (λ n. max n 1) (omega (arith, c.len.ensures, c.channel.result.now.initial.ok.0)))
