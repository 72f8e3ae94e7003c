use Rattle.std.proofs.Common.{◌≡◌, ◌<◌, ◌%◌, refl, ◌∙◌, sym, subst, get_or}
use Rattle.std.proofs.lemmas.Bool.{false≢true}
use Rattle.csdf_model.specs.Graph.{phases_of}
use Rattle.csdf_analysis.proofs.FitLemmas.{input_end}
use Rattle.csdf_analysis.proofs.RunLemmas.{tokens_all, tokens_some}
use Rattle.csdf_analysis.proofs.run.Run.has_tokens.Goals as goal

pub holds_enough-requires-clause-within : goal.holds_enough-requires-clause-within
holds_enough-requires-clause-within c = λ d at.
    subst (λ b. c.phase-phase.result < phases_of c.args.net.now.actors b)
    (sym (input_end _ c.inputs-number-items.result.now c.args.actor c.loop-number.number-index d c.inputs-number-items.ensures.value c.loop-number-test.true
    at)) c.phase-phase.ensures.within

pub holds_enough-requires-clause-phase : goal.holds_enough-requires-clause-phase
holds_enough-requires-clause-phase c = λ d at.
    subst (λ b. c.phase-phase.result ≡ get_or c.args.self.now.counts.items b 0 % phases_of c.args.net.now.actors b)
    (sym (input_end _ c.inputs-number-items.result.now c.args.actor c.loop-number.number-index d c.inputs-number-items.ensures.value c.loop-number-test.true
    at)) c.phase-phase.ensures.value

pub returns-then-not-holds_enough : goal.returns-then-not-holds_enough
returns-then-not-holds_enough c = (
  λ e. absurd (false≢true e),
  λ has. absurd (false≢true (sym c.if-not-holds_enough.true
      ∙ c.holds_enough.ensures.1 (tokens_some _ _ c.inputs-number-items.result.now _ c.loop-number.number-index c.inputs-number-items.ensures.value
      c.loop-number-test.true has))),
)

pub returns : goal.returns
returns c = (
  λ _. tokens_all _ _ c.inputs-number-items.result.now _ c.loop-number.number-index c.inputs-number-items.ensures.value c.loop-number-test.false
      c.loop-number.invariant,
  λ _. refl,
)
