use Rattle.std.proofs.Common.{◌≤◌, ℕ, List, subst, sym, ◌∙◌}
use Rattle.std.specs.Prelude.{All}
use Rattle.std.proofs.lemmas.Bool.{false≢true}
use Rattle.csdf_model.specs.Graph.{Channel}
use Rattle.csdf_analysis.specs.Capacities.{IsLeastCapacity}
use Rattle.csdf_analysis.specs.Period.{CompletesPeriod, HoldInitial}
use Rattle.csdf_analysis.specs.Relief.{roomy_bounds}
use Rattle.csdf_analysis.proofs.AloneLemmas.{at_net}
use Rattle.csdf_analysis.proofs.ReliefLemmas.{roomy_completes, roomy_initial, roomy_least, roomy_small}
use Rattle.csdf_analysis.proofs.calls.relief.least_enough.Goals as goal

pub makes_all-requires-clause-initial : goal.makes_all-requires-clause-initial
makes_all-requires-clause-initial c =
    at_net (λ (cs : List Channel) (ks : List ℕ). HoldInitial cs c.deref.result.now) _ _ _ _ c.in_ok-net.ensures.channels c.in_ok-net.ensures.firings
    (subst (HoldInitial c.args.graph.now.channels) (sym (c.deref.ensures.value ∙ c.in_ok-bounds.ensures))
    (roomy_initial c.args.graph.now c.args.vector.now.q.items c.args.number c.channels-well_formed.ensures.well_formed))

pub raise-requires-clause-small : goal.raise-requires-clause-small
raise-requires-clause-small c =
    subst (All (λ b. b ≤ 65535)) (sym (c.deref-then-branch.ensures.value ∙ c.in_ok-bounds.ensures))
    (roomy_small c.args.graph.now c.args.vector.now.r.items c.args.vector.now.q.items c.args.number c.requires.exists
    c.channels-well_formed.ensures.well_formed c.requires.vector)

pub returns-then-branch : goal.returns-then-branch
returns-then-branch c =
    roomy_least c.args.graph.now.channels c.args.vector.now.q.items c.args.number c.in_ok-least.least
    (subst (λ bounds. IsLeastCapacity c.args.graph.now.channels c.args.vector.now.q.items bounds c.args.number c.in_ok-least.least)
    (c.deref-then-branch.ensures.value ∙ c.in_ok-bounds.ensures) c.in_ok-least.ensures.least)

pub returns : goal.returns
returns c = λ w done. false≢true (sym c.if-branch.false
    ∙ c.in_ok-makes_all.ensures.1 (subst (CompletesPeriod _ _) (sym (c.deref.ensures.value ∙ c.in_ok-bounds.ensures))
    (at_net (λ (cs : List Channel) (ks : List ℕ). CompletesPeriod cs ks (roomy_bounds c.args.vector.now.q.items c.args.graph.now.channels c.args.number)) _ _ _ _
    c.in_ok-net.ensures.channels c.in_ok-net.ensures.firings (roomy_completes c.args.graph.now.channels c.args.vector.now.q.items c.args.number w done))))
