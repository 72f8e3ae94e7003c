use Rattle.std.proofs.Common.{List, ℕ, subst, sym, ◌∙◌}
use Rattle.std.proofs.lemmas.Bool.{false≢true}
use Rattle.csdf_model.specs.Graph.{Channel}
use Rattle.csdf_analysis.specs.Period.{HoldInitial, CompletesPeriod}
use Rattle.csdf_analysis.specs.Capacities.{full_capacities}
use Rattle.csdf_analysis.specs.Lowering.{first_bounds, IsLowered}
use Rattle.csdf_analysis.proofs.LowerLemmas.{within_at, room_at, first_initial, too_tight, lowered_first, same_list}
use Rattle.csdf_analysis.proofs.AloneLemmas.{at_net}
use Rattle.csdf_analysis.proofs.TightLemmas.{refused_by}
use Rattle.csdf_analysis.proofs.calls.capacities.first_that_complete.Goals as goal

pub full_capacities-requires-clause-channels : goal.full_capacities-requires-clause-channels
full_capacities-requires-clause-channels c =
    within_at c.args.graph.now c.args.vector.now.r.items c.args.vector.now.q.items _ _ c.channels.ensures.well_formed c.requires.vector c.deref.ensures.value
    c.channels.ensures.value

pub full_capacities-requires-clause-room : goal.full_capacities-requires-clause-room
full_capacities-requires-clause-room c =
    room_at c.args.graph.now c.args.vector.now.r.items c.args.vector.now.q.items _ _ c.requires.vector c.deref.ensures.value c.channels.ensures.value

pub first_bounds-requires-clause-channels : goal.first_bounds-requires-clause-channels
first_bounds-requires-clause-channels c =
    within_at c.args.graph.now c.args.vector.now.r.items c.args.vector.now.q.items _ _ c.channels-2.ensures.well_formed c.requires.vector
    c.deref-3.ensures.value c.channels-2.ensures.value

pub first_bounds-requires-clause-room : goal.first_bounds-requires-clause-room
first_bounds-requires-clause-room c =
    room_at c.args.graph.now c.args.vector.now.r.items c.args.vector.now.q.items _ _ c.requires.vector c.deref-3.ensures.value c.channels-2.ensures.value

pub returns-then-is_some-clause-refusal : goal.returns-then-is_some-clause-refusal
returns-then-is_some-clause-refusal c =
    let channels = c.args.graph.now.channels in
    let q = c.args.vector.now.q.items in
    let full = c.in_ok-full.ensures ∙ same_list full_capacities _ _ _ _ c.deref.ensures.value c.channels.ensures.value in
    refused_by channels q c.tight_channel.result c.is_some.result c.tight_channel.ensures c.is_some.ensures c.if-is_some.true
    (at_net (λ (cs : List Channel) (ks : List ℕ). CompletesPeriod cs ks (full_capacities q channels)) _ _ _ _ (sym c.requires.channels)
    (sym c.requires.firings)
    (subst (CompletesPeriod _ _) (c.deref-2.ensures.value ∙ full) (c.in_ok-makes_all.ensures.0 c.if-not-branch.false)))

pub makes_all-requires-2-clause-initial : goal.makes_all-requires-2-clause-initial
makes_all-requires-2-clause-initial c =
    let channels = c.args.graph.now.channels in
    let first = c.in_ok-bounds.ensures ∙ same_list first_bounds _ _ _ _ c.deref-3.ensures.value c.channels-2.ensures.value in
    at_net (λ (cs : List Channel) (ks : List ℕ). HoldInitial cs c.deref-4.result.now) _ _ _ _ c.requires.channels c.requires.firings
    (subst (HoldInitial channels) (sym (c.deref-4.ensures.value ∙ first))
    (first_initial c.args.graph.now c.args.vector.now.q.items c.channels.ensures.well_formed))

pub returns-then-not-branch-2-clause-refusal : goal.returns-then-not-branch-2-clause-refusal
returns-then-not-branch-2-clause-refusal c =
    let channels = c.args.graph.now.channels in
    let q = c.args.vector.now.q.items in
    let full = c.in_ok-full.ensures ∙ same_list full_capacities _ _ _ _ c.deref.ensures.value c.channels.ensures.value in
    let first = c.in_ok-bounds.ensures ∙ same_list first_bounds _ _ _ _ c.deref-3.ensures.value c.channels-2.ensures.value in
    too_tight channels q
    (at_net (λ (cs : List Channel) (ks : List ℕ). CompletesPeriod cs ks (full_capacities q channels)) _ _ _ _ (sym c.requires.channels)
    (sym c.requires.firings)
    (subst (CompletesPeriod _ _) (c.deref-2.ensures.value ∙ full) (c.in_ok-makes_all.ensures.0 c.if-not-branch.false)))
    (λ completes. false≢true (sym c.if-not-branch-2.true
    ∙ c.in_ok-makes_all-2.ensures.1 (subst (CompletesPeriod _ _) (sym (c.deref-4.ensures.value ∙ first))
    (at_net (λ (cs : List Channel) (ks : List ℕ). CompletesPeriod cs ks (first_bounds q channels)) _ _ _ _ c.requires.channels c.requires.firings
    completes))))

pub returns-clause-first : goal.returns-clause-first
returns-clause-first c =
    let channels = c.args.graph.now.channels in
    let q = c.args.vector.now.q.items in
    let first = c.in_ok-bounds.ensures ∙ same_list first_bounds _ _ _ _ c.deref-3.ensures.value c.channels-2.ensures.value in
    subst (IsLowered channels q 0) (sym first)
    (lowered_first c.args.graph.now c.args.vector.now.r.items q c.channels.ensures.well_formed c.requires.vector
    (at_net (λ (cs : List Channel) (ks : List ℕ). CompletesPeriod cs ks (first_bounds q channels)) _ _ _ _ (sym c.requires.channels)
    (sym c.requires.firings)
    (subst (CompletesPeriod _ _) (c.deref-4.ensures.value ∙ first) (c.in_ok-makes_all-2.ensures.0 c.if-not-branch-2.false))))
