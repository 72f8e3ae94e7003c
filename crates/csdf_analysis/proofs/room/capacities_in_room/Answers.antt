use Rattle.std.proofs.Common.{List, ℕ, subst, sym, ◌∙◌}
use Rattle.std.proofs.lemmas.Bool.{false≢true}
use Rattle.csdf_model.specs.Graph.{Channel}
use Rattle.csdf_analysis.specs.Acceptance.{IsAccepted}
use Rattle.csdf_analysis.specs.Period.{HoldInitial, CompletesPeriod}
use Rattle.csdf_analysis.specs.Capacities.{full_capacities}
use Rattle.csdf_analysis.specs.Room.{capacities_with_room, with_room}
use Rattle.csdf_analysis.proofs.LowerLemmas.{within_at, room_at, full_initial, same_list}
use Rattle.csdf_analysis.proofs.AloneLemmas.{at_net}
use Rattle.csdf_analysis.proofs.RoomyLemmas.{accepted_in_room, room_initial, tight_in_room}
use Rattle.csdf_analysis.proofs.room.capacities_in_room.Goals as goal

pub returns-then-branch-clause-accepted : goal.returns-then-branch-clause-accepted
returns-then-branch-clause-accepted c =
    let g = c.args.graph.now in
    let r = c.args.vector.now.r.items in
    let q = c.args.vector.now.q.items in
    let room = c.in_ok-capacities.ensures ∙ same_list (λ ks cs. capacities_with_room ks c.args.periods cs) _ _ _ _ c.deref.ensures.value c.channels.ensures.value in
    subst (λ (bounds : List ℕ). IsAccepted (record { graph = with_room q c.args.periods g; r = r; q = q; capacities = bounds })) (sym room)
    (accepted_in_room g r q c.args.periods c.channels.ensures.well_formed c.requires.vector c.requires.some
    (at_net (λ (cs : List Channel) (ks : List ℕ). CompletesPeriod cs ks (capacities_with_room q c.args.periods g.channels)) _ _ _ _
    (sym c.in_ok-net.ensures.channels) (sym c.in_ok-net.ensures.firings)
    (subst (CompletesPeriod _ _) (c.deref-2.ensures.value ∙ room) (c.in_ok-makes_all.ensures.0 c.if-branch.true))))

pub makes_all-requires-2-clause-initial : goal.makes_all-requires-2-clause-initial
makes_all-requires-2-clause-initial c =
    let channels = c.args.graph.now.channels in
    let full = c.in_ok-full.ensures ∙ same_list full_capacities _ _ _ _ c.deref-3.ensures.value c.channels-2.ensures.value in
    at_net (λ (cs : List Channel) (ks : List ℕ). HoldInitial cs c.deref-4.result.now) _ _ _ _ c.in_ok-net.ensures.channels c.in_ok-net.ensures.firings
    (subst (HoldInitial channels) (sym (c.deref-4.ensures.value ∙ full)) (full_initial channels c.args.vector.now.q.items))

pub returns-then-branch-2-clause-refusal : goal.returns-then-branch-2-clause-refusal
returns-then-branch-2-clause-refusal c =
    let channels = c.args.graph.now.channels in
    let q = c.args.vector.now.q.items in
    let full = c.in_ok-full.ensures ∙ same_list full_capacities _ _ _ _ c.deref-3.ensures.value c.channels-2.ensures.value in
    let room = c.in_ok-capacities.ensures ∙ same_list (λ ks cs. capacities_with_room ks c.args.periods cs) _ _ _ _ c.deref.ensures.value c.channels.ensures.value in
    tight_in_room c.args.graph.now c.args.vector.now.r.items q c.args.periods c.requires.vector c.requires.some
    (at_net (λ (cs : List Channel) (ks : List ℕ). CompletesPeriod cs ks (full_capacities q channels)) _ _ _ _ (sym c.in_ok-net.ensures.channels)
    (sym c.in_ok-net.ensures.firings)
    (subst (CompletesPeriod _ _) (c.deref-4.ensures.value ∙ full) (c.in_ok-makes_all-2.ensures.0 c.if-branch-2.true)))
    (λ completes. false≢true (sym c.if-branch.false
    ∙ c.in_ok-makes_all.ensures.1 (subst (CompletesPeriod _ _) (sym (c.deref-2.ensures.value ∙ room))
    (at_net (λ (cs : List Channel) (ks : List ℕ). CompletesPeriod cs ks (capacities_with_room q c.args.periods channels)) _ _ _ _
    c.in_ok-net.ensures.channels c.in_ok-net.ensures.firings completes))))
