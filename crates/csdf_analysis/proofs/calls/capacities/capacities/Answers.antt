use Rattle.std.proofs.Common.{◌≤◌, List, ℕ, subst, sym, length}
use Rattle.std.specs.Prelude.{All}
use Rattle.csdf_model.specs.Graph.{Channel}
use Rattle.csdf_analysis.specs.Alone.{AreOwnBounds}
use Rattle.csdf_analysis.specs.Period.{HoldInitial, CompletesPeriod}
use Rattle.csdf_analysis.specs.Lowering.{IsLowered}
use Rattle.csdf_analysis.proofs.LowerLemmas.{lowered_all}
use Rattle.csdf_analysis.proofs.AloneLemmas.{at_net, fit_at, own_at, own_initial, own_small, own_least}
use Rattle.csdf_analysis.proofs.calls.capacities.capacities.Goals as goal

pub own_bounds-requires : goal.own_bounds-requires
own_bounds-requires c =
    fit_at c.args.graph.now c.args.vector.now.r.items c.args.vector.now.q.items _ _ c.channels.ensures.well_formed c.requires c.deref.ensures.value c.channels.ensures.value

pub makes_all-requires-clause-initial : goal.makes_all-requires-clause-initial
makes_all-requires-clause-initial c =
    let g = c.args.graph.now in
    let q = c.args.vector.now.q.items in
    let own = own_at g q _ c.in_ok-own.own.items _ c.deref.ensures.value c.channels.ensures.value c.in_ok-own.ensures in
    at_net (λ (cs : List Channel) (ks : List ℕ). HoldInitial cs c.deref-2.result.now) _ _ _ _ c.in_ok-net.ensures.channels c.in_ok-net.ensures.firings
    (subst (HoldInitial g.channels) (sym c.deref-2.ensures.value) (own_initial g q c.in_ok-own.own.items c.channels.ensures.well_formed own))

pub returns-then-branch-clause-least : goal.returns-then-branch-clause-least
returns-then-branch-clause-least c =
    let g = c.args.graph.now in
    let q = c.args.vector.now.q.items in
    let own = own_at g q _ c.in_ok-own.own.items _ c.deref.ensures.value c.channels.ensures.value c.in_ok-own.ensures in
    own_least g.channels q c.in_ok-own.own.items own
    (at_net (λ (cs : List Channel) (ks : List ℕ). CompletesPeriod cs ks c.in_ok-own.own.items) _ _ _ _ (sym c.in_ok-net.ensures.channels)
    (sym c.in_ok-net.ensures.firings)
    (subst (CompletesPeriod _ _) c.deref-2.ensures.value (c.in_ok-makes_all.ensures.0 c.if-branch.true)))

pub returns-then-branch-clause-small : goal.returns-then-branch-clause-small
returns-then-branch-clause-small c =
    let g = c.args.graph.now in
    let q = c.args.vector.now.q.items in
    let own = own_at g q _ c.in_ok-own.own.items _ c.deref.ensures.value c.channels.ensures.value c.in_ok-own.ensures in
    own_small g q c.in_ok-own.own.items c.channels.ensures.well_formed own

pub lowered-requires-clause-own : goal.lowered-requires-clause-own
lowered-requires-clause-own c =
    let g = c.args.graph.now in
    let q = c.args.vector.now.q.items in
    let own = own_at g q _ c.in_ok-own.own.items _ c.deref.ensures.value c.channels.ensures.value c.in_ok-own.ensures in
    at_net (λ (cs : List Channel) (ks : List ℕ). AreOwnBounds cs ks c.deref-3.result.now) _ _ _ _ c.in_ok-net.ensures.channels c.in_ok-net.ensures.firings
    (subst (AreOwnBounds g.channels q) (sym c.deref-3.ensures.value) own)

pub lowered-requires-clause-small : goal.lowered-requires-clause-small
lowered-requires-clause-small c =
    let g = c.args.graph.now in
    let q = c.args.vector.now.q.items in
    let own = own_at g q _ c.in_ok-own.own.items _ c.deref.ensures.value c.channels.ensures.value c.in_ok-own.ensures in
    subst (All (λ b. b ≤ 65535)) (sym c.deref-3.ensures.value) (own_small g q c.in_ok-own.own.items c.channels.ensures.well_formed own)

pub lowered-requires-clause-initial : goal.lowered-requires-clause-initial
lowered-requires-clause-initial c =
    let g = c.args.graph.now in
    let q = c.args.vector.now.q.items in
    let own = own_at g q _ c.in_ok-own.own.items _ c.deref.ensures.value c.channels.ensures.value c.in_ok-own.ensures in
    at_net (λ (cs : List Channel) (ks : List ℕ). HoldInitial cs c.deref-3.result.now) _ _ _ _ c.in_ok-net.ensures.channels c.in_ok-net.ensures.firings
    (subst (HoldInitial g.channels) (sym c.deref-3.ensures.value) (own_initial g q c.in_ok-own.own.items c.channels.ensures.well_formed own))

pub lowered-requires-clause-first : goal.lowered-requires-clause-first
lowered-requires-clause-first c =
    at_net (λ (cs : List Channel) (ks : List ℕ). IsLowered cs ks 0 c.in_ok-bounds.bounds.items) _ _ _ _ c.in_ok-net.ensures.channels
    c.in_ok-net.ensures.firings c.in_ok-bounds.ensures.first

pub returns-clause-least : goal.returns-clause-least
returns-clause-least c =
    lowered_all _ _ _ (at_net (λ (cs : List Channel) (ks : List ℕ). IsLowered cs ks (length cs) c.in_ok-least.least.items) _ _ _ _
    (sym c.in_ok-net.ensures.channels) (sym c.in_ok-net.ensures.firings) c.in_ok-least.ensures)

pub returns-clause-small : goal.returns-clause-small
returns-clause-small c = c.in_ok-least.ensures.small
