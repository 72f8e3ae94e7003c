use Rattle.std.proofs.Common.{◌≡◌, ℕ, ◌*◌, length, get_or, sym, ◌∙◌, ap, List, arith}
use Rattle.csdf_floor.specs.Work.{feeds_in}
use Rattle.csdf_floor.proofs.Exacts.{exact_of, exact_next, just_of, just_on}
use Rattle.csdf_floor.proofs.exact.are_exact.Goals as goal

pub returns-then-not-is_just : goal.returns-then-not-is_just
returns-then-not-is_just c =
    let here = just_of c.args.accepted.now c.args.feeds.now c.args.periods c.loop-actor.actor c.index-feeds-actor.result c.graph-graph.ensures.accepted
    c.loop-actor-test.true c.index-feeds-actor.is in
    let firings : c.args.periods * get_or c.as_slice-firings.result.now c.loop-actor.actor 0 ≡ c.args.periods * get_or c.args.accepted.now.q c.loop-actor.actor 0 =
    ap (λ (q : List ℕ). c.args.periods * get_or q c.loop-actor.actor 0) (c.as_slice-firings.ensures.value ∙ c.vector.ensures.firings) in
    let tokens : c.len-tokens.result ≡ length c.index-feeds-actor.result.items = omega (arith, c.len-tokens.ensures, c.index-feeds-actor.result.ok.0) in
    let no = c.if-not-is_just.true in (
      λ e. absurd (cc),
      λ exact.
          (let yes = c.is_just.ensures.1 (just_on _ _ c.loop-actor.actor _ _ _ _ (sym c.graph-graph.ensures.graph) (sym tokens) (sym firings)
          (here (exact c.loop-actor.actor))) in
          absurd (cc)),
    )

pub loop-actor-preserved : goal.loop-actor-preserved
loop-actor-preserved c =
    let firings : c.args.periods * get_or c.as_slice-firings.result.now c.loop-actor.actor 0 ≡ c.args.periods * get_or c.args.accepted.now.q c.loop-actor.actor 0 =
    ap (λ (q : List ℕ). c.args.periods * get_or q c.loop-actor.actor 0) (c.as_slice-firings.ensures.value ∙ c.vector.ensures.firings) in
    let tokens : c.len-tokens.result ≡ length c.index-feeds-actor.result.items = omega (arith, c.len-tokens.ensures, c.index-feeds-actor.result.ok.0) in
    exact_next c.args.accepted.now (feeds_in c.args.feeds.now) c.args.periods c.loop-actor.actor c.loop-actor.invariant
    (exact_of c.args.accepted.now c.args.feeds.now c.args.periods c.loop-actor.actor c.index-feeds-actor.result c.graph-graph.ensures.accepted
    c.loop-actor-test.true c.index-feeds-actor.is
    (just_on _ _ c.loop-actor.actor _ _ _ _ c.graph-graph.ensures.graph tokens firings (c.is_just.ensures.0 c.if-not-is_just.false)))
