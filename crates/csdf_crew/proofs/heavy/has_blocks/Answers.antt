use Rattle.std.proofs.Common.{◌≡◌, ◌≤◌, ◌∙◌, ℕ, map, ap, subst, arith}
use Rattle.std.proofs.lemmas.Bool.Decides.{nat_tests}
use Rattle.csdf_model.specs.Graph.{actor_view, channel_view}
use Rattle.csdf_crew.specs.Heavy.{firings_of_block, hold_all, products}
use Rattle.csdf_crew.proofs.HeavyLemmas.{held_blocks, hold_all_seen}
use Rattle.csdf_crew.proofs.heavy.has_blocks.Goals as goal

pub returns : goal.returns
returns c =
    let each : ℕ = products (map channel_view c.args.channels.now) c.args.number (actor_view c.args.actor.now) in
    let value : c.products-each.result ≡ each = c.products-each.ensures.value in
    let some : 1 ≤ c.products-each.result = grind (arith, nat_tests, c.if-each-eq0.false) in
    let one : c.args.actor.now.phases ≡ 1 = grind (arith, nat_tests, c.if-actor-ne1.false) in
    held_blocks c.args.actor.now.phases each (λ n. hold_all c.args.number (firings_of_block n) (map channel_view c.args.channels.now) c.args.capacities.now) c.hold_all.result
    one (subst (λ n. 1 ≤ n) value some)
    (c.hold_all.ensures ∙ hold_all_seen c.args.number c.firings_of_block.result c.args.channels.now c.args.capacities.now
    ∙ ap (λ n. hold_all c.args.number n (map channel_view c.args.channels.now) c.args.capacities.now) (c.firings_of_block.ensures.value ∙ ap firings_of_block value))
