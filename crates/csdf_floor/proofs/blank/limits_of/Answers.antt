use Rattle.std.proofs.lemmas.Grind.{common_steps}
use Rattle.std.proofs.Common.{◌≡◌, ◌≤◌, ◌*◌, ◌+◌, ◌++◌, [], ◌∷◌, List, ℕ, get_or, drop, map, subst, sym, ◌∙◌, arith}
use Rattle.std.specs.Prelude.{All}
use Rattle.std.proofs.lemmas.List.Elements.{All-get_or, All-push}
use Rattle.csdf_floor.proofs.Loops.{one_more}
use Rattle.csdf_floor.proofs.blank.limits_of.Goals as goal

pub overflow_mul-periods : goal.overflow_mul-periods
overflow_mul-periods c =
    let qs : List ℕ = c.as_slice-firings.result.now in
    let few : All (λ q. c.args.periods * q ≤ 16384000) qs =
    subst (All (λ q. c.args.periods * q ≤ 16384000)) (sym (c.as_slice-firings.ensures.value ∙ c.vector.ensures.firings)) c.requires in
    let most = All-get_or (λ q. c.args.periods * q ≤ 16384000) qs c.loop-actor.actor 0 c.loop-actor-test.true few in
    omega (arith, most)

pub loop-actor-preserved : goal.loop-actor-preserved
loop-actor-preserved c =
    let qs : List ℕ = c.as_slice-firings.result.now in
    let few : All (λ q. c.args.periods * q ≤ 16384000) qs =
    subst (All (λ q. c.args.periods * q ≤ 16384000)) (sym (c.as_slice-firings.ensures.value ∙ c.vector.ensures.firings)) c.requires in
    let items : c.push.new.self.items ≡ c.loop-actor.limits.items ++ (c.args.periods * get_or qs c.loop-actor.actor 0) ∷ [] = c.in_ok-push.ensures.items in
    record {
      limits = subst (λ (xs : List ℕ). xs ++ map (λ q. c.args.periods * q) (drop (c.loop-actor.actor + 1) qs) ≡ map (λ q. c.args.periods * q) qs) (sym items)
          (one_more (λ q. c.args.periods * q) qs c.loop-actor.actor c.loop-actor.limits.items 0 c.loop-actor-test.true c.loop-actor.invariant.limits);
      few = subst (All (λ n. n ≤ 16384000)) (sym items)
          (All-push (λ n. n ≤ 16384000) c.loop-actor.limits.items _ c.loop-actor.invariant.few
          (All-get_or (λ q. c.args.periods * q ≤ 16384000) qs c.loop-actor.actor 0 c.loop-actor-test.true few));
    }

pub returns-clause-value : goal.returns-clause-value
returns-clause-value c = grind (arith, common_steps)
