use Rattle.std.proofs.Common.{◌≡◌, ℕ, List, [], ◌∷◌, map, refl, ap₂, ◌∙◌}
use Rattle.std.specs.List.{AllByRecursion}
use Rattle.csdf_core.specs.Ports.{give_at, outputs_at}
use Rattle.csdf_core.proofs.OnePhase.{same_gives}
use Rattle.csdf_floor.proofs.counts.put_counts_after.Goals as goal

map_same : (f g : ℕ → ℕ) (ns : List ℕ) → AllByRecursion (λ c. f c ≡ g c) ns → map f ns ≡ map g ns
map_same f g [] same = refl
map_same f g (c ∷ ns) same = ap₂ (λ (x : ℕ) (xs : List ℕ). x ∷ xs) same.0 (map_same f g ns same.1)

pub returns-then-has_one_phase-clause-value : goal.returns-then-has_one_phase-clause-value
returns-then-has_one_phase-clause-value c =
    let cs = c.args.core.now.plan.channels in
    c.requires.counts
    ∙ map_same (give_at cs c.args.other.firing) (give_at cs c.args.turn.firing) (outputs_at cs c.args.actor)
    (same_gives cs c.args.actor (c.requires.phases c.if-has_one_phase.true) c.args.other.firing c.args.turn.firing)
