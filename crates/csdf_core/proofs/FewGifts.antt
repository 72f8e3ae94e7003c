-- No firing of a graph's actor gives many tokens.
use Rattle.std.proofs.Common.{ℕ, ◌*◌, ◌≤◌, ◌==◌, Bool, true, false, cond, List, [], ◌∷◌, length, map, arith}
use Rattle.std.specs.List.{zip, AllByRecursion}
use Rattle.std.proofs.lemmas.List.Sums.{sum_by-cons}
use Rattle.csdf_model.specs.Graph as graph
use Rattle.csdf_model.specs.Rates.{rate}
use Rattle.csdf_model.specs.WellFormed.{IsChannel}
use Rattle.csdf_core.specs.Planned.{with_capacity}
use Rattle.csdf_core.specs.Plan.{gives_of}
use Rattle.csdf_core.specs.Rows.{gift}
use Rattle.csdf_core.proofs.PlanLemmas.{rate_small}

few_of : (b : Bool) (x : ℕ) → x ≤ 64 → cond b x 0 ≤ 64
few_of true x le = le
few_of false x le = omega arith

pub few_gifts : (actors : List graph.Actor) (a k : ℕ) (gs : List graph.Channel) (caps : List ℕ) → AllByRecursion (IsChannel actors) gs
    → gift a k (map with_capacity (zip gs caps)) ≤ 64 * length gs
few_gifts actors a k [] caps all = omega arith
few_gifts actors a k (g ∷ gs) [] all = omega arith
few_gifts actors a k (g ∷ gs) (b ∷ caps) all =
    let here : gives_of a k (with_capacity (g, b)) ≤ 64 = few_of (g.from == a) (rate g.produce k) (rate_small g.produce k all.0.produce.small) in
    omega (
      arith,
      sum_by-cons (gives_of a k) (with_capacity (g, b)) (map with_capacity (zip gs caps)),
      here,
      few_gifts actors a k gs caps all.1,
    )
