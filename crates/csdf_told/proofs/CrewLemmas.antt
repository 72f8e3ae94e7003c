-- How many workers pay.
use Rattle.std.proofs.Common.{◌≡◌, ℕ, Bool, cond, max, min, sym, ap, ◌∙◌}
use Rattle.csdf_analysis.specs.Acceptance.{Accepted}
use Rattle.csdf_crew.specs.Heavy.{gains_by_workers}
use Rattle.csdf_told.specs.Crews.{paying_workers}

-- as many as that pays
pub paying : (a : Accepted) (processors : ℕ) (r : Bool) (answer : Bool) → r ≡ gains_by_workers a.graph.actors a.graph.channels a.capacities → r ≡ answer
    → cond answer (max (min processors 8) 1) 1 ≡ paying_workers a processors
paying a processors r answer is same = ap (λ b. cond b (max (min processors 8) 1) 1) (sym same ∙ is)
