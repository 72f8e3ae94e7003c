-- What a script plays.
use Rattle.std.proofs.Common.{◌≡◌, ℕ, ◌≤◌, List, ◌++◌, length, map, Result, Ok, All, sym, ap, ◌∙◌, arith}
use Rattle.std.specs.Prelude.{replicate}
use Rattle.std.proofs.lemmas.List.{length-map, length-replicate}
use Rattle.std.proofs.lemmas.List.Elements as elements
use Rattle.csdf_model.specs.declared.parts.Actor.{Actor as ActorCode}
use Rattle.csdf_model.specs.Graph.{actor_view}
use Rattle.csdf_graph.specs.ScriptText.{Script}
use Rattle.csdf_graph.proofs.ReadLemmas.{map_map}
use Rattle.csdf_analysis.specs.Acceptance.{Accepted, IsAccepted}
use Rattle.csdf_core.specs.Planned.{plan_for}
use Rattle.csdf_core.proofs.PlanLemmas.{length-capacities}
use Rattle.csdf_answers.specs.declared.fault.ToolFault.{ToolFault}
use Rattle.csdf_answers.specs.Faults.{◌>>=◌}
use Rattle.csdf_answers.specs.Session.{supply_of, plan_in}

-- what was made before, and what is still made
abbrev pub with_front : {B : Type 0} → List B → Result (List B) ToolFault → Result (List B) ToolFault
with_front front read = read >>= λ ys. Ok (front ++ ys)

-- the limits of all actors, as the code makes them
pub limits-made : (a : Accepted) (limit : ℕ) (actors : List ActorCode) (limits : List ℕ)
    → map actor_view actors ≡ a.graph.actors → limits ≡ replicate (length actors) limit → limits ≡ replicate (length a.graph.actors) limit
limits-made a limit actors limits same limits_are =
    limits_are ∙ ap (λ n. replicate n limit) (sym (length-map actors actor_view) ∙ ap length same)

-- there is one for each actor, and none is too great
pub length-limits : (count limit : ℕ) (limits : List ℕ) → limits ≡ replicate count limit → length limits ≡ count
length-limits count limit limits are = ap length are ∙ length-replicate count limit

pub few-limits : (count limit : ℕ) (limits : List ℕ) → limits ≡ replicate count limit → limit ≤ 1_000_000 → All (λ n. n ≤ 16_384_000) limits
few-limits count limit limits are within =
    elements.All-same (λ n. n ≤ 16_384_000) limits (replicate count limit) are (elements.All-replicate (λ n. n ≤ 16_384_000) count limit (omega (arith, within)))

-- as many as there are of what the code sees
pub length-made : {A B C : Type 0} (view : A → B) (f : A → C) (xs : List A) (ys : List B) (zs : List C)
    → map view xs ≡ ys → zs ≡ map f xs → length zs ≡ length ys
length-made view f xs ys zs same made =
    ap length made ∙ length-map xs f ∙ sym (length-map xs view) ∙ ap length same

-- the plan of a script, as the code makes its lists
pub plan_in-made : (a : Accepted) (script : Script) (actors : List ActorCode) (limits supplies : List ℕ)
    → map actor_view actors ≡ a.graph.actors → limits ≡ replicate (length a.graph.actors) script.limit
    → supplies ≡ map (λ actor. supply_of script.supply (actor_view actor)) actors
    → plan_for a limits supplies script.firings ≡ plan_in a script
plan_in-made a script actors limits supplies same limits_are supplies_are =
    let second : supplies ≡ map (supply_of script.supply) a.graph.actors =
    supplies_are ∙ sym (map_map (supply_of script.supply) actor_view actors) ∙ ap (map (supply_of script.supply)) same in
    ap (λ ls. plan_for a ls supplies script.firings) limits_are ∙ ap (λ ss. plan_for a (replicate (length a.graph.actors) script.limit) ss script.firings) second

-- it has the channels of its graph
pub length-channels : (a : Accepted) (script : Script) → IsAccepted a → length (plan_in a script).channels ≡ length a.graph.channels
length-channels a script h = length-capacities a.graph.channels a.capacities h.least.completes.each_channel
