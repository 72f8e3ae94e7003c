-- For which graphs several workers pay, and how many of them make a run where as many are asked for as pay.
use Rattle.std.specs.Prelude.{◌≡◌, ◌⊎◌, ℕ, Option, Some, None, max, min, if◌then◌else◌}
use Rattle.csdf_model.specs.Graph.{Graph}
use Rattle.csdf_analysis.specs.Acceptance.{Accepted, IsAccepted, IsNotAccepted}
use Rattle.csdf_analysis.specs.Room.{IsWithRoom}
use Rattle.csdf_analysis.specs.declared.fault.AcceptFault.{AcceptFault}
use Rattle.csdf_analysis.specs.declared.room.Room.{Room}
use Rattle.csdf_crew.specs.Heavy.{gains_by_workers}
use Rattle.csdf_words.specs.declared.workers.Workers.{Workers}
use Rattle.csdf_words.specs.declared.workers.Workers.TheVariants.{Auto, Count}

-- where two actors or more are heavy as many as there are processors, at least one and at most eight of them; else one
abbrev pub paying_workers : Accepted → ℕ → ℕ
paying_workers a processors = if gains_by_workers a.graph.actors a.graph.channels a.capacities then max (min processors 8) 1 else 1

-- they are as many as pay for the graph with this room, where there are so many processors; and one where it is not accepted
abbrev pub ArePaying : Room → Graph → ℕ → Type 0
ArePaying room g workers =
    ((a : Accepted) × (processors : ℕ) × IsAccepted a × IsWithRoom room a.q g a.graph × (workers ≡ paying_workers a processors))
    ⊎ ((refusal : AcceptFault) × IsNotAccepted g refusal × (workers ≡ 1))

-- those that are asked for: so many, or as many as pay
abbrev pub AreAsked : Workers → Room → Graph → ℕ → Type 0
AreAsked Auto room g workers = ArePaying room g workers
AreAsked (Count n) room g workers = workers ≡ n

-- the same of an accepted graph, where there are so many processors
abbrev pub workers_of : Workers → Accepted → ℕ → ℕ
workers_of Auto a processors = paying_workers a processors
workers_of (Count n) a processors = n

-- how many were chosen, where as many as pay were asked for
abbrev pub chosen : Workers → ℕ → Option ℕ
chosen Auto n = Some n
chosen (Count m) n = None
