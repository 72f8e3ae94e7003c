-- The sequential run: one actor after the other makes a whole firing, the lowest-numbered that can, until none can. It closes nothing, and knows neither the
-- limit on all firings nor the number of cells.
use Rattle.std.specs.Prelude.{ℕ, ◌<◌, List, [], ◌∷◌, ◌++◌, ℤ, Ok}
use Rattle.csdf_core.specs.Moves.{Move}
use Rattle.csdf_core.specs.Moves.{Begin, Read, Write, Finish}
use Rattle.csdf_core.specs.Plan.{Plan}
use Rattle.csdf_core.specs.State.{State, Present, present, opening}
use Rattle.csdf_core.specs.Step.{Reply, count, answer, accepted}
use Rattle.csdf_core.specs.Going.{CanGo}
use Rattle.csdf_floor.specs.Journal.{Program, value, sink_tokens}

-- no actor is one
abbrev pub IsStuck : Plan → Present → Type 0
IsStuck plan p = (a : ℕ) → CanGo plan p a → ⊥

-- it is the lowest-numbered one
pub record IsNext (plan : Plan) (p : Present) (a : ℕ) : Type 0 where
  pub can_go : CanGo plan p a
  pub lowest : (b : ℕ) → b < a → CanGo plan p b → ⊥

-- the four moves of its next firing, made at one go
abbrev pub firing : Program → State → ℕ → List Move
firing w s a = Begin a ∷ Read a ∷ Write a (value w a (count (present s) a) (answer w.plan (present s) (Read a))) ∷ Finish a ∷ []

-- moves that are made, and not refused: the state after them, and their replies
abbrev pub made : Plan → State → List Move → State
made plan s [] = s
made plan s (m ∷ moves) = made plan (accepted plan s m) moves

abbrev pub replies_made : Plan → State → List Move → List Reply
replies_made plan s [] = []
replies_made plan s (m ∷ moves) = Ok (answer plan (present s) m) ∷ replies_made plan (accepted plan s m) moves

-- the state after a whole firing
abbrev pub fired : Program → State → ℕ → State
fired w s a = made w.plan s (firing w s a)

-- from this state on, the sequential run lets these actors fire, in this order
abbrev pub IsSequentialFrom : Program → State → List ℕ → Type 0
IsSequentialFrom w s [] = IsStuck w.plan (present s)
IsSequentialFrom w s (a ∷ actors) = IsNext w.plan (present s) a × IsSequentialFrom w (fired w s a) actors

-- the sequential run, by the actors that fire
abbrev pub IsSequential : Program → List ℕ → Type 0
IsSequential w actors = IsSequentialFrom w (opening w.plan) actors

-- the state in which whole firings end
abbrev pub state_from : Program → State → List ℕ → State
state_from w s [] = s
state_from w s (a ∷ actors) = state_from w (fired w s a) actors

-- their moves
abbrev pub moves_from : Program → State → List ℕ → List Move
moves_from w s [] = []
moves_from w s (a ∷ actors) = firing w s a ++ moves_from w (fired w s a) actors

-- the tokens that a sink takes in them
abbrev pub sink_from : Program → State → ℕ → List ℕ → List ℤ
sink_from w s t [] = []
sink_from w s t (a ∷ actors) = sink_tokens t (firing w s a) (replies_made w.plan s (firing w s a)) ++ sink_from w (fired w s a) t actors

abbrev pub sequential_moves : Program → List ℕ → List Move
sequential_moves w actors = moves_from w (opening w.plan) actors

abbrev pub sequential_state : Program → List ℕ → State
sequential_state w actors = state_from w (opening w.plan) actors

abbrev pub sequential_sink : Program → ℕ → List ℕ → List ℤ
sequential_sink w t actors = sink_from w (opening w.plan) t actors
