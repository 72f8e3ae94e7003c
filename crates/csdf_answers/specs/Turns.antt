-- How the lines of a script are played on a core.
use Rattle.std.specs.Prelude.{◌≡◌, ℕ, List, ◌++◌}
use Rattle.csdf_core.specs.State.{State}
use Rattle.csdf_core.specs.Shows.{View, Shows}
use Rattle.csdf_answers.specs.Lines.{Line}
use Rattle.csdf_answers.specs.Session.{PrintsLine, PrintsLines, next_state}

-- for each state that the old core shows, the line's text was put at the end, and the new core shows the next state
pub record Turns (names : List (List ℕ)) (old new : View) (line : Line) (before after : List ℕ) : Type 0 where
  pub plan : new.plan ≡ old.plan
  pub prints : (s : State) → Shows old s → (text : List ℕ) × PrintsLine names old.plan s line text × (after ≡ before ++ text)
  pub shows : (s : State) → Shows old s → Shows new (next_state old.plan s line)

-- the text of all lines
abbrev pub TurnsAll : List (List ℕ) → View → List Line → List ℕ → Type 0
TurnsAll names old lines text = (s : State) → Shows old s → PrintsLines names old.plan s lines text
