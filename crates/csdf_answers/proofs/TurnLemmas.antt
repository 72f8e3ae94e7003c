-- Playing lines one after another.
use Rattle.std.proofs.Common.{◌≡◌, ℕ, List, [], ◌∷◌, ◌++◌, refl, sym, ap, subst, ◌∙◌, append_assoc, append-nil}
use Rattle.csdf_core.specs.State.{State}
use Rattle.csdf_core.specs.Moves.{Move}
use Rattle.csdf_core.specs.Step.{reply_to}
use Rattle.csdf_core.specs.Shows.{View, Shows, Plays}
use Rattle.csdf_answers.specs.Lines.{Line, Play}
use Rattle.csdf_answers.specs.Session.{PrintsLine, PrintsLines, next_state}
use Rattle.csdf_answers.specs.Turns.{Turns, TurnsAll}

-- where some lines have been played: what is printed for those that are left goes at the end
pub record GoesOn (names : List (List ℕ)) (old now : View) (lines left : List Line) (text : List ℕ) : Type 0 where
  pub plan : now.plan ≡ old.plan
  pub on : (s : State) → Shows old s → (t : State) × Shows now t
      × ((rest : List ℕ) → PrintsLines names old.plan t left rest → PrintsLines names old.plan s lines (text ++ rest))

pub goes_on-more : (names : List (List ℕ)) (old now next : View) (lines left : List Line) (line : Line) (text more : List ℕ)
    → GoesOn names old now lines (line ∷ left) text → Turns names now next line text more → GoesOn names old next lines left more
goes_on-more names old now next lines left line text more h turn = record {
  plan = turn.plan ∙ h.plan;
  on = λ s shown.
      let at = h.on s shown in
      let printed = turn.prints at.0 at.1 in
      let joined = λ (rest : List ℕ). sym (append_assoc text printed.0 rest) ∙ ap (λ t. t ++ rest) (sym printed.2) in
      let first = subst (λ plan. PrintsLine names plan at.0 line printed.0) h.plan printed.1 in (
        next_state old.plan at.0 line,
        subst (λ plan. Shows next (next_state plan at.0 line)) h.plan (turn.shows at.0 at.1),
        λ rest others. subst (PrintsLines names old.plan s lines) (joined rest) (at.2 (printed.0 ++ rest) (printed.0, rest, first, others, refl)),
      );
}

pub goes_on-end : (names : List (List ℕ)) (old now : View) (lines : List Line) (text : List ℕ)
    → GoesOn names old now lines [] text → TurnsAll names old lines text
goes_on-end names old now lines text h = λ s shown. let at = h.on s shown in subst (PrintsLines names old.plan s lines) (append-nil text) (at.2 [] refl)

-- a move has a reply
pub turns-none : (names : List (List ℕ)) (old new : View) (verb name : List ℕ) (m : Move) (before : List ℕ)
    → Plays old new (m ∷ []) [] → Turns names old new (Play verb name m) before before
turns-none names old new verb name m before played = record {
  plan = played.plan;
  prints = λ s shown. absurd (let e : [] ≡ reply_to old.plan s m ∷ [] = played.replies_are s shown in cc);
  shows = λ s shown. played.shows s shown;
}
