-- A journal that grows at its end, and its fronts.
use Rattle.std.proofs.Common.{◌≡◌, ℕ, ◌<◌, List, [], ◌∷◌, ◌++◌, length, get_or, refl, ap, sym, ◌∙◌, append-nil, append_assoc, Option, Some, None}
use Rattle.std.specs.Prelude.{ℤ, Ok}
use Rattle.std.proofs.lemmas.List.{get_or-set_other, get_or-set_same}
use Rattle.csdf_model.specs.declared.parts.Kernel.TheVariants.{Sink}
use Rattle.csdf_kernel.specs.Value.{value_of}
use Rattle.csdf_core.specs.declared.refusal.Refusal.{Refusal}
use Rattle.csdf_core.specs.Moves.{Begin, Read, Write, Finish, Close}
use Rattle.csdf_core.specs.Moves.{Move}
use Rattle.csdf_core.specs.Plan.{Plan}
use Rattle.csdf_core.specs.State.{State, present, opening}
use Rattle.csdf_core.specs.Step.{refusal, answer, after, reply_by, reply_to, replies_of, state_after}
use Rattle.csdf_floor.specs.Journal.{Program, reads_after, reads_from, no_reads, IsHonestMove, IsHonestFrom, took, sink_tokens, value, inputs, output_counts}
use Rattle.csdf_floor.specs.Laws.{GoesOn, IsHonestAtEach, IsMoveOf}

honest_push : (w : Program) (s : State) (reads : List (List ℤ)) (ms : List Move) (m : Move) → IsHonestFrom w s reads ms
    → IsHonestMove w (state_after w.plan s ms) (reads_from w.plan s reads ms) m → IsHonestFrom w s reads (ms ++ m ∷ [])
honest_push w s reads [] m h one = (one, tt)
honest_push w s reads (n ∷ ms) m h one = (h.0, honest_push w (after w.plan s n) (reads_after w.plan s reads n) ms m h.1 one)

pub goes_on : GoesOn
goes_on w journal m h one = honest_push w (opening w.plan) (no_reads w.plan) journal m h one

pub honest_split : (w : Program) (s : State) (reads : List (List ℤ)) (front rest : List Move) → IsHonestFrom w s reads (front ++ rest)
    → IsHonestFrom w s reads front × IsHonestFrom w (state_after w.plan s front) (reads_from w.plan s reads front) rest
honest_split w s reads [] rest h = (tt, h)
honest_split w s reads (m ∷ front) rest h =
    let more = honest_split w (after w.plan s m) (reads_after w.plan s reads m) front rest h.1 in
    ((h.0, more.0), more.1)

pub is_honest_at_each : IsHonestAtEach
is_honest_at_each w front rest m h =
    let parts = honest_split w (opening w.plan) (no_reads w.plan) front (m ∷ rest) h in
    (parts.0, parts.1.0)

-- one more move at the end
pub state_push : (plan : Plan) (s : State) (ms : List Move) (m : Move) → state_after plan s (ms ++ m ∷ []) ≡ after plan (state_after plan s ms) m
state_push plan s [] m = refl
state_push plan s (n ∷ ms) m = state_push plan (after plan s n) ms m

pub reads_push : (plan : Plan) (s : State) (reads : List (List ℤ)) (ms : List Move) (m : Move)
    → reads_from plan s reads (ms ++ m ∷ []) ≡ reads_after plan (state_after plan s ms) (reads_from plan s reads ms) m
reads_push plan s reads [] m = refl
reads_push plan s reads (n ∷ ms) m = reads_push plan (after plan s n) (reads_after plan s reads n) ms m

pub sink_push : (plan : Plan) (t : ℕ) (s : State) (ms : List Move) (m : Move)
    → sink_tokens t (ms ++ m ∷ []) (replies_of plan s (ms ++ m ∷ [])) ≡ sink_tokens t ms (replies_of plan s ms)
    ++ took t m (reply_to plan (state_after plan s ms) m)
sink_push plan t s [] m = append-nil (took t m (reply_to plan s m))
sink_push plan t s (n ∷ ms) m =
    ap (λ (z : List ℤ). took t n (reply_to plan s n) ++ z) (sink_push plan t (after plan s n) ms m)
    ∙ sym (append_assoc (took t n (reply_to plan s n)) (sink_tokens t ms (replies_of plan (after plan s n) ms)) _)

-- ---- what a floor needs beside

-- a move that was answered was accepted
pub accepted_of_reply : (plan : Plan) (s : State) (m : Move) (tokens : List ℤ) → reply_to plan s m ≡ Ok tokens → (refusal plan (present s) m ≡ None)
    × (tokens ≡ answer plan (present s) m)
accepted_of_reply plan s m tokens e = by (refusal plan (present s) m) e
  where
    by : (o : Option Refusal) → reply_by o (answer plan (present s) m) ≡ Ok tokens → (o ≡ None) × (tokens ≡ answer plan (present s) m)
    by None is = (refl, cc)
    by (Some why) is = absurd (cc)

-- the last read of an actor is changed by its own reads alone
pub reads_others : (plan : Plan) (s : State) (reads : List (List ℤ)) (m : Move) (a : ℕ) → (IsMoveOf a m → ⊥)
    → get_or (reads_after plan s reads m) a [] ≡ get_or reads a []
reads_others plan s reads (Begin b) a other = refl
reads_others plan s reads (Read b) a other = get_or-set_other reads b a (answer plan (present s) (Read b)) [] (λ e. other (sym e))
reads_others plan s reads (Write b v) a other = refl
reads_others plan s reads (Finish b) a other = refl
reads_others plan s reads (Close c) a other = refl

pub reads_own : (plan : Plan) (s : State) (reads : List (List ℤ)) (a : ℕ) → a < length reads
    → get_or (reads_after plan s reads (Read a)) a [] ≡ answer plan (present s) (Read a)
reads_own plan s reads a lt = get_or-set_same reads a (answer plan (present s) (Read a)) [] lt

-- the value of a firing, written out
pub value_is : (w : Program) (a k : ℕ) (read : List ℤ) → value w a k read ≡ value_of (get_or w.kernels a Sink) (output_counts w a k) (inputs w a k read)
unfolding value
value_is w a k read = refl
