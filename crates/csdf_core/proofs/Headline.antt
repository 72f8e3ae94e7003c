-- The headline: what any list of moves from the opening state keeps.
use Rattle.std.proofs.Common.{◌≡◌, ℕ, zero, suc, ◌+◌, ◌≤◌, List, [], ◌∷◌, length, get_or, take, map, refl, ap, subst, ◌∙◌, sym, arith}
use Rattle.std.specs.List.{zip, AllByRecursion}
use Rattle.std.proofs.lemmas.List.{length-append, length-drop, length-take-le, length-map}
use Rattle.csdf_core.specs.Moves.{Move}
use Rattle.csdf_core.specs.Plan.{Channel, Plan}
use Rattle.csdf_core.specs.Playable.{IsPlayable}
use Rattle.csdf_core.specs.Rows.{Row}
use Rattle.csdf_core.specs.State.{Stream, State, waiting, opening}
use Rattle.csdf_core.specs.Step.{Reply, after, replies_of, reply_to, state_after}
use Rattle.csdf_core.specs.Streams.{part, initial, tokens_taken, written_to, peak_of}
use Rattle.csdf_core.specs.Headline.{capacity_of, KeepsOrder, KeepsCapacities, KeepsClosed}
use Rattle.csdf_core.specs.Shows.{View, Shows, Plays, raised_over}
use Rattle.csdf_core.proofs.FitLemmas.{within_all, reached_all}
use Rattle.csdf_core.proofs.Flows.{AreLawful}
use Rattle.csdf_core.proofs.Opening.{reached_opening}
use Rattle.csdf_core.proofs.History.{gone, in_written, taken_prefix, streams_told}
use Rattle.csdf_core.proofs.Closings.{closed_for_good}
use Rattle.csdf_core.proofs.Peaks.{peaks_from_opening}

-- the replies to a front are the front of the replies
pub take-replies_of : (plan : Plan) (s : State) (n : ℕ) (ms : List Move) → take n (replies_of plan s ms) ≡ replies_of plan s (take n ms)
take-replies_of plan s zero ms = refl
take-replies_of plan s (suc n) [] = refl
take-replies_of plan s (suc n) (m ∷ ms) = ap (λ (rs : List Reply). reply_to plan s m ∷ rs) (take-replies_of plan (after plan s m) n ms)

-- a channel within its capacity: what was written is no more than the capacity and what was taken
within_capacity : (c : ℕ) (cs : List Channel) (sts : List Stream) → length sts ≡ length cs
    → AllByRecursion (λ (row : Row). length row.1 ≤ row.0.capacity) (zip cs (map waiting sts)) → AreLawful sts
    → length (part c (map in_written sts)) ≤ get_or (map (λ (d : Channel). d.capacity) cs) c 0 + length (part c (map gone sts))
within_capacity c [] [] e within lawful = omega arith
within_capacity c [] (st ∷ sts) e within lawful = absurd (omega arith)
within_capacity c (d ∷ cs) [] e within lawful = absurd (omega arith)
within_capacity zero (d ∷ cs) (st ∷ sts) e within lawful =
    let waits = length-drop st.taken st.written in
    let went = length-take-le st.taken st.written lawful.0 in
    omega (arith, within.0)
within_capacity (suc c) (d ∷ cs) (st ∷ sts) e within lawful = within_capacity c cs sts (omega arith) within.1 lawful.1

-- after all moves from the opening state
all_within : (plan : Plan) (c : ℕ) (ms : List Move) → IsPlayable plan
    → length (initial plan c) + length (written_to plan c ms (replies_of plan (opening plan) ms)) ≤ capacity_of plan c + length
    (tokens_taken plan c ms (replies_of plan (opening plan) ms))
all_within plan c ms h =
    let s : State = state_after plan (opening plan) ms in
    let reached = reached_all plan (opening plan) ms (reached_opening plan h) in
    let told = streams_told plan c ms h in
    let streamed : length s.streams ≡ length plan.channels = sym (length-map s.streams waiting) ∙ reached.fit.queued in
    let kept = within_capacity c plan.channels s.streams streamed (within_all plan (opening plan) ms (reached_opening plan h)) reached.lawful in
    let written = ap length told.written ∙ length-append (initial plan c) (written_to plan c ms (replies_of plan (opening plan) ms)) in
    let taken = ap length told.gone in
    omega arith

pub keeps_order : (plan : Plan) (ms : List Move) → IsPlayable plan → KeepsOrder plan ms (replies_of plan (opening plan) ms)
keeps_order plan ms h c n = rw (take-replies_of plan (opening plan) n ms) (taken_prefix plan c (take n ms) h)

pub keeps_capacities : (plan : Plan) (ms : List Move) → IsPlayable plan → KeepsCapacities plan ms (replies_of plan (opening plan) ms)
keeps_capacities plan ms h c n = rw (take-replies_of plan (opening plan) n ms) (all_within plan c (take n ms) h)

pub keeps_closed : (plan : Plan) (ms : List Move) → IsPlayable plan → KeepsClosed plan ms (replies_of plan (opening plan) ms)
keeps_closed plan ms h c n closed = closed_for_good plan c n ms h closed

-- the same of what a core answered
module _ (old new : View) (ms : List Move) (rs : List Reply) (shown : Shows old (opening old.plan)) (p : Plays old new ms rs) (h : IsPlayable new.plan) where
  replies_are : rs ≡ replies_of new.plan (opening new.plan) ms
  replies_are = p.replies_are (opening old.plan) shown ∙ ap (λ (u : Plan). replies_of u (opening u) ms) (sym p.plan)

  pub order_kept : KeepsOrder new.plan ms rs
  order_kept = subst (λ (l : List Reply). KeepsOrder new.plan ms l) (sym replies_are) (keeps_order new.plan ms h)

  pub capacities_kept : KeepsCapacities new.plan ms rs
  capacities_kept = subst (λ (l : List Reply). KeepsCapacities new.plan ms l) (sym replies_are) (keeps_capacities new.plan ms h)

  pub closed_kept : KeepsClosed new.plan ms rs
  closed_kept = subst (λ (l : List Reply). KeepsClosed new.plan ms l) (sym replies_are) (keeps_closed new.plan ms h)

  pub peaks_hold : old.peaks ≡ map length (map (λ (d : Channel). d.initial) old.plan.channels) → (c : ℕ)
      → get_or new.peaks c 0 ≡ peak_of new.plan (opening new.plan) c ms
  peaks_hold first c =
      let over : new.peaks ≡ raised_over old.plan (opening old.plan) (map length (map (λ (d : Channel). d.initial) old.plan.channels)) ms =
      p.peaks (opening old.plan) shown ∙ ap (λ (l : List ℕ). raised_over old.plan (opening old.plan) l ms) first in
      let same : new.peaks ≡ raised_over new.plan (opening new.plan) (map length (map (λ (d : Channel). d.initial) new.plan.channels)) ms =
      over ∙ ap (λ (u : Plan). raised_over u (opening u) (map length (map (λ (d : Channel). d.initial) u.channels)) ms) (sym p.plan) in
      ap (λ (l : List ℕ). get_or l c 0) same ∙ peaks_from_opening new.plan c ms h
