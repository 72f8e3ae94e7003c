-- With no limit on all firings and ample cells: the sequential run is an honest journal, and long enough files are used up.
use Rattle.std.proofs.Common.{◌≡◌, ℕ, ◌*◌, ◌<◌, nat_le, List, [], ◌∷◌, length, get_or, set, replicate, refl, ap, sym, subst, ◌∙◌, true, false}
use Rattle.std.proofs.Common.{Option, None}
use Rattle.std.specs.Prelude.{ℤ, slice_index}
use Rattle.std.proofs.lemmas.List.{length-map}
use Rattle.csdf_model.specs.Graph as graph
use Rattle.csdf_model.specs.Graph.{phases_of}
use Rattle.csdf_analysis.specs.Acceptance.{Accepted, IsAccepted}
use Rattle.csdf_core.specs.Moves.{Move}
use Rattle.csdf_core.specs.Moves.{Begin, Read, Write, Finish}
use Rattle.csdf_core.specs.Plan.{Plan, HasAmpleCells}
use Rattle.csdf_core.specs.Planned.{is_source_kernel}
use Rattle.csdf_core.specs.State.{State, Present, present, opening}
use Rattle.csdf_core.specs.Step.{IsQuiet, is_stopped, is_reached, begun_count, count, refusal, answer, accepted, state_after}
use Rattle.csdf_core.proofs.FitLemmas.{IsReached, reached_accepted, reached_all}
use Rattle.csdf_core.proofs.Opening.{reached_opening}
use Rattle.csdf_floor.specs.Journal.{Program, program_for, value, reads_after, no_reads, state_of, IsHonestMove, IsHonestFrom}
use Rattle.csdf_floor.specs.Sequential.{fired, IsSequentialFrom, state_from, moves_from}
use Rattle.csdf_floor.specs.Laws.{IsExhausted, EndsComplete, SequentialIsHonest, OrderDoesNotShow}
use Rattle.csdf_floor.proofs.Works.{playable_program}
use Rattle.csdf_floor.proofs.Faithful.{IsFaithful, faithful_opening}
use Rattle.csdf_floor.proofs.Sequential.{goes, after_begin, after_read, after_write, written_value, length_value}
use Rattle.csdf_floor.proofs.Bounds.{after_is}
use Rattle.csdf_floor.proofs.Unique.{has_sequential_run}
use Rattle.csdf_floor.proofs.Ends.{ends_as_sequential, stays_within}
use Rattle.csdf_floor.proofs.Counted.{ends_counted, stays_counted}
use Rattle.csdf_floor.proofs.Quiet.{done_end, no_output_closed, quiet_is_exhausted}
use Rattle.csdf_core.proofs.Accepting.{all_open, begins_free, reads_free, writes_free, finishes_free}
use Rattle.csdf_floor.proofs.Periods.{completes_all}

-- ---- the sequential run as a journal

-- a state of the sequential run: one that moves reach, with every channel open
record IsOpen (w : Program) (s : State) (kept : List (List ℤ)) : Type 0 where
  pub faithful : IsFaithful w s kept
  pub reached : IsReached w.plan s
  pub opens : s.opens ≡ replicate (length w.plan.channels) true

-- with no limit on all firings there is none to come up to
unlimited_goes_on : (plan : Plan) (p : Present) → plan.firings ≡ None → is_stopped plan p ≡ false
unlimited_goes_on plan p unlimited = ap (λ (f : Option ℕ). is_reached f (begun_count p)) unlimited

honest_cons : (w : Program) (s : State) (kept : List (List ℤ)) (m : Move) (ms : List Move) → IsHonestMove w s kept m
    → IsHonestFrom w (accepted w.plan s m) (reads_after w.plan s kept m) ms → IsHonestFrom w s kept (m ∷ ms)
honest_cons w s kept m ms h rest = (h, subst (λ (t : State). IsHonestFrom w t (reads_after w.plan s kept m) ms) (sym (after_is w.plan s m h.accepted)) rest)

state_cons : (plan : Plan) (s : State) (m : Move) (ms : List Move) → refusal plan (present s) m ≡ None
    → state_after plan s (m ∷ ms) ≡ state_after plan (accepted plan s m) ms
state_cons plan s m ms none = ap (λ (t : State). state_after plan t ms) (after_is plan s m none)

sequential_from : (w : Program) (s : State) (kept : List (List ℤ)) (actors : List ℕ) → w.plan.firings ≡ None → HasAmpleCells w.plan → IsOpen w s kept
    → IsSequentialFrom w s actors
    → IsHonestFrom w s kept (moves_from w s actors) × (state_after w.plan s (moves_from w s actors) ≡ state_from w s actors)
sequential_from w s kept [] unlimited ample o p = (tt, refl)
sequential_from w s kept (a ∷ actors) unlimited ample o p =
    let can = p.0.can_go in
    let k : ℕ = count (present s) a in
    let there : a < length w.plan.sources = can.exists in
    let read : List ℤ = answer w.plan (present s) (Read a) in
    let kept2 : List (List ℤ) = set kept a read in
    let v : List ℤ = written_value w s a in
    let s1 : State = after_begin w s a in
    let s2 : State = after_read w s a in
    let s3 : State = after_write w s a in
    let s4 : State = fired w s a in
    let g = goes w s kept a o.faithful can in
    let n1 : refusal w.plan (present s) (Begin a) ≡ None =
    begins_free w.plan (present s) a (all_open w.plan s a o.opens) (unlimited_goes_on w.plan (present s) unlimited) ample o.reached.fit can in
    let n2 : refusal w.plan (present s1) (Read a) ≡ None = reads_free w.plan (present s1) a there g.begun in
    let n3 : refusal w.plan (present s2) (Write a v) ≡ None = writes_free w.plan (present s2) a v there g.read (length_value w a k read) in
    let n4 : refusal w.plan (present s3) (Finish a) ≡ None = finishes_free w.plan (present s3) a there g.written in
    let r1 = reached_accepted w.plan s (Begin a) o.reached n1 in
    let r2 = reached_accepted w.plan s1 (Read a) r1 n2 in
    let r3 = reached_accepted w.plan s2 (Write a v) r2 n3 in
    let r4 = reached_accepted w.plan s3 (Finish a) r3 n4 in
    let rest = sequential_from w s4 kept2 actors unlimited ample (record { faithful = g.last; reached = r4; opens = o.opens }) p.1 in
    let ms : List Move = moves_from w s4 actors in (
      honest_cons w s kept (Begin a) (Read a ∷ Write a v ∷ Finish a ∷ ms) (record { accepted = n1; just = tt })
          (honest_cons w s1 kept (Read a) (Write a v ∷ Finish a ∷ ms) (record { accepted = n2; just = tt })
          (honest_cons w s2 kept2 (Write a v) (Finish a ∷ ms) (record { accepted = n3; just = ap (value w a k) (sym g.holds) })
          (honest_cons w s3 kept2 (Finish a) ms (record { accepted = n4; just = tt }) rest.0))),
      state_cons w.plan s (Begin a) (Read a ∷ Write a v ∷ Finish a ∷ ms) n1
          ∙ state_cons w.plan s1 (Read a) (Write a v ∷ Finish a ∷ ms) n2
          ∙ state_cons w.plan s2 (Write a v) (Finish a ∷ ms) n3
          ∙ state_cons w.plan s3 (Finish a) ms n4
          ∙ rest.1,
    )

pub sequential_is_honest : SequentialIsHonest
sequential_is_honest w actors playable unlimited ample p =
    sequential_from w (opening w.plan) (no_reads w.plan) actors unlimited ample
    (record { faithful = faithful_opening w; reached = reached_opening w.plan playable; opens = refl }) p

-- ---- long enough files

-- what the accepted graph's periods keep
pub limits_match : (a : Accepted) (feeds : List (List ℤ)) (periods : ℕ) (firings : Option ℕ) → IsAccepted a
    → length (program_for a feeds periods firings).plan.limits ≡ length (program_for a feeds periods firings).plan.sources
limits_match a feeds periods firings ok = length-map a.q (λ q. periods * q) ∙ ok.repetition.firings.each_actor
    ∙ sym (length-map a.graph.actors (λ (actor : graph.Actor). is_source_kernel actor.kernel))

pub ends_complete : EndsComplete
unfolding IsQuiet
ends_complete a feeds periods journal ok few ample cells h quiet x there =
    let w : Program = program_for a feeds periods None in
    let s : State = state_of w journal in
    let reached = reached_all w.plan (opening w.plan) journal (reached_opening w.plan (playable_program a feeds periods None ok few)) in
    let exhausted : IsExhausted w.plan (present s) = record {
      idle = λ b lt. (quiet b lt).0;
      stuck = λ b can. (quiet b can.exists).1 (begins_free w.plan (present s) b (no_output_closed w.plan s b (done_end w journal h) can) refl cells reached.fit
          can);
    } in
    let sequential = has_sequential_run w (limits_match a feeds periods None ok) in
    let same = ends_as_sequential w journal sequential.0 h sequential.1 exhausted in
    let all = completes_all a feeds periods None sequential.0 ok ample sequential.1 x there in
    ap (λ (ks : List ℕ). nat_le (slice_index w.plan.limits x) (get_or ks x 0)) same.counts ∙ all

pub order_does_not_show : OrderDoesNotShow
order_does_not_show a feeds periods firings journal ok few h quiet =
    let w : Program = program_for a feeds periods firings in
    let playable = playable_program a feeds periods firings ok few in
    let sequential = has_sequential_run w (limits_match a feeds periods firings ok) in
    record {
      actors = sequential.0;
      sequential = sequential.1;
      same = λ why.
          (let exhausted = quiet_is_exhausted w journal h quiet why in
          (ends_as_sequential w journal sequential.0 h sequential.1 exhausted, ends_counted w journal sequential.0 playable h sequential.1 exhausted));
      within = (stays_within w journal sequential.0 h sequential.1, stays_counted w journal sequential.0 playable h sequential.1);
    }
