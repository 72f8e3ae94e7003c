-- Segments, each going on from the end of the one before, are one run.
use Rattle.std.proofs.Common.{◌≡◌, ℕ, suc, ◌+◌, ◌*◌, ◌≤◌, inl, inr, List, [], ◌∷◌, ◌++◌, length, get_or, map, refl, ap, sym, subst, ◌∙◌, arith}
use Rattle.std.proofs.Common.{Option, None, Some, leb-false, leb-true, le-leb, sum}
use Rattle.std.specs.Prelude.{ℤ, slice_get, sum_by}
use Rattle.std.specs.List.{zip, AllZip}
use Rattle.std.proofs.lemmas.List.{length-map, get_or_past}
use Rattle.std.proofs.lemmas.List.Sums.{sum_by-cons}
use Rattle.csdf_model.specs.Graph as graph
use Rattle.csdf_model.specs.Rates.{produced, consumed}
use Rattle.csdf_analysis.specs.Acceptance.{Accepted, IsAccepted, cells_of}
use Rattle.csdf_model.specs.Holding.{with_initial, HasAsMany, HaveAsMany}
use Rattle.csdf_analysis.proofs.ContinuedLemmas.{continued_accepted}
use Rattle.csdf_analysis.proofs.CountLemmas.{less_or_not}
use Rattle.csdf_core.specs.Going.{begun_at}
use Rattle.csdf_core.specs.Plan.{Channel, Plan}
use Rattle.csdf_core.specs.Planned.{with_capacity, is_source_kernel}
use Rattle.csdf_core.specs.Ever.{repeated}
use Rattle.csdf_core.specs.State.{Stream, State, Present, present, waiting}
use Rattle.csdf_core.specs.Step.{count, given}
use Rattle.csdf_core.proofs.Accepting.{AllIdle, idle_count}
use Rattle.csdf_core.proofs.Ever.{has_period}
use Rattle.csdf_core.proofs.Periodic.{IsPeriodic, each_periodic}
use Rattle.csdf_floor.specs.Journal.{Program, program_for, value, state_of}
use Rattle.csdf_floor.specs.Laws.{AreAmple, IsExhausted}
use Rattle.csdf_floor.specs.Sequential.{IsStuck, sequential_moves}
use Rattle.csdf_floor.specs.Continuing.{Segment, program_of, end_of, sink_in, left_by, beyond, IsWhole, LeavesAsFound, AreContinued}
use Rattle.csdf_floor.specs.Continuing.{feeds_of, periods_of, long_run, sink_in_all, at_last, SegmentsAreOneRun, CanBePlayedWhole}
use Rattle.csdf_floor.proofs.Bounds.{idle_all}
use Rattle.csdf_floor.proofs.JoinedStreams.{IsFirst, begun_with, going_on, length_waiting}
use Rattle.csdf_floor.proofs.Joinings.{joined_state, going_on_from, IsOver, firsts_over, length_joined_feeds, stands_both, stuck_both, waiting_both, taken_both}
use Rattle.csdf_floor.proofs.Honestly.{runs_honestly}
use Rattle.csdf_floor.proofs.Periods.{get_mul}
use Rattle.csdf_floor.proofs.Standings.{at, IsTop, Stands, stands_end, front_of_sequential, end_of_sequential}
use Rattle.csdf_floor.proofs.Takings.{taken_by, sink_journal}

-- ---- the limit on all firings doesn't matter

unlimited : (a : Accepted) (f : List (List ℤ)) (p : ℕ) (firings : Option ℕ) (s : State) → Stands (program_for a f p firings) s
    → Stands (program_for a f p None) s
unfolding value given
unlimited a f p firings s is = record {
  kept = is.kept;
  faithful = record {
    booked = (let b = is.faithful.booked in record { counted = b.counted; staged = b.staged; streamed = b.streamed; tallied = b.tallied });
    each = is.faithful.each;
    values = is.faithful.values;
    keeps = is.faithful.keeps;
  };
  agreed = is.agreed;
  under = λ n top. is.under n (record {
    each = top.each;
    none = λ i able. top.none i (record { exists = able.exists; below = able.below; wet = able.wet; rows = able.rows });
  });
}

stuck_unlimited : (a : Accepted) (f : List (List ℤ)) (p : ℕ) (firings : Option ℕ) (t : Present) → IsStuck (program_for a f p firings).plan t
    → IsStuck (program_for a f p None).plan t
unfolding given
stuck_unlimited a f p firings t stuck i can = stuck i (record {
  exists = can.exists;
  idle = can.idle;
  not_spent = can.not_spent;
  not_dry = can.not_dry;
  not_short = can.not_short;
  not_full = can.not_full;
})

-- ---- the end of a segment that is played whole

-- no actor makes more firings than its limit
top_limits : (a : Accepted) (g : Segment) → IsAccepted a → IsTop (program_of a g).plan (program_of a g).plan.limits
top_limits a g ok = record {
  each = length-map a.q (λ q. g.periods * q) ∙ ok.repetition.firings.each_actor
      ∙ sym (length-map a.graph.actors (λ (actor : graph.Actor). is_source_kernel actor.kernel));
  none = λ i able. (let less = leb-false _ _ able.below in absurd (omega arith));
}

counts_of : (a : Accepted) (g : Segment) → IsAccepted a → IsWhole a g → AllIdle (end_of a g) → (b : ℕ)
    → count (present (end_of a g)) b ≡ g.periods * get_or a.q b 0
counts_of a g ok is idle b =
    let s : State = end_of a g in
    let plan : Plan = (program_of a g).plan in
    let st = stands_end (program_of a g) g.journal is.played.honest in
    let most = st.under plan.limits (top_limits a g ok) b in
    let i = idle_count begun_at s idle (λ m. refl) b in
    let limit : get_or plan.limits b 0 ≡ g.periods * get_or a.q b 0 = get_mul g.periods a.q b in
    let few = (top_limits a g ok).each in
    elim (less_or_not b (length plan.sources)) [
      | inl lt ↦ let enough : get_or plan.limits b 0 ≤ count (present s) b = leb-true _ _ (is.spent b lt) in omega arith
      | inr ge ↦ let none : get_or plan.limits b 0 ≡ 0 = get_or_past plan.limits b 0 (omega arith) in omega arith
    ]

over_of : (a : Accepted) (g : Segment) → IsAccepted a → IsWhole a g → IsOver a g.feeds g.periods (end_of a g)
over_of a g ok is =
    let st = stands_end (program_of a g) g.journal is.played.honest in
    let idle : AllIdle (end_of a g) = idle_all (program_of a g).plan (end_of a g) st.faithful.booked is.idle in
    record { stands = unlimited a g.feeds g.periods g.firings (end_of a g) st; idle = idle; counts = counts_of a g ok is idle; exact = is.exact }

-- ---- each channel holds as many tokens as at first

many_all : (q : List ℕ) (p : ℕ) (n : ℕ → ℕ) (gs : List graph.Channel) (caps : List ℕ) (xs : List Stream) → ((d : ℕ) → n d ≡ p * get_or q d 0)
    → length caps ≡ length gs → ((i : ℕ) (c : graph.Channel) → slice_get gs i ≡ Some c → IsPeriodic q c)
    → AllZip (IsFirst n) (map with_capacity (zip gs caps)) xs → AllZip HasAsMany gs (map waiting xs)
many_all q p n [] caps [] is len periodic w = tt
many_all q p n [] caps (x ∷ xs) is len periodic w = absurd w
many_all q p n (c ∷ gs) [] xs is len periodic w = absurd (omega arith)
many_all q p n (c ∷ gs) (b ∷ caps) [] is len periodic w = absurd w
many_all q p n (c ∷ gs) (b ∷ caps) (x ∷ xs) is len periodic w = (
  (let both = length_waiting n (with_capacity (c, b)) x w.0 in
      let was = w.0.tallied.taken in
      let per = periodic 0 c refl in
      let z1 : p * get_or q c.from 0 + 0 ≡ p * get_or q c.from 0 = omega arith in
      let z2 : p * get_or q c.to 0 + 0 ≡ p * get_or q c.to 0 = omega arith in
      let made : produced c (n c.from) ≡ per.moved p + produced c 0 = ap (produced c) (is c.from ∙ sym z1) ∙ per.put p 0 in
      let gone : consumed c (n c.to) ≡ per.moved p + consumed c 0 = ap (consumed c) (is c.to ∙ sym z2) ∙ per.taken p 0 in
      let none1 : produced c 0 ≡ 0 = refl in
      let none2 : consumed c 0 ≡ 0 = refl in
      omega arith),
  many_all q p n gs caps xs is (omega arith) (λ i d there. periodic (suc i) d there) w.1,
)

many_of : (a : Accepted) (g : Segment) → IsAccepted a → IsWhole a g → HaveAsMany (left_by a g) a.graph.channels
many_of a g ok is =
    let over = over_of a g ok is in
    many_all a.q g.periods (at (end_of a g).counts) a.graph.channels a.capacities (end_of a g).streams over.counts ok.least.completes.each_channel
    (each_periodic a ok) (firsts_over a g.feeds g.periods (end_of a g) ok over)

pub leaves_as_found : LeavesAsFound
leaves_as_found a g ok is =
    let many = many_of a g ok is in
    record { as_many = many; accepted = continued_accepted a (left_by a g) ok many; capacities = refl; cells = refl }

-- ---- such segments there are

sum_capacities : (gs : List graph.Channel) (caps : List ℕ) → length caps ≡ length gs
    → sum_by (λ (c : Channel). c.capacity) (map with_capacity (zip gs caps)) ≡ sum caps
sum_capacities [] [] len = refl
sum_capacities [] (b ∷ caps) len = absurd (omega arith)
sum_capacities (c ∷ gs) [] len = absurd (omega arith)
sum_capacities (c ∷ gs) (b ∷ caps) len =
    sum_by-cons (λ (d : Channel). d.capacity) (with_capacity (c, b)) (map with_capacity (zip gs caps))
    ∙ ap (λ (m : ℕ). b + m) (sum_capacities gs caps (omega arith)) ∙ sym (sum_by-cons (λ (m : ℕ). m) b caps)

pub can_be_played_whole : CanBePlayedWhole
can_be_played_whole a feeds periods ok enough each exact =
    let w : Program = program_for a feeds periods None in
    let some = has_period a ok in
    let same = sum_capacities a.graph.channels a.capacities ok.least.completes.each_channel in
    let ample : AreAmple a feeds periods = λ i source. (let e = exact i source in omega arith) in
    let run = runs_honestly a feeds periods None some.0 ok some.1 (omega arith) ample tt in
    let end = run.runs.ends in (
      sequential_moves w (repeated periods some.0),
      record {
        played = record { honest = run.honest; each_actor = each };
        exact = exact;
        spent = λ i lt.
            (let limit : get_or w.plan.limits i 0 ≡ periods * get_or a.q i 0 = get_mul periods a.q i in
            let made = end.counts i in
            le-leb _ _ (let le : get_or w.plan.limits i 0 ≤ count (present (state_of w (sequential_moves w (repeated periods some.0)))) i = omega arith in le));
        idle = λ i lt. end.idle i;
      },
    )

-- ---- the program that goes on

channels_on : (gs : List graph.Channel) (caps : List ℕ) (xs : List Stream)
    → map with_capacity (zip (map with_initial (zip gs (map waiting xs))) caps) ≡ going_on (map with_capacity (zip gs caps)) xs
channels_on [] caps xs = refl
channels_on (c ∷ gs) [] [] = refl
channels_on (c ∷ gs) [] (x ∷ xs) = refl
channels_on (c ∷ gs) (b ∷ caps) [] = refl
channels_on (c ∷ gs) (b ∷ caps) (x ∷ xs) = ap (λ (z : List Channel). begun_with (with_capacity (c, b), x) ∷ z) (channels_on gs caps xs)

abbrev program_with : Accepted → List (List ℤ) → ℕ → List Channel → Program
program_with a feeds periods cs = record {
  plan = record {
    sources = (program_for a feeds periods None).plan.sources;
    channels = cs;
    limits = (program_for a feeds periods None).plan.limits;
    supplies = (program_for a feeds periods None).plan.supplies;
    firings = None;
    cells = cells_of a;
  };
  kernels = (program_for a feeds periods None).kernels;
  feeds = feeds;
}

goes_on_so : (a : Accepted) (g : Segment) (feeds : List (List ℤ)) (periods : ℕ)
    → program_for (beyond a g) feeds periods None ≡ going_on_from a (end_of a g) feeds periods
goes_on_so a g feeds periods = ap (program_with a feeds periods) (channels_on a.graph.channels a.capacities (end_of a g).streams)

-- ---- segments

-- a state of the long run, where these segments end
record Spans (a : Accepted) (more : List Segment) (last : Segment) (u : State) : Type 0 where
  pub stands : Stands (long_run a more last) u
  pub takes : (t : ℕ) → taken_by (long_run a more last) t u ≡ sink_in_all a t more last
  pub left : (present u).tokens ≡ left_by (at_last a more) last
  pub over : IsExhausted (program_of (at_last a more) last).plan (present (end_of (at_last a more) last)) → AllIdle u × IsStuck (long_run a more last).plan (present u)

feeds_each : (a : Accepted) (more : List Segment) (last : Segment) → AreContinued a more last → length (feeds_of more last) ≡ length a.graph.actors
feeds_each a [] last is = is.each_actor
feeds_each a (g ∷ more) last is =
    let rest = feeds_each (beyond a g) more last is.1 in
    length_joined_feeds g.feeds (feeds_of more last) (is.0.played.each_actor ∙ sym rest) ∙ rest

spans : (a : Accepted) (more : List Segment) (last : Segment) → IsAccepted a → AreContinued a more last → (u : State) × Spans a more last u
spans a [] last ok is =
    let st = stands_end (program_of a last) last.journal is.honest in (
      end_of a last,
      record {
        stands = unlimited a last.feeds last.periods last.firings (end_of a last) st;
        takes = λ t. sym (sink_journal (program_of a last) t last.journal is.honest);
        left = refl;
        over = λ e. (
          idle_all (program_of a last).plan (end_of a last) st.faithful.booked e.idle,
          stuck_unlimited a last.feeds last.periods last.firings (present (end_of a last)) e.stuck,
        );
      },
    )
spans a (g ∷ more) last ok is =
    let s : State = end_of a g in
    let over = over_of a g ok is.0 in
    let found = leaves_as_found a g ok is.0 in
    let rest = spans (beyond a g) more last found.accepted is.1 in
    let t : State = rest.0 in
    let feeds : List (List ℤ) = feeds_of more last in
    let periods : ℕ = periods_of more last in
    let lens : length g.feeds ≡ length feeds = is.0.played.each_actor ∙ sym (feeds_each (beyond a g) more last is.1) in
    let same : long_run (beyond a g) more last ≡ going_on_from a s feeds periods = goes_on_so a g feeds periods in
    let second : Stands (going_on_from a s feeds periods) t = subst (λ (w : Program). Stands w t) same rest.1.stands in (
      joined_state s t,
      record {
        stands = stands_both a g.feeds feeds g.periods periods s ok lens over t second;
        takes = λ i.
            taken_both a g.feeds feeds g.periods periods s ok lens over t second i
            ∙ ap (λ (z : List ℤ). z ++ taken_by (going_on_from a s feeds periods) i t) (sym (sink_journal (program_of a g) i g.journal is.0.played.honest))
            ∙ ap (λ (z : List ℤ). sink_in a i g ++ z) (ap (λ (w : Program). taken_by w i t) (sym same) ∙ rest.1.takes i);
        left = waiting_both a g.feeds feeds g.periods periods s ok lens over t second ∙ rest.1.left;
        over = λ e.
            (let done = rest.1.over e in
            let stuck : IsStuck (going_on_from a s feeds periods).plan (present t) = subst (λ (w : Program). IsStuck w.plan (present t)) same done.1 in
            (done.0, stuck_both a g.feeds feeds g.periods periods s ok lens over t second stuck));
      },
    )

pub segments_are_one_run : SegmentsAreOneRun
segments_are_one_run a more last actors ok is p =
    let all = spans a more last ok is in
    let u : State = all.0 in
    let w : Program = long_run a more last in
    record {
      within = λ t. (let front = front_of_sequential w u actors all.1.stands p t in
          (front.0, front.1 ∙ ap (λ (z : List ℤ). z ++ front.0) (all.1.takes t)));
      ends = λ e.
          (let done = all.1.over e in
          let same = end_of_sequential w u actors all.1.stands p done.0 done.1 in
          record {
            sinks = λ t. sym (all.1.takes t) ∙ same.sinks t;
            left = sym all.1.left ∙ ap (λ (xs : List Stream). map waiting xs) same.streams;
          });
    }
