-- Capacities don't show in honest journals of the same work.
use Rattle.std.proofs.Common.{◌≡◌, ℕ, zero, suc, ◌<◌, ◌≤◌, inl, inr, List, [], ◌∷◌, ◌++◌, length, get_or, refl, ap, sym, subst, ◌∙◌, arith}
use Rattle.std.proofs.Common.{map}
use Rattle.std.specs.Prelude.{ℤ, All}
use Rattle.std.specs.List.{zip, AllZip, AllByRecursion}
use Rattle.std.proofs.Common.{◌+◌, ◌*◌, Option, None, Bool, false, ◌&&◌, nat_lt, nat_le, eq-or-lt_of_le}
use Rattle.csdf_model.specs.Rates.{total}
use Rattle.csdf_core.proofs.Able.{IsAble, IsAbleAt, later, able_later}
use Rattle.csdf_core.proofs.TalliedMoves.{IsFed}
use Rattle.csdf_core.specs.Going.{CanGo}
use Rattle.csdf_floor.specs.Sequential.{IsStuck}
use Rattle.std.proofs.Math.ListN.{get_or-map}
use Rattle.std.proofs.lemmas.Grind.{same_number_lists}
use Rattle.std.proofs.lemmas.List.{ext_get_or, length-map}
use Rattle.std.proofs.lemmas.List.Elements.{All-map}
use Rattle.std.proofs.lemmas.Bool.{leb-true, leb-false, le-leb}
use Rattle.csdf_analysis.proofs.CountLemmas.{less_or_not}
use Rattle.csdf_core.specs.declared.stage.Stage.{Stage}
use Rattle.csdf_core.specs.declared.stage.Stage.TheVariants.{Idle, Begun, Fetched, Written}
use Rattle.csdf_core.specs.Moves.{Move}
use Rattle.csdf_core.specs.Plan.{Channel, Plan}
use Rattle.csdf_core.specs.State.{Stream, State, present, waiting}
use Rattle.csdf_core.specs.Step.{count, stage, given}
use Rattle.csdf_core.specs.Streams.{part, initial}
use Rattle.csdf_core.specs.Going.{begun_at}
use Rattle.csdf_core.proofs.FiringCounts.{put_at, got_at, put, got, begun, got_begun, put_begun}
use Rattle.csdf_core.proofs.Booked.{IsBooked, able_of, can_of}
use Rattle.csdf_core.proofs.Accepting.{AllIdle, idle_count}
use Rattle.csdf_floor.specs.Journal.{Program, state_of, reads_of, replies_to, sink_tokens, IsHonest, program_for}
use Rattle.csdf_floor.specs.Laws.{DifferInCapacity, AreAlike, AllSpent, written_in}
use Rattle.csdf_floor.specs.Rooms.{AreInStep, StayInStep, CapacitiesDoNotShow, CapacitiesDoNotCount, HoldsNoMore, IsNoRoomier, MoreRoomGoesAsFar, DifferInRoom, RoomDoesNotShow, without_room}
use Rattle.csdf_model.specs.Graph as graph
use Rattle.csdf_analysis.specs.Acceptance.{Accepted, IsAccepted}
use Rattle.csdf_analysis.specs.Laws.{IsWithinAll}
use Rattle.csdf_analysis.specs.Repetition.{AreFirings, Balances, IsBalanced, IsLeastRepetition, IsRepetition}
use Rattle.csdf_core.specs.Planned.{is_source_kernel, with_capacity}
use Rattle.csdf_floor.proofs.Works.{playable_program}
use Rattle.csdf_floor.proofs.Bounds.{Within, within_end, faithful_end, idle_all}
use Rattle.csdf_floor.proofs.Agreement.{IsAgreed, at_channel, both_agreed, faithful_alike, inputs_alike, given_alike, of_alike}
use Rattle.csdf_floor.proofs.Takings.{inputs_to, sink_journal}
use Rattle.csdf_floor.proofs.Ends.{front_of, inputs_to_agree, inputs_front, fronts, same_streams}
use Rattle.csdf_floor.proofs.Places.{inputs_at}
use Rattle.csdf_floor.proofs.Counted.{written_is, taken_is}

-- ---- no more firings than may

limited_end : (w : Program) (ms : List Move) → IsHonest w ms → (b : ℕ) → begun (state_of w ms).counts (state_of w ms).stages b ≤ get_or w.plan.limits b 0
limited_end w ms h = within_end w ms (record { counts = w.plan.limits; stages = []; opens = []; streams = [] }) h
    (λ u booked within a can. leb-false _ _ can.not_spent)

-- an actor that is at its limit is idle
idle_at_limit : (s : Stage) (n : ℕ) → begun_at s n ≤ n → s ≡ Idle
idle_at_limit Idle n le = refl
idle_at_limit Begun n le = absurd (omega arith)
idle_at_limit Fetched n le = absurd (omega arith)
idle_at_limit Written n le = absurd (omega arith)

-- where every actor is spent, all are idle, and the counts are the limits
pub record AreDone (plan : Plan) (s : State) : Type 0 where
  pub idle : AllIdle s
  pub counts : (a : ℕ) → a < length plan.sources → get_or s.counts a 0 ≡ get_or plan.limits a 0

done : (w : Program) (ms : List Move) → IsHonest w ms → AllSpent w.plan (present (state_of w ms)) → AreDone w.plan (state_of w ms)
done w ms h spent =
    let s : State = state_of w ms in
    let limited = limited_end w ms h in
    let reach : (a : ℕ) → a < length w.plan.sources → get_or w.plan.limits a 0 ≤ get_or s.counts a 0 = λ a lt. leb-true _ _ (spent a lt) in
    let rest : (a : ℕ) → a < length w.plan.sources → stage (present s) a ≡ Idle = λ a lt.
    idle_at_limit (get_or s.stages a Idle) (get_or s.counts a 0) (let l = limited a in let r = reach a lt in omega arith) in
    record {
      idle = idle_all w.plan s (faithful_end w ms h).booked rest;
      counts = λ a lt.
          (let begins : begun s.counts s.stages a ≡ get_or s.counts a 0 = ap (λ x. begun_at x (get_or s.counts a 0)) (rest a lt) in
          let l = limited a in let r = reach a lt in omega arith);
    }

-- ---- in step

in_step : (x y : List ℤ) → IsAgreed x y → AreInStep x y
in_step x y same = elim (less_or_not (length x) (length y)) [
  | inl lt ↦ inl (front_of x y same (omega arith))
  | inr ge ↦ inr (front_of y x (λ n a b. sym (same n b a)) (omega arith))
]

inputs_to_alike : (t n : ℕ) (cs ds : List Channel) (sts : List Stream) → AllZip DifferInCapacity cs ds → inputs_to t n cs sts ≡ inputs_to t n ds sts
inputs_to_alike t zero cs ds sts e = refl
inputs_to_alike t (suc n) cs ds sts e =
    ap (λ (z : List ℤ). z ++ inputs_at t n cs sts) (inputs_to_alike t n cs ds sts e)
    ∙ ap (λ (z : List ℤ). inputs_to t n ds sts ++ z) (inputs_alike t n cs ds sts e)

-- what an actor took in each journal, where the firings that it read are n and m
steps_of : (t n m : ℕ) (cs : List Channel) (xs ys : List Stream) → ((k : ℕ) → k ≤ n → k ≤ m → inputs_to t k cs xs ≡ inputs_to t k cs ys)
    → AreInStep (inputs_to t n cs xs) (inputs_to t m cs ys)
steps_of t n m cs xs ys same = elim (less_or_not n m) [
  | inl lt ↦
      let e : inputs_to t n cs xs ≡ inputs_to t n cs ys = same n (omega arith) (omega arith) in
      let front = inputs_front t n m cs ys (omega arith) in
      inl (front.0, front.1 ∙ ap (λ (z : List ℤ). z ++ front.0) (sym e))
  | inr ge ↦
      let e : inputs_to t m cs xs ≡ inputs_to t m cs ys = same m (omega arith) (omega arith) in
      let front = inputs_front t m n cs xs (omega arith) in
      inr (front.0, front.1 ∙ ap (λ (z : List ℤ). z ++ front.0) e)
]

sink_steps : (v w : Program) (one two : List Move) (t : ℕ) → AreAlike v w → IsHonest v one → IsHonest w two
    → AreInStep (sink_tokens t one (replies_to v one)) (sink_tokens t two (replies_to w two))
sink_steps v w one two t e h1 h2 =
    let x : State = state_of v one in
    let y : State = state_of w two in
    let f1 = faithful_end v one h1 in
    let f2 = faithful_alike v w y (reads_of w two) e (faithful_end w two h2) in
    let same = both_agreed v w one two e h1 h2 in
    let n : ℕ = got x.counts x.stages t in
    let m : ℕ = got y.counts y.stages t in
    let k1 : n ≤ begun x.counts x.stages t = got_begun (get_or x.stages t Idle) (get_or x.counts t 0) in
    let k2 : m ≤ begun y.counts y.stages t = got_begun (get_or y.stages t Idle) (get_or y.counts t 0) in
    let steps : AreInStep (inputs_to t n v.plan.channels x.streams) (inputs_to t m v.plan.channels y.streams) =
    steps_of t n m v.plan.channels x.streams y.streams (λ k a b.
    inputs_to_agree (put x.counts x.stages) (got x.counts x.stages) (begun x.counts x.stages) (put y.counts y.stages) (got y.counts y.stages)
    (begun y.counts y.stages) t k v.plan.channels x.streams y.streams f1.booked.streamed f2.booked.streamed (omega arith) (omega arith)
    f1.booked.tallied f2.booked.tallied same) in
    subst (λ (z : List ℤ). AreInStep z (sink_tokens t two (replies_to w two))) (sym (sink_journal v t one h1))
    (subst (λ (z : List ℤ). AreInStep (inputs_to t n v.plan.channels x.streams) z)
    (inputs_to_alike t m v.plan.channels w.plan.channels y.streams e.channels ∙ sym (sink_journal w t two h2)) steps)

pub stay_in_step : StayInStep
stay_in_step v w one two e h1 h2 = record {
  streams = λ c. in_step (written_in (state_of v one) c) (written_in (state_of w two) c)
      (at_channel c (state_of v one).streams (state_of w two).streams (both_agreed v w one two e h1 h2));
  sinks = λ t. sink_steps v w one two t e h1 h2;
}

-- ---- at the end

pub do_not_show : CapacitiesDoNotShow
do_not_show v w one two differ h1 h2 all1 all2 =
    let e = differ.alike in
    let x : State = state_of v one in
    let y : State = state_of w two in
    let d1 = done v one h1 all1 in
    let d2 = done w two h2 all2 in
    let f1 = faithful_end v one h1 in
    let f2 = faithful_alike v w y (reads_of w two) e (faithful_end w two h2) in
    let same = both_agreed v w one two e h1 h2 in
    let few : length v.plan.sources ≡ length w.plan.sources = ap length e.sources in
    let counted : length x.counts ≡ length y.counts = f1.booked.counted ∙ sym f2.booked.counted in
    let counts : x.counts ≡ y.counts = ext_get_or 0 x.counts y.counts counted (λ a lt.
    (let there : a < length v.plan.sources = (let c = f1.booked.counted in omega arith) in
    let there2 : a < length w.plan.sources = omega arith in
    d1.counts a there ∙ ap (λ (ks : List ℕ). get_or ks a 0) differ.limits ∙ sym (d2.counts a there2))) in
    let equal : (b : ℕ) → count (present x) b ≡ count (present y) b = λ b. ap (λ (ks : List ℕ). get_or ks b 0) counts in
    let puts : (b : ℕ) → put x.counts x.stages b ≡ put y.counts y.stages b = λ b.
    idle_count put_at x d1.idle (λ n. refl) b ∙ equal b ∙ sym (idle_count put_at y d2.idle (λ n. refl) b) in
    let gots : (b : ℕ) → got x.counts x.stages b ≡ got y.counts y.stages b = λ b.
    idle_count got_at x d1.idle (λ n. refl) b ∙ equal b ∙ sym (idle_count got_at y d2.idle (λ n. refl) b) in
    let streams : x.streams ≡ y.streams =
    same_streams (put x.counts x.stages) (got x.counts x.stages) (begun x.counts x.stages) (put y.counts y.stages) (got y.counts y.stages)
    (begun y.counts y.stages) v.plan.channels x.streams y.streams f1.booked.streamed f2.booked.streamed puts gots f1.booked.tallied f2.booked.tallied same in
    record {
      counts = counts;
      streams = streams;
      sinks = λ t.
          sink_journal v t one h1
          ∙ ap (λ n. inputs_to t n v.plan.channels x.streams) (gots t)
          ∙ ap (inputs_to t (got y.counts y.stages t) v.plan.channels) streams
          ∙ inputs_to_alike t (got y.counts y.stages t) v.plan.channels w.plan.channels y.streams e.channels
          ∙ sym (sink_journal w t two h2);
    }

initial_alike : (c : ℕ) (cs ds : List Channel) → AllZip DifferInCapacity cs ds
    → part c (map (λ (d : Channel). d.initial) cs) ≡ part c (map (λ (d : Channel). d.initial) ds)
initial_alike c [] [] e = refl
initial_alike c [] (y ∷ ys) e = absurd e
initial_alike c (x ∷ xs) [] e = absurd e
initial_alike zero (x ∷ xs) (y ∷ ys) e = e.0.initial
initial_alike (suc c) (x ∷ xs) (y ∷ ys) e = initial_alike c xs ys e.1

pub do_not_count : CapacitiesDoNotCount
do_not_count v w one two differ p1 p2 h1 h2 all1 all2 =
    let same = do_not_show v w one two differ h1 h2 all1 all2 in
    record {
      written = λ c.
          (let k1 = written_is v one c p1 in
          let k2 = written_is w two c p2 in
          let first : length (initial v.plan c) ≡ length (initial w.plan c) = ap length (initial_alike c v.plan.channels w.plan.channels differ.alike.channels) in
          let whole : length (written_in (state_of v one) c) ≡ length (written_in (state_of w two) c) =
          ap (λ (xs : List Stream). length (part c (map (λ (stream : Stream). stream.written) xs))) same.streams in
          omega arith);
      taken = λ c. taken_is v one c p1 ∙ ap (λ (xs : List Stream). get_or (map (λ (stream : Stream). stream.taken) xs) c 0) same.streams
          ∙ sym (taken_is w two c p2);
      held = λ c. ap (λ (xs : List Stream). length (part c (map waiting xs))) same.streams;
    }

-- ---- more room

-- an actor that is able to fire is so with more room
able_room : (p g : ℕ → ℕ) (a k : ℕ) (cs ds : List Channel) → AllZip DifferInCapacity cs ds → AllZip HoldsNoMore cs ds → AllByRecursion (IsAbleAt p g a k) cs
    → AllByRecursion (IsAbleAt p g a k) ds
able_room p g a k [] [] e more all = tt
able_room p g a k [] (d ∷ ds) e more all = absurd e
able_room p g a k (c ∷ cs) [] e more all = absurd e
able_room p g a k (c ∷ cs) (d ∷ ds) e more all = (
  (
    of_alike (IsFed p a k) c d e.0 all.0.0,
    λ from. (let room = of_alike (λ (x : Channel). x.from ≡ a → length x.initial + total x.produce (suc k) ≤ c.capacity + total x.consume (later g a k x.to))
        c d e.0 all.0.1 from in let le = more.0 in omega arith),
  ),
  able_room p g a k cs ds e.1 more.1 all.1,
)

able_more : (v w : Program) (p g : ℕ → ℕ) (a k : ℕ) → IsNoRoomier v w → IsAble v.plan p g a k → IsAble w.plan p g a k
able_more v w p g a k more able = record {
  exists = subst (λ (bs : List Bool). a < length bs) more.differ.alike.sources able.exists;
  below = subst (λ (ks : List ℕ). nat_le (get_or ks a 0) k ≡ false) more.differ.limits able.below;
  wet = subst (λ n. (get_or w.plan.sources a false && nat_lt (get_or w.plan.supplies a 0) n) ≡ false) (given_alike v w a (suc k) more.differ.alike.channels)
      (subst (λ (bs : List Bool). (get_or bs a false && nat_lt (get_or w.plan.supplies a 0) (given v.plan a (suc k))) ≡ false) more.differ.alike.sources
      (subst (λ (ks : List ℕ). (get_or v.plan.sources a false && nat_lt (get_or ks a 0) (given v.plan a (suc k))) ≡ false) more.supplies able.wet));
  rows = able_room p g a k v.plan.channels w.plan.channels more.differ.alike.channels more.capacities able.rows;
}

-- an actor that can go has a firing left in an exhausted state with more room
left_more : (v w : Program) (s t : State) (a : ℕ) → IsNoRoomier v w → IsBooked v.plan s → IsBooked w.plan t → AllIdle t → IsStuck w.plan (present t) → Within s t
    → CanGo v.plan (present s) a → count (present s) a < count (present t) a
left_more v w s t a more bs bt idle stuck within can =
    let k : ℕ = count (present s) a in
    let begins : begun s.counts s.stages a ≡ k = ap (λ x. begun_at x (get_or s.counts a 0)) can.idle in
    let most : k ≤ count (present t) a = (let h = within a in omega arith) in
    elim (eq-or-lt_of_le most) [
      | inl same ↦
          let puts : (b : ℕ) → put s.counts s.stages b ≤ put t.counts t.stages b = λ b.
          (let h = within b in let l = put_begun (get_or s.stages b Idle) (get_or s.counts b 0) in
          let e = idle_count put_at t idle (λ n. refl) b in omega arith) in
          let gots : (b : ℕ) → got s.counts s.stages b ≤ got t.counts t.stages b = λ b.
          (let h = within b in let l = got_begun (get_or s.stages b Idle) (get_or s.counts b 0) in
          let e = idle_count got_at t idle (λ n. refl) b in omega arith) in
          let able = able_later v.plan (put s.counts s.stages) (got s.counts s.stages) (put t.counts t.stages) (got t.counts t.stages) a k puts gots
          (able_of v.plan s a bs can) in
          let there = able_more v w (put t.counts t.stages) (got t.counts t.stages) a k more able in
          absurd (stuck a (can_of w.plan t a bt (idle a) (subst (λ n. IsAble w.plan (put t.counts t.stages) (got t.counts t.stages) a n) same there)))
      | inr less ↦ less
    ]

count_begun : (s : Stage) (n : ℕ) → n ≤ begun_at s n
count_begun Idle n = omega arith
count_begun Begun n = omega arith
count_begun Fetched n = omega arith
count_begun Written n = omega arith

pub goes_as_far : MoreRoomGoesAsFar
goes_as_far v w one two more h1 h2 exhausted =
    let x : State = state_of v one in
    let y : State = state_of w two in
    let e = more.differ.alike in
    let f1 = faithful_end v one h1 in
    let g2 = faithful_end w two h2 in
    let f2 = faithful_alike v w y (reads_of w two) e g2 in
    let same = both_agreed v w one two e h1 h2 in
    let idle : AllIdle y = idle_all w.plan y g2.booked exhausted.idle in
    let within : Within x y = within_end v one y h1 (λ u booked inside a can. left_more v w u y a more booked g2.booked idle exhausted.stuck inside can) in
    let puts : (b : ℕ) → put x.counts x.stages b ≤ put y.counts y.stages b = λ b.
    (let i = idle_count put_at y idle (λ n. refl) b in let k = put_begun (get_or x.stages b Idle) (get_or x.counts b 0) in let m = within b in omega arith) in
    let gots : (b : ℕ) → got x.counts x.stages b ≤ got y.counts y.stages b = λ b.
    (let i = idle_count got_at y idle (λ n. refl) b in let k = got_begun (get_or x.stages b Idle) (get_or x.counts b 0) in let m = within b in omega arith) in
    record {
      counts = within;
      streams = fronts (put x.counts x.stages) (got x.counts x.stages) (begun x.counts x.stages) (put y.counts y.stages) (got y.counts y.stages)
          (begun y.counts y.stages) v.plan.channels x.streams y.streams f1.booked.streamed f2.booked.streamed puts gots f1.booked.tallied f2.booked.tallied same;
      sinks = λ t.
          (let n : ℕ = got x.counts x.stages t in
          let m : ℕ = got y.counts y.stages t in
          let k1 : n ≤ begun x.counts x.stages t = got_begun (get_or x.stages t Idle) (get_or x.counts t 0) in
          let k2 : m ≤ begun y.counts y.stages t = got_begun (get_or y.stages t Idle) (get_or y.counts t 0) in
          let le : n ≤ m = gots t in
          let inputs : inputs_to t n v.plan.channels x.streams ≡ inputs_to t n w.plan.channels y.streams =
          inputs_to_agree (put x.counts x.stages) (got x.counts x.stages) (begun x.counts x.stages) (put y.counts y.stages) (got y.counts y.stages)
          (begun y.counts y.stages) t n v.plan.channels x.streams y.streams f1.booked.streamed f2.booked.streamed k1 (omega arith)
          f1.booked.tallied f2.booked.tallied same ∙ inputs_to_alike t n v.plan.channels w.plan.channels y.streams e.channels in
          let front = inputs_front t n m w.plan.channels y.streams le in
          (front.0, sink_journal w t two h2 ∙ front.1 ∙ ap (λ (z : List ℤ). z ++ front.0) (sym (sink_journal v t one h1 ∙ inputs))));
      spent = λ all a lt.
          (let reach : get_or v.plan.limits a 0 ≤ get_or x.counts a 0 = leb-true _ _ (all a (let few = ap length e.sources in omega arith)) in
          let limit : get_or v.plan.limits a 0 ≡ get_or w.plan.limits a 0 = ap (λ (ks : List ℕ). get_or ks a 0) more.differ.limits in
          let h = within a in
          let k : get_or x.counts a 0 ≤ begun x.counts x.stages a = count_begun (get_or x.stages a Idle) (get_or x.counts a 0) in
          le-leb _ _ (let le : get_or w.plan.limits a 0 ≤ get_or y.counts a 0 = omega arith in le));
    }

-- ---- one accepted graph, in two rooms

abbrev bare : graph.Channel → graph.Channel
bare c = record c { capacity = None }

same_rows : (cs ds : List graph.Channel) (xs ys : List ℕ) → map bare cs ≡ map bare ds → length xs ≡ length cs → length ys ≡ length ds
    → AllZip DifferInCapacity (map with_capacity (zip cs xs)) (map with_capacity (zip ds ys))
same_rows [] [] xs ys e lx ly = tt
same_rows [] (d ∷ ds) xs ys e lx ly = absurd (cc)
same_rows (c ∷ cs) [] xs ys e lx ly = absurd (cc)
same_rows (c ∷ cs) (d ∷ ds) [] ys e lx ly = absurd (omega arith)
same_rows (c ∷ cs) (d ∷ ds) (x ∷ xs) [] e lx ly = absurd (omega arith)
same_rows (c ∷ cs) (d ∷ ds) (x ∷ xs) (y ∷ ys) e lx ly =
    let first : bare c ≡ bare d = cc in
    let rest : map bare cs ≡ map bare ds = cc in (
      record {
        from = ap (λ (z : graph.Channel). z.from) first;
        to = ap (λ (z : graph.Channel). z.to) first;
        produce = ap (λ (z : graph.Channel). z.produce) first;
        consume = ap (λ (z : graph.Channel). z.consume) first;
        initial = ap (λ (z : graph.Channel). z.initial) first;
      },
      same_rows cs ds xs ys rest (omega arith) (omega arith),
    )

more_rows : (cs ds : List graph.Channel) (xs ys : List ℕ) → length cs ≡ length ds → length xs ≡ length cs → length ys ≡ length ds → IsWithinAll xs ys
    → AllZip HoldsNoMore (map with_capacity (zip cs xs)) (map with_capacity (zip ds ys))
more_rows [] [] xs ys e lx ly within = tt
more_rows [] (d ∷ ds) xs ys e lx ly within = absurd (omega arith)
more_rows (c ∷ cs) [] xs ys e lx ly within = absurd (omega arith)
more_rows (c ∷ cs) (d ∷ ds) [] ys e lx ly within = absurd (omega arith)
more_rows (c ∷ cs) (d ∷ ds) (x ∷ xs) [] e lx ly within = absurd (omega arith)
more_rows (c ∷ cs) (d ∷ ds) (x ∷ xs) (y ∷ ys) e lx ly within =
    (within 0, more_rows cs ds xs ys (omega arith) (omega arith) (omega arith) (λ i. within (suc i)))

-- capacities are no part of what a vector balances
all_bare : (P : graph.Channel → Type 0) (cs : List graph.Channel) → All P (map bare cs) → All (λ c. P (bare c)) cs
all_bare P cs all i d lt = subst P (get_or-map bare cs i d) (all i (bare d) (let len = length-map cs bare in omega arith))

balances_too : (actors : List graph.Actor) (r : List ℕ) (cs ds : List graph.Channel) → map bare cs ≡ map bare ds → Balances actors r cs → Balances actors r ds
balances_too actors r cs ds e all =
    all_bare (IsBalanced actors r) ds (subst (All (IsBalanced actors r)) e (All-map (IsBalanced actors r) bare cs all))

same_vector : (actors : List graph.Actor) (cs ds : List graph.Channel) (r s : List ℕ) → map bare cs ≡ map bare ds → IsLeastRepetition actors cs r
    → IsLeastRepetition actors ds s → r ≡ s
same_vector actors cs ds r s e one two =
    let len : length r ≡ length s = one.vector.each_actor ∙ sym two.vector.each_actor in
    let below = one.least s two.vector (balances_too actors s ds cs (sym e) two.balances) in
    let above = two.least r one.vector (balances_too actors r cs ds e one.balances) in
    same_number_lists r s len (λ k lt. (let x = below k lt in let y = above k (omega arith) in omega arith))

same_firings : (actors : List graph.Actor) (r s p q : List ℕ) → r ≡ s → AreFirings actors r p → AreFirings actors s q → p ≡ q
same_firings actors r s p q e one two =
    let len : length p ≡ length q = one.each_actor ∙ sym two.each_actor in
    same_number_lists p q len (λ k lt.
    (let x = one.firings k lt in let y = two.firings k (omega arith) in
    x ∙ ap (λ (ks : List ℕ). graph.phases_of actors k * get_or ks k 0) e ∙ sym y))

-- a period has as many firings of each actor
pub same_period : (a b : Accepted) → IsAccepted a → IsAccepted b → without_room a.graph ≡ without_room b.graph → a.q ≡ b.q
same_period a b one two e =
    let actors : a.graph.actors ≡ b.graph.actors = ap (λ (g : graph.Graph). g.actors) e in
    let channels : map bare a.graph.channels ≡ map bare b.graph.channels = ap (λ (g : graph.Graph). g.channels) e in
    let there : IsRepetition a.graph.actors b.graph.channels b.r b.q =
    subst (λ (xs : List graph.Actor). IsRepetition xs b.graph.channels b.r b.q) (sym actors) two.repetition in
    same_firings a.graph.actors a.r b.r a.q b.q
    (same_vector a.graph.actors a.graph.channels b.graph.channels a.r b.r channels one.repetition.least there.least) one.repetition.firings there.firings

pub differ_in_room : (a b : Accepted) (feeds : List (List ℤ)) (periods : ℕ) (firings others : Option ℕ) → IsAccepted a → IsAccepted b
    → without_room a.graph ≡ without_room b.graph → DifferInRoom (program_for a feeds periods firings) (program_for b feeds periods others)
differ_in_room a b feeds periods firings others one two e =
    let actors : a.graph.actors ≡ b.graph.actors = ap (λ (g : graph.Graph). g.actors) e in
    let channels : map bare a.graph.channels ≡ map bare b.graph.channels = ap (λ (g : graph.Graph). g.channels) e in
    record {
      alike = record {
        sources = ap (map (λ (x : graph.Actor). is_source_kernel x.kernel)) actors;
        channels = same_rows a.graph.channels b.graph.channels a.capacities b.capacities channels one.least.completes.each_channel
            two.least.completes.each_channel;
        kernels = ap (map (λ (x : graph.Actor). x.kernel)) actors;
        feeds = refl;
      };
      limits = ap (map (λ n. periods * n)) (same_period a b one two e);
    }

no_roomier : (a b : Accepted) (feeds : List (List ℤ)) (periods : ℕ) (firings others : Option ℕ) → IsAccepted a → IsAccepted b
    → without_room a.graph ≡ without_room b.graph → IsWithinAll a.capacities b.capacities
    → IsNoRoomier (program_for a feeds periods firings) (program_for b feeds periods others)
no_roomier a b feeds periods firings others one two e within =
    let channels : map bare a.graph.channels ≡ map bare b.graph.channels = ap (λ (g : graph.Graph). g.channels) e in
    let many : length a.graph.channels ≡ length b.graph.channels =
    sym (length-map a.graph.channels bare) ∙ ap length channels ∙ length-map b.graph.channels bare in
    record {
      differ = differ_in_room a b feeds periods firings others one two e;
      supplies = refl;
      capacities = more_rows a.graph.channels b.graph.channels a.capacities b.capacities many one.least.completes.each_channel
          two.least.completes.each_channel within;
    }

pub room_does_not_show : RoomDoesNotShow
room_does_not_show a b feeds periods firings others one two ok1 ok2 e few h1 h2 =
    let v : Program = program_for a feeds periods firings in
    let w : Program = program_for b feeds periods others in
    let differ = differ_in_room a b feeds periods firings others ok1 ok2 e in
    let p1 = playable_program a feeds periods firings ok1 few in
    let p2 = playable_program b feeds periods others ok2 (subst (All (λ q. periods * q ≤ 16384000)) (same_period a b ok1 ok2 e) few) in
    record {
      in_step = stay_in_step v w one two differ.alike h1 h2;
      same = λ all1 all2. (do_not_show v w one two differ h1 h2 all1 all2, do_not_count v w one two differ p1 p2 h1 h2 all1 all2);
      as_far = λ within exhausted. goes_as_far v w one two (no_roomier a b feeds periods firings others ok1 ok2 e within) h1 h2 exhausted;
    }
