-- A stretch of whole periods and one that goes on from its end, as one stretch of the whole run.
use Rattle.std.proofs.Common.{◌≡◌, ℕ, zero, suc, ◌+◌, ◌-◌, ◌*◌, ◌<◌, ◌≤◌, inl, inr, true, cond, Bool, List, [], ◌∷◌, ◌++◌}
use Rattle.std.proofs.Common.{length, take, drop, get_or, map, refl, ap, sym, subst, ◌∙◌, arith, None, leb-false, ltb-false, add-mul}
use Rattle.std.specs.Prelude.{ℤ, slice_range, slice_index}
use Rattle.std.specs.List.{zip, AllByRecursion, AllZip}
use Rattle.std.proofs.Math.Seq.{drop-append-add}
use Rattle.std.proofs.lemmas.List.{length-append, drop-append-le, take-append-le, length-drop}
use Rattle.std.proofs.lemmas.Bool.{cases_Bool, lt-leb}
use Rattle.csdf_model.specs.declared.parts.Kernel.TheVariants.{Sink}
use Rattle.csdf_model.specs.Graph as graph
use Rattle.csdf_model.specs.Rates.{produced, consumed}
use Rattle.csdf_kernel.specs.Value.{value_of}
use Rattle.csdf_analysis.specs.Acceptance.{Accepted, IsAccepted, cells_of}
use Rattle.csdf_analysis.proofs.CountLemmas.{less_or_not}
use Rattle.csdf_core.specs.declared.stage.Stage.{Stage}
use Rattle.csdf_core.specs.declared.stage.Stage.TheVariants.{Idle, Begun, Fetched, Written}
use Rattle.csdf_core.specs.Going.{begun_at}
use Rattle.csdf_core.specs.Plan.{Channel}
use Rattle.csdf_core.specs.Planned.{with_capacity}
use Rattle.csdf_core.specs.Rows.{joined, shares}
use Rattle.csdf_core.specs.State.{Stream, State, present}
use Rattle.csdf_core.specs.Step.{count, given, is_source}
use Rattle.csdf_core.proofs.Able.{IsAble, able_later}
use Rattle.csdf_core.proofs.Accepting.{AllIdle, idle_count}
use Rattle.csdf_core.proofs.Booked.{IsBooked, able_of, can_of}
use Rattle.csdf_core.proofs.FiringCounts.{put_at, got_at, tell, put, got, begun}
use Rattle.csdf_core.proofs.Periodic.{IsPeriodic, each_periodic, able_rows as each_channel, given_mono, wet_at}
use Rattle.csdf_core.proofs.RoomLemmas.{second_false}
use Rattle.csdf_core.proofs.Tallies.{AreTallied}
use Rattle.csdf_core.proofs.TalliedMoves.{tallied_same}
use Rattle.csdf_floor.specs.Journal.{Program, program_for, value, inputs, output_counts}
use Rattle.csdf_floor.specs.Sequential.{IsStuck}
use Rattle.csdf_floor.specs.Continuing.{AreExact}
use Rattle.csdf_floor.proofs.Faithful.{IsFaithful, IsValueAt}
use Rattle.csdf_floor.proofs.Honestly.{get_length}
use Rattle.csdf_floor.proofs.JoinedStreams.{IsWholeAt, IsFirst, AllMeet, going_on, joined_streams, all_meet, length_joined, tallied_joined, agreed_joined, able_rows}
use Rattle.csdf_floor.proofs.JoinedStreams.{able_rows_back, shares_again, counts_again, given_more, inputs_first, outputs_first, inputs_second, outputs_second}
use Rattle.csdf_floor.proofs.JoinedStreams.{inputs_to_both, waiting_joined}
use Rattle.csdf_floor.proofs.Periods.{get_mul}
use Rattle.csdf_floor.proofs.Places.{inputs_at}
use Rattle.csdf_floor.proofs.Standings.{at, IsTop, IsUnder, Stands}
use Rattle.csdf_floor.proofs.Takings.{inputs_to, taken_by}

-- ---- lists of numbers

abbrev pub sums : List ℕ → List ℕ → List ℕ
sums xs ys = map (λ (pair : ℕ × ℕ). pair.0 + pair.1) (zip xs ys)

abbrev pub rests : List ℕ → List ℕ → List ℕ
rests xs ys = map (λ (pair : ℕ × ℕ). pair.0 - pair.1) (zip xs ys)

length_sums : (xs ys : List ℕ) → length xs ≡ length ys → length (sums xs ys) ≡ length ys
length_sums [] [] e = refl
length_sums [] (y ∷ ys) e = absurd (omega arith)
length_sums (x ∷ xs) [] e = refl
length_sums (x ∷ xs) (y ∷ ys) e = ap suc (length_sums xs ys (omega arith))

length_rests : (xs ys : List ℕ) → length xs ≡ length ys → length (rests xs ys) ≡ length ys
length_rests [] [] e = refl
length_rests [] (y ∷ ys) e = absurd (omega arith)
length_rests (x ∷ xs) [] e = refl
length_rests (x ∷ xs) (y ∷ ys) e = ap suc (length_rests xs ys (omega arith))

at_sums : (xs ys : List ℕ) (b : ℕ) → length xs ≡ length ys → at (sums xs ys) b ≡ at xs b + at ys b
at_sums [] [] b e = (let z : 0 ≡ 0 + 0 = omega arith in z)
at_sums [] (y ∷ ys) b e = absurd (omega arith)
at_sums (x ∷ xs) [] b e = absurd (omega arith)
at_sums (x ∷ xs) (y ∷ ys) zero e = refl
at_sums (x ∷ xs) (y ∷ ys) (suc b) e = at_sums xs ys b (omega arith)

at_rests : (xs ys : List ℕ) (b : ℕ) → length xs ≡ length ys → at (rests xs ys) b ≡ at xs b - at ys b
at_rests [] [] b e = (let z : 0 ≡ 0 - 0 = omega arith in z)
at_rests [] (y ∷ ys) b e = absurd (omega arith)
at_rests (x ∷ xs) [] b e = absurd (omega arith)
at_rests (x ∷ xs) (y ∷ ys) zero e = refl
at_rests (x ∷ xs) (y ∷ ys) (suc b) e = at_rests xs ys b (omega arith)

at_joined : (xs ys : List (List ℤ)) (i : ℕ) → length xs ≡ length ys → get_or (joined xs ys) i [] ≡ get_or xs i [] ++ get_or ys i []
at_joined [] [] i e = refl
at_joined [] (y ∷ ys) i e = absurd (omega arith)
at_joined (x ∷ xs) [] i e = absurd (omega arith)
at_joined (x ∷ xs) (y ∷ ys) zero e = refl
at_joined (x ∷ xs) (y ∷ ys) (suc i) e = at_joined xs ys i (omega arith)

pub length_joined_feeds : (xs ys : List (List ℤ)) → length xs ≡ length ys → length (joined xs ys) ≡ length ys
length_joined_feeds [] [] e = refl
length_joined_feeds [] (y ∷ ys) e = absurd (omega arith)
length_joined_feeds (x ∷ xs) [] e = refl
length_joined_feeds (x ∷ xs) (y ∷ ys) e = ap suc (length_joined_feeds xs ys (omega arith))

-- ---- counts of firings, by the stage

put_adds : (s : Stage) (x y : ℕ) → put_at s (x + y) ≡ x + put_at s y
put_adds Idle x y = refl
put_adds Begun x y = refl
put_adds Fetched x y = refl
put_adds Written x y = omega arith

got_adds : (s : Stage) (x y : ℕ) → got_at s (x + y) ≡ x + got_at s y
got_adds Idle x y = refl
got_adds Begun x y = refl
got_adds Fetched x y = omega arith
got_adds Written x y = omega arith

begun_adds : (s : Stage) (x y : ℕ) → begun_at s (x + y) ≡ x + begun_at s y
begun_adds Idle x y = refl
begun_adds Begun x y = omega arith
begun_adds Fetched x y = omega arith
begun_adds Written x y = omega arith

tell_adds : (f : Stage → ℕ → ℕ) → ((s : Stage) (x y : ℕ) → f s (x + y) ≡ x + f s y) → (n m : List ℕ) (stages : List Stage) → length n ≡ length m → (b : ℕ)
    → tell f (sums n m) stages b ≡ at n b + tell f m stages b
tell_adds f adds n m stages len b = ap (f (get_or stages b Idle)) (at_sums n m b len) ∙ adds (get_or stages b Idle) (at n b) (at m b)

-- ---- the state of both

abbrev pub joined_state : State → State → State
joined_state s t = record {
  counts = sums s.counts t.counts;
  stages = t.stages;
  opens = t.opens;
  streams = joined_streams s.streams t.streams;
}

-- what goes on from this state of the accepted graph: its channels begin with the tokens that wait there
abbrev pub going_on_from : Accepted → State → List (List ℤ) → ℕ → Program
going_on_from a s feeds periods = record {
  plan = record {
    sources = (program_for a feeds periods None).plan.sources;
    channels = going_on (program_for a feeds periods None).plan.channels s.streams;
    limits = (program_for a feeds periods None).plan.limits;
    supplies = (program_for a feeds periods None).plan.supplies;
    firings = None;
    cells = cells_of a;
  };
  kernels = (program_for a feeds periods None).kernels;
  feeds = feeds;
}

-- the first stretch is at its end
pub record IsOver (a : Accepted) (feeds : List (List ℤ)) (periods : ℕ) (s : State) : Type 0 where
  pub stands : Stands (program_for a feeds periods None) s
  pub idle : AllIdle s
  pub counts : (b : ℕ) → count (present s) b ≡ periods * get_or a.q b 0
  pub exact : AreExact a feeds periods

-- the amounts of an actor that is a source in all
given_same : (a : Accepted) (f g : List (List ℤ)) (p r i k : ℕ) → given (program_for a f p None).plan i k ≡ given (program_for a g r None).plan i k
unfolding given
given_same a f g p r i k = refl

-- ---- the channels at the end of the first stretch

whole_at : (q : List ℕ) (p : ℕ) (n : ℕ → ℕ) (c : graph.Channel) (b : ℕ) → ((d : ℕ) → n d ≡ p * get_or q d 0) → IsPeriodic q c → IsWholeAt n (with_capacity (c, b))
whole_at q p n c b is periodic = record {
  put = λ k.
      (let z : p * get_or q c.from 0 + 0 ≡ p * get_or q c.from 0 = omega arith in
      let none : produced c (n c.from) ≡ periodic.moved p + produced c 0 = ap (produced c) (is c.from ∙ sym z) ∙ periodic.put p 0 in
      let more : produced c (n c.from + k) ≡ periodic.moved p + produced c k = ap (λ (m : ℕ). produced c (m + k)) (is c.from) ∙ periodic.put p k in
      let first : produced c 0 ≡ 0 = refl in
      omega arith);
  taken = λ k.
      (let z : p * get_or q c.to 0 + 0 ≡ p * get_or q c.to 0 = omega arith in
      let none : consumed c (n c.to) ≡ periodic.moved p + consumed c 0 = ap (consumed c) (is c.to ∙ sym z) ∙ periodic.taken p 0 in
      let more : consumed c (n c.to + k) ≡ periodic.moved p + consumed c k = ap (λ (m : ℕ). consumed c (m + k)) (is c.to) ∙ periodic.taken p k in
      let first : consumed c 0 ≡ 0 = refl in
      omega arith);
}

firsts : (n : ℕ → ℕ) (cs : List Channel) (xs : List Stream) → length xs ≡ length cs → AreTallied n n n cs xs → AllByRecursion (IsWholeAt n) cs
    → AllZip (IsFirst n) cs xs
firsts n [] [] len t w = tt
firsts n [] (x ∷ xs) len t w = absurd (omega arith)
firsts n (c ∷ cs) [] len t w = absurd (omega arith)
firsts n (c ∷ cs) (x ∷ xs) len t w = (record { tallied = t.0; whole = w.0 }, firsts n cs xs (omega arith) t.1 w.1)

pub firsts_over : (a : Accepted) (f : List (List ℤ)) (p : ℕ) (s : State) → IsAccepted a → IsOver a f p s
    → AllZip (IsFirst (at s.counts)) (program_for a f p None).plan.channels s.streams
firsts_over a f p s ok over =
    let b = over.stands.faithful.booked in
    let n : ℕ → ℕ = at s.counts in
    let cs : List Channel = (program_for a f p None).plan.channels in
    firsts n cs s.streams b.streamed
    (tallied_same (put s.counts s.stages) (got s.counts s.stages) (begun s.counts s.stages) n n n cs s.streams
    (λ d. sym (idle_count put_at s over.idle (λ m. refl) d)) (λ d. sym (idle_count got_at s over.idle (λ m. refl) d))
    (λ d. sym (idle_count begun_at s over.idle (λ m. refl) d)) b.tallied)
    (each_channel (IsWholeAt n) a.graph.channels a.capacities ok.least.completes.each_channel
    (λ i c is. whole_at a.q p n c (get_or a.capacities i 0) over.counts (each_periodic a ok i c is)))

-- ---- slices of the files

slice_first : (xs ys : List ℤ) (i j : ℕ) → i ≤ j → j ≤ length xs → slice_range (xs ++ ys) i j ≡ slice_range xs i j
slice_first xs ys i j le within =
    ap (take (j - i)) (drop-append-le i xs ys (omega arith))
    ∙ take-append-le (j - i) (drop i xs) ys (let e = length-drop i xs in omega arith)

slice_second : (xs ys : List ℤ) (i j k l : ℕ) → i ≡ length xs + k → j ≡ length xs + l → slice_range (xs ++ ys) i j ≡ slice_range ys k l
slice_second xs ys i j k l e f =
    let same : j - i ≡ l - k = omega arith in
    ap (λ (m : ℕ). take m (drop i (xs ++ ys))) same ∙ ap (λ (m : ℕ). take (l - k) (drop m (xs ++ ys))) e ∙ ap (take (l - k)) (drop-append-add xs ys k)

-- ---- both

module _ (a : Accepted) (f g : List (List ℤ)) (p r : ℕ) (s : State) (ok : IsAccepted a) (lens : length f ≡ length g) (over : IsOver a f p s) where
  abbrev first : Program
  first = program_for a f p None

  abbrev second : Program
  second = going_on_from a s g r

  abbrev whole : Program
  whole = program_for a (joined f g) (p + r) None

  abbrev cs : List Channel
  cs = (program_for a (joined f g) (p + r) None).plan.channels

  abbrev n : ℕ → ℕ
  n b = get_or s.counts b 0

  starts : AllZip (IsFirst n) cs s.streams
  starts = firsts_over a f p s ok over

  -- ---- what the sources give

  given_first : (i k : ℕ) → given whole.plan i k ≡ given first.plan i k
  given_first i k = given_same a (joined f g) f (p + r) p i k

  given_second : (i k : ℕ) → given whole.plan i (n i + k) ≡ given whole.plan i (n i) + given second.plan i k
  unfolding given
  given_second i k = given_more n i k cs s.streams starts

  file_first : (i : ℕ) → is_source whole.plan i ≡ true → length (get_or f i []) ≡ given whole.plan i (n i)
  file_first i source = over.exact i source ∙ sym (given_first i (p * get_or a.q i 0)) ∙ ap (given whole.plan i) (sym (over.counts i))

  -- ---- values

  inputs_one : (i k : ℕ) (read : List ℤ) → k < n i → inputs whole i k read ≡ inputs first i k read
  inputs_one i k read lt = elim (cases_Bool (is_source whole.plan i)) [
    | inl t ↦
        let file = file_first i t in
        let grows : given whole.plan i k ≤ given whole.plan i (suc k) = given_mono whole.plan i k (suc k) (omega arith) in
        let within : given whole.plan i (suc k) ≤ given whole.plan i (n i) = given_mono whole.plan i (suc k) (n i) lt in
        let slices : slice_range (get_or (joined f g) i []) (given whole.plan i k) (given whole.plan i (suc k))
        ≡ slice_range (get_or f i []) (given first.plan i k) (given first.plan i (suc k)) =
        ap (λ (z : List ℤ). slice_range z (given whole.plan i k) (given whole.plan i (suc k))) (at_joined f g i lens)
        ∙ slice_first (get_or f i []) (get_or g i []) (given whole.plan i k) (given whole.plan i (suc k)) grows (omega arith)
        ∙ ap (λ (m : ℕ). slice_range (get_or f i []) m (given whole.plan i (suc k))) (given_first i k)
        ∙ ap (λ (m : ℕ). slice_range (get_or f i []) (given first.plan i k) m) (given_first i (suc k)) in
        ap (λ (b : Bool). cond b (slice_range (get_or (joined f g) i []) (given whole.plan i k) (given whole.plan i (suc k))) read) t ∙ slices
        ∙ sym (ap (λ (b : Bool). cond b (slice_range (get_or f i []) (given first.plan i k) (given first.plan i (suc k))) read) t)
    | inr t ↦
        ap (λ (b : Bool). cond b (slice_range (get_or (joined f g) i []) (given whole.plan i k) (given whole.plan i (suc k))) read) t
        ∙ sym (ap (λ (b : Bool). cond b (slice_range (get_or f i []) (given first.plan i k) (given first.plan i (suc k))) read) t)
  ]

  value_one : (i k : ℕ) (read : List ℤ) → k < n i → value whole i k read ≡ value first i k read
  unfolding value
  value_one i k read lt = ap (value_of (get_or whole.kernels i Sink) (output_counts whole i k)) (inputs_one i k read lt)

  inputs_two : (i j : ℕ) (read : List ℤ) → inputs whole i (n i + j) read ≡ inputs second i j read
  inputs_two i j read = elim (cases_Bool (is_source whole.plan i)) [
    | inl t ↦
        let file = file_first i t in
        let from = given_second i j in
        let to : given whole.plan i (suc (n i + j)) ≡ given whole.plan i (n i) + given second.plan i (suc j) =
        ap (given whole.plan i) (let e : suc (n i + j) ≡ n i + suc j = omega arith in e) ∙ given_second i (suc j) in
        let slices : slice_range (get_or (joined f g) i []) (given whole.plan i (n i + j)) (given whole.plan i (suc (n i + j)))
        ≡ slice_range (get_or g i []) (given second.plan i j) (given second.plan i (suc j)) =
        ap (λ (z : List ℤ). slice_range z (given whole.plan i (n i + j)) (given whole.plan i (suc (n i + j)))) (at_joined f g i lens)
        ∙ slice_second (get_or f i []) (get_or g i []) (given whole.plan i (n i + j)) (given whole.plan i (suc (n i + j))) (given second.plan i j)
        (given second.plan i (suc j)) (omega arith) (omega arith) in
        ap (λ (b : Bool). cond b (slice_range (get_or (joined f g) i []) (given whole.plan i (n i + j)) (given whole.plan i (suc (n i + j)))) read) t ∙ slices
        ∙ sym (ap (λ (b : Bool). cond b (slice_range (get_or g i []) (given second.plan i j) (given second.plan i (suc j))) read) t)
    | inr t ↦
        ap (λ (b : Bool). cond b (slice_range (get_or (joined f g) i []) (given whole.plan i (n i + j)) (given whole.plan i (suc (n i + j)))) read) t
        ∙ sym (ap (λ (b : Bool). cond b (slice_range (get_or g i []) (given second.plan i j) (given second.plan i (suc j))) read) t)
  ]

  value_two : (i j : ℕ) (read : List ℤ) → value whole i (n i + j) read ≡ value second i j read
  unfolding value
  value_two i j read =
      ap (λ (z : List ℕ). value_of (get_or whole.kernels i Sink) z (inputs whole i (n i + j) read)) (counts_again n i j cs s.streams starts)
      ∙ ap (value_of (get_or whole.kernels i Sink) (output_counts second i j)) (inputs_two i j read)

  -- ---- who is able to go

  limit_more : (i : ℕ) → get_or whole.plan.limits i 0 ≡ n i + get_or second.plan.limits i 0
  limit_more i = get_mul (p + r) a.q i ∙ add-mul p r (get_or a.q i 0)
      ∙ ap (λ (m : ℕ). m + r * get_or a.q i 0) (sym (over.counts i)) ∙ ap (λ (m : ℕ). n i + m) (sym (get_mul r a.q i))

  supply_more : (i : ℕ) → get_or whole.plan.supplies i 0 ≡ length (get_or f i []) + get_or second.plan.supplies i 0
  supply_more i = get_length (joined f g) i ∙ ap length (at_joined f g i lens) ∙ length-append (get_or f i []) (get_or g i [])
      ∙ ap (λ (m : ℕ). length (get_or f i []) + m) (sym (get_length g i))

  able_first : (put got : ℕ → ℕ) (i k : ℕ) → IsAble first.plan put got i k → IsAble whole.plan put got i k
  able_first put got i k able = record {
    exists = able.exists;
    below =
        (let less : k < get_or first.plan.limits i 0 = leb-false _ _ able.below in
        let limit : get_or first.plan.limits i 0 ≡ n i = get_mul p a.q i ∙ sym (over.counts i) in
        let more = limit_more i in
        lt-leb _ _ (let lt : k < get_or whole.plan.limits i 0 = omega arith in lt));
    wet = wet_at (is_source whole.plan i) (slice_index whole.plan.supplies i) (given whole.plan i (suc k)) (λ source.
        (let enough : given first.plan i (suc k) ≤ slice_index first.plan.supplies i = ltb-false _ _ (second_false _ _ source able.wet) in
        let same = given_first i (suc k) in
        let file : get_or first.plan.supplies i 0 ≡ length (get_or f i []) = get_length f i in
        let more = supply_more i in
        omega arith));
    rows = able.rows;
  }

  able_second : (put got : ℕ → ℕ) (i k : ℕ) → IsAble second.plan put got i k → IsAble whole.plan (λ b. n b + put b) (λ b. n b + got b) i (n i + k)
  able_second put got i k able = record {
    exists = able.exists;
    below =
        (let less : k < get_or second.plan.limits i 0 = leb-false _ _ able.below in
        let more = limit_more i in
        lt-leb _ _ (let lt : n i + k < get_or whole.plan.limits i 0 = omega arith in lt));
    wet = wet_at (is_source whole.plan i) (slice_index whole.plan.supplies i) (given whole.plan i (suc (n i + k))) (λ source.
        (let enough : given second.plan i (suc k) ≤ slice_index second.plan.supplies i = ltb-false _ _ (second_false _ _ source able.wet) in
        let file = file_first i source in
        let more = supply_more i in
        let to : given whole.plan i (suc (n i + k)) ≡ given whole.plan i (n i) + given second.plan i (suc k) =
        ap (given whole.plan i) (let e : suc (n i + k) ≡ n i + suc k = omega arith in e) ∙ given_second i (suc k) in
        omega arith));
    rows = able_rows n put got i k cs s.streams starts able.rows;
  }

  able_back : (put got : ℕ → ℕ) (i k : ℕ) → IsAble whole.plan (λ b. n b + put b) (λ b. n b + got b) i (n i + k) → IsAble second.plan put got i k
  able_back put got i k able = record {
    exists = able.exists;
    below =
        (let less : n i + k < get_or whole.plan.limits i 0 = leb-false _ _ able.below in
        let more = limit_more i in
        lt-leb _ _ (let lt : k < get_or second.plan.limits i 0 = omega arith in lt));
    wet = wet_at (is_source second.plan i) (slice_index second.plan.supplies i) (given second.plan i (suc k)) (λ source.
        (let enough : given whole.plan i (suc (n i + k)) ≤ slice_index whole.plan.supplies i = ltb-false _ _ (second_false _ _ source able.wet) in
        let file = file_first i source in
        let more = supply_more i in
        let to : given whole.plan i (suc (n i + k)) ≡ given whole.plan i (n i) + given second.plan i (suc k) =
        ap (given whole.plan i) (let e : suc (n i + k) ≡ n i + suc k = omega arith in e) ∙ given_second i (suc k) in
        omega arith));
    rows = able_rows_back n put got i k cs s.streams starts able.rows;
  }

  -- no more begins than any counts with which no actor is able to go on
  under_both : (t : State) → IsUnder second.plan t → length t.counts ≡ length whole.plan.sources → IsUnder whole.plan (joined_state s t)
  under_both t under counted top_counts top b =
      let lenn : length top_counts ≡ length s.counts = top.each ∙ sym over.stands.faithful.booked.counted in
      let lent : length s.counts ≡ length t.counts = over.stands.faithful.booked.counted ∙ sym counted in
      let before : (d : ℕ) → n d ≤ at top_counts d = λ d.
      (let one = over.stands.under top_counts (record {
        each = top.each;
        none = λ i able. top.none i (able_first (at top_counts) (at top_counts) i
            (at top_counts i) able);
      }) d in
      let i = idle_count begun_at s over.idle (λ m. refl) d in omega arith) in
      let left : List ℕ = rests top_counts s.counts in
      let all : (d : ℕ) → n d + at left d ≡ at top_counts d = λ d.
      (let e = at_rests top_counts s.counts d lenn in let le = before d in omega arith) in
      let top_left : IsTop second.plan left = record {
        each = length_rests top_counts s.counts lenn ∙ over.stands.faithful.booked.counted;
        none = λ i able. top.none i (subst (λ (m : ℕ). IsAble whole.plan (at top_counts) (at top_counts) i m) (all i)
            (able_later whole.plan (λ d. n d + at left d) (λ d. n d + at left d) (at top_counts) (at top_counts) i (n i + at left i)
            (λ d. (let e = all d in omega arith)) (λ d. (let e = all d in omega arith)) (able_second (at left) (at left) i (at left i) able)));
      } in
      let two = under left top_left b in
      let both = tell_adds begun_at begun_adds s.counts t.counts t.stages lent b in
      let e = all b in
      omega arith

  -- ---- the second stretch beside the first

  module _ (t : State) (is : Stands second t) where
    abbrev u : State
    u = joined_state s t

    lent : length s.counts ≡ length t.counts
    lent = over.stands.faithful.booked.counted ∙ sym is.faithful.booked.counted

    meets : AllMeet n (put t.counts t.stages) (got t.counts t.stages) (begun t.counts t.stages) cs s.streams t.streams
    meets = all_meet n (put t.counts t.stages) (got t.counts t.stages) (begun t.counts t.stages) cs s.streams t.streams starts
        (is.faithful.booked.streamed ∙ length_going) is.faithful.booked.tallied is.agreed
      where
        length_of : (ds : List Channel) (xs : List Stream) → AllZip (IsFirst n) ds xs → length (going_on ds xs) ≡ length ds
        length_of [] xs w = refl
        length_of (d ∷ ds) [] w = absurd w
        length_of (d ∷ ds) (x ∷ xs) w = ap suc (length_of ds xs w.1)

        length_going : length (going_on cs s.streams) ≡ length cs
        length_going = length_of cs s.streams starts

    puts : (b : ℕ) → put u.counts u.stages b ≡ n b + put t.counts t.stages b
    puts b = tell_adds put_at put_adds s.counts t.counts t.stages lent b

    gots : (b : ℕ) → got u.counts u.stages b ≡ n b + got t.counts t.stages b
    gots b = tell_adds got_at got_adds s.counts t.counts t.stages lent b

    begins : (b : ℕ) → begun u.counts u.stages b ≡ n b + begun t.counts t.stages b
    begins b = tell_adds begun_at begun_adds s.counts t.counts t.stages lent b

    booked_both : IsBooked whole.plan u
    booked_both = record {
      counted = length_sums s.counts t.counts lent ∙ is.faithful.booked.counted;
      staged = is.faithful.booked.staged;
      streamed = length_joined n (put t.counts t.stages) (got t.counts t.stages) (begun t.counts t.stages) cs s.streams t.streams meets;
      tallied = tallied_same (λ b. n b + put t.counts t.stages b) (λ b. n b + got t.counts t.stages b) (λ b. n b + begun t.counts t.stages b)
          (put u.counts u.stages) (got u.counts u.stages) (begun u.counts u.stages) cs u.streams puts gots begins
          (tallied_joined n (put t.counts t.stages) (got t.counts t.stages) (begun t.counts t.stages) cs s.streams t.streams meets);
    }

    value_before : (i k : ℕ) → k < n i → IsValueAt whole u.streams i k
    value_before i k lt =
        let old = over.stands.faithful.values i k (let e = idle_count put_at s over.idle (λ m. refl) i in omega arith) in
        let ins = inputs_first n (put t.counts t.stages) (got t.counts t.stages) (begun t.counts t.stages) i k cs s.streams t.streams meets lt in
        outputs_first n (put t.counts t.stages) (got t.counts t.stages) (begun t.counts t.stages) i k cs s.streams t.streams meets lt
        ∙ old
        ∙ ap (shares i k cs) (sym (value_one i k (inputs_at i k cs s.streams) lt))
        ∙ ap (λ (z : List ℤ). shares i k cs (value whole i k z)) (sym ins)

    value_after : (i j : ℕ) → j < put t.counts t.stages i → IsValueAt whole u.streams i (n i + j)
    value_after i j lt =
        let new = is.faithful.values i j lt in
        let ins = inputs_second n (put t.counts t.stages) (got t.counts t.stages) (begun t.counts t.stages) i j cs s.streams t.streams meets in
        outputs_second n (put t.counts t.stages) (got t.counts t.stages) (begun t.counts t.stages) i j cs s.streams t.streams meets
        ∙ new
        ∙ sym (shares_again n i j cs s.streams (value second i j (inputs_at i j (going_on cs s.streams) t.streams)) starts)
        ∙ ap (shares i (n i + j) cs) (sym (value_two i j (inputs_at i j (going_on cs s.streams) t.streams)))
        ∙ ap (λ (z : List ℤ). shares i (n i + j) cs (value whole i (n i + j) z)) (sym ins)

    faithful_both : IsFaithful whole u is.kept
    faithful_both = record {
      booked = booked_both;
      each = is.faithful.each;
      values = λ i k lt. elim (less_or_not k (n i)) [
        | inl before ↦ value_before i k before
        | inr after ↦
            let e : n i + (k - n i) ≡ k = omega arith in
            let p = puts i in
            subst (IsValueAt whole u.streams i) e (value_after i (k - n i) (omega arith))
      ];
      keeps = λ i fetched.
          is.faithful.keeps i fetched
          ∙ sym (inputs_second n (put t.counts t.stages) (got t.counts t.stages) (begun t.counts t.stages) i (get_or t.counts i 0) cs s.streams t.streams meets)
          ∙ ap (λ (m : ℕ). inputs_at i m cs u.streams) (sym (at_sums s.counts t.counts i lent));
    }

    pub stands_both : Stands whole u
    stands_both = record {
      kept = is.kept;
      faithful = faithful_both;
      agreed = agreed_joined n (put t.counts t.stages) (got t.counts t.stages) (begun t.counts t.stages) cs s.streams t.streams meets over.stands.agreed;
      under = under_both t is.under is.faithful.booked.counted;
    }

    pub stuck_both : IsStuck second.plan (present t) → IsStuck whole.plan (present u)
    stuck_both stuck i can =
        let able = able_of whole.plan u i booked_both can in
        let later = able_later whole.plan (put u.counts u.stages) (got u.counts u.stages) (λ b. n b + put t.counts t.stages b) (λ b. n b + got t.counts t.stages b)
        i (count (present u) i) (λ b. (let e = puts b in omega arith)) (λ b. (let e = gots b in omega arith)) able in
        stuck i (can_of second.plan t i is.faithful.booked can.idle
        (able_back (put t.counts t.stages) (got t.counts t.stages) i (count (present t) i)
        (subst (λ (m : ℕ). IsAble whole.plan (λ b. n b + put t.counts t.stages b) (λ b. n b + got t.counts t.stages b) i m)
        (at_sums s.counts t.counts i lent) later)))

    pub waiting_both : (present u).tokens ≡ (present t).tokens
    waiting_both = waiting_joined n (put t.counts t.stages) (got t.counts t.stages) (begun t.counts t.stages) cs s.streams t.streams meets

    pub taken_both : (i : ℕ) → taken_by whole i u ≡ taken_by first i s ++ taken_by second i t
    taken_both i =
        ap (λ (m : ℕ). inputs_to i m cs u.streams) (gots i)
        ∙ inputs_to_both n (put t.counts t.stages) (got t.counts t.stages) (begun t.counts t.stages) i (got t.counts t.stages i) cs s.streams t.streams meets
        ∙ ap (λ (m : ℕ). inputs_to i m cs s.streams ++ inputs_to i (got t.counts t.stages i) (going_on cs s.streams) t.streams)
        (sym (idle_count got_at s over.idle (λ m. refl) i))
