-- A state that honest firings lead to, whatever journal they stood in, beside the sequential run.
use Rattle.std.proofs.Common.{◌≡◌, ℕ, ◌<◌, ◌≤◌, inl, inr, List, [], length, get_or, refl, ap, sym, subst, ◌∙◌, ◌++◌, arith, eq-or-lt_of_le}
use Rattle.std.specs.Prelude.{ℤ}
use Rattle.csdf_core.specs.declared.stage.Stage.TheVariants.{Idle}
use Rattle.csdf_core.specs.Going.{CanGo, begun_at}
use Rattle.csdf_core.specs.Moves.{Move}
use Rattle.csdf_core.specs.Plan.{Plan}
use Rattle.csdf_core.specs.State.{State, present, opening}
use Rattle.csdf_core.specs.Step.{count}
use Rattle.csdf_core.specs.Streams.{IsPrefix}
use Rattle.csdf_core.proofs.Able.{IsAble, able_later}
use Rattle.csdf_core.proofs.Accepting.{AllIdle, idle_count}
use Rattle.csdf_core.proofs.Booked.{IsBooked, able_of, can_of}
use Rattle.csdf_core.proofs.FiringCounts.{put_at, got_at, put, got, begun, put_begun, got_begun}
use Rattle.csdf_core.proofs.Opening.{alike}
use Rattle.csdf_floor.specs.Journal.{Program, IsHonest, state_of, reads_of}
use Rattle.csdf_floor.specs.Sequential.{IsSequential, IsStuck, sequential_state, sequential_sink}
use Rattle.csdf_floor.proofs.Faithful.{IsFaithful}
use Rattle.csdf_floor.proofs.Bounds.{faithful_end, within_end, below_from}
use Rattle.csdf_floor.proofs.Agreement.{AreAgreed, agreed_opening, agreed_sequential, agreed_sym}
use Rattle.csdf_floor.proofs.Sequential.{rest_opening, rest_all, stuck_all}
use Rattle.csdf_floor.proofs.Takings.{inputs_to, taken_by, sink_sequential}
use Rattle.csdf_floor.proofs.Ends.{inputs_to_agree, inputs_front, same_streams}

-- the counts as a function
abbrev pub at : List ℕ → ℕ → ℕ
at n b = get_or n b 0

-- counts of firings with which no actor is able to make one more
pub record IsTop (plan : Plan) (n : List ℕ) : Type 0 where
  pub each : length n ≡ length plan.sources
  pub none : (a : ℕ) → IsAble plan (at n) (at n) a (at n a) → ⊥

-- no more has begun than any such counts
abbrev pub IsUnder : Plan → State → Type 0
IsUnder plan s = (n : List ℕ) → IsTop plan n → (b : ℕ) → begun s.counts s.stages b ≤ at n b

-- all that is asked of a state
pub record Stands (w : Program) (s : State) : Type 0 where
  pub kept : List (List ℤ)
  pub faithful : IsFaithful w s kept
  pub agreed : AreAgreed s.streams (opening w.plan).streams
  pub under : IsUnder w.plan s

-- ---- an honest journal leads to one

has_left : (plan : Plan) (s : State) (n : List ℕ) (a : ℕ) → IsBooked plan s → IsTop plan n → ((b : ℕ) → begun s.counts s.stages b ≤ at n b)
    → CanGo plan (present s) a → count (present s) a < at n a
has_left plan s n a bs top within can =
    let k : ℕ = count (present s) a in
    let begins : begun s.counts s.stages a ≡ k = ap (λ x. begun_at x (get_or s.counts a 0)) can.idle in
    let most : k ≤ at n a = (let h = within a in omega arith) in
    elim (eq-or-lt_of_le most) [
      | inl same ↦
          let puts : (b : ℕ) → put s.counts s.stages b ≤ at n b = λ b.
          (let h = within b in let l = put_begun (get_or s.stages b Idle) (get_or s.counts b 0) in omega arith) in
          let gots : (b : ℕ) → got s.counts s.stages b ≤ at n b = λ b.
          (let h = within b in let l = got_begun (get_or s.stages b Idle) (get_or s.counts b 0) in omega arith) in
          let able = able_later plan (put s.counts s.stages) (got s.counts s.stages) (at n) (at n) a k puts gots (able_of plan s a bs can) in
          absurd (top.none a (subst (λ m. IsAble plan (at n) (at n) a m) same able))
      | inr less ↦ less
    ]

under_end : (w : Program) (journal : List Move) → IsHonest w journal → IsUnder w.plan (state_of w journal)
under_end w journal h n top =
    within_end w journal (record { counts = n; stages = []; opens = []; streams = [] }) h (λ u booked within a can.
    has_left w.plan u n a booked top within can)

pub stands_end : (w : Program) (journal : List Move) → IsHonest w journal → Stands w (state_of w journal)
stands_end w journal h = record {
  kept = reads_of w journal;
  faithful = faithful_end w journal h;
  agreed = agreed_opening w journal h;
  under = under_end w journal h;
}

-- ---- tops

-- the counts of an idle state in which no actor can go
pub top_of : (plan : Plan) (t : State) → IsBooked plan t → AllIdle t → IsStuck plan (present t) → IsTop plan t.counts
top_of plan t booked idle stuck = record {
  each = booked.counted;
  none = λ a able. stuck a (can_of plan t a booked (idle a)
      (able_later plan (at t.counts) (at t.counts) (put t.counts t.stages) (got t.counts t.stages) a (at t.counts a)
      (λ b. (let e = idle_count put_at t idle (λ m. refl) b in omega arith))
      (λ b. (let e = idle_count got_at t idle (λ m. refl) b in omega arith)) able));
}

-- ---- beside the sequential run

-- both, with what is known of them
record AreBeside (w : Program) (s t : State) : Type 0 where
  pub second : List (List ℤ)
  pub sequential : IsFaithful w t second
  pub idle : AllIdle t
  pub below : (b : ℕ) → begun s.counts s.stages b ≤ count (present t) b
  pub agreed : AreAgreed s.streams t.streams

beside : (w : Program) (s : State) (actors : List ℕ) → Stands w s → IsSequential w actors → AreBeside w s (sequential_state w actors)
beside w s actors is p =
    let t : State = sequential_state w actors in
    let r = rest_all w (opening w.plan) actors (rest_opening w) p in
    let top : IsTop w.plan t.counts = top_of w.plan t r.faithful.booked r.idle (stuck_all w (opening w.plan) actors p) in
    let first : AreAgreed (opening w.plan).streams s.streams = agreed_sym s.streams (opening w.plan).streams is.agreed in
    record {
      second = r.kept;
      sequential = r.faithful;
      idle = r.idle;
      below = is.under t.counts top;
      agreed = agreed_sym t.streams s.streams (agreed_sequential w (opening w.plan) s is.kept actors (rest_opening w) is.faithful p first);
    }

pub front_of_sequential : (w : Program) (s : State) (actors : List ℕ) → Stands w s → IsSequential w actors → (a : ℕ)
    → IsPrefix (taken_by w a s) (sequential_sink w a actors)
front_of_sequential w s actors is p a =
    let t : State = sequential_state w actors in
    let e = beside w s actors is p in
    let bs = is.faithful.booked in
    let bt = e.sequential.booked in
    let n : ℕ = got s.counts s.stages a in
    let m : ℕ = got t.counts t.stages a in
    let k1 : n ≤ begun s.counts s.stages a = got_begun (get_or s.stages a Idle) (get_or s.counts a 0) in
    let k2 : m ≤ begun t.counts t.stages a = got_begun (get_or t.stages a Idle) (get_or t.counts a 0) in
    let i = idle_count got_at t e.idle (λ x. refl) a in
    let below = e.below a in
    let le : n ≤ m = omega arith in
    let same = inputs_to_agree (put s.counts s.stages) (got s.counts s.stages) (begun s.counts s.stages) (put t.counts t.stages) (got t.counts t.stages)
    (begun t.counts t.stages) a n w.plan.channels s.streams t.streams bs.streamed bt.streamed k1 (omega arith) bs.tallied bt.tallied e.agreed in
    let front = inputs_front a n m w.plan.channels t.streams le in
    (front.0, sink_sequential w a actors p ∙ front.1 ∙ ap (λ (z : List ℤ). z ++ front.0) (sym same))

-- where no actor can go it is the end of the sequential run
pub record IsSameEnd (w : Program) (s : State) (actors : List ℕ) : Type 0 where
  pub counts : (b : ℕ) → count (present s) b ≡ count (present (sequential_state w actors)) b
  pub streams : s.streams ≡ (sequential_state w actors).streams
  pub sinks : (a : ℕ) → taken_by w a s ≡ sequential_sink w a actors

pub end_of_sequential : (w : Program) (s : State) (actors : List ℕ) → Stands w s → IsSequential w actors → AllIdle s → IsStuck w.plan (present s)
    → IsSameEnd w s actors
end_of_sequential w s actors is p idle stuck =
    let t : State = sequential_state w actors in
    let e = beside w s actors is p in
    let bs = is.faithful.booked in
    let bt = e.sequential.booked in
    let all : (b : ℕ) → count (present t) b ≤ count (present s) b =
    below_from w (opening w.plan) s actors (rest_opening w) p bs idle stuck
    (λ b. (let none : count (present (opening w.plan)) b ≡ 0 = alike (length w.plan.sources) b 0 in omega arith)) in
    let equal : (b : ℕ) → count (present s) b ≡ count (present t) b = λ b.
    (let i = idle_count begun_at s idle (λ n. refl) b in let m = e.below b in let l = all b in omega arith) in
    let puts : (b : ℕ) → put s.counts s.stages b ≡ put t.counts t.stages b = λ b. idle_count put_at s idle (λ n. refl) b ∙ equal b
    ∙ sym (idle_count put_at t e.idle (λ n. refl) b) in
    let gots : (b : ℕ) → got s.counts s.stages b ≡ got t.counts t.stages b = λ b. idle_count got_at s idle (λ n. refl) b ∙ equal b
    ∙ sym (idle_count got_at t e.idle (λ n. refl) b) in
    let streams : s.streams ≡ t.streams =
    same_streams (put s.counts s.stages) (got s.counts s.stages) (begun s.counts s.stages) (put t.counts t.stages) (got t.counts t.stages)
    (begun t.counts t.stages) w.plan.channels s.streams t.streams bs.streamed bt.streamed puts gots bs.tallied bt.tallied e.agreed in
    record {
      counts = equal;
      streams = streams;
      sinks = λ a. ap (λ n. inputs_to a n w.plan.channels s.streams) (gots a)
          ∙ ap (inputs_to a (got t.counts t.stages a) w.plan.channels) streams
          ∙ sym (sink_sequential w a actors p);
    }
