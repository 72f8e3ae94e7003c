-- What every state that accepted moves lead to has: what is written and taken is told by the counts.
use Rattle.std.proofs.Common.{◌≡◌, ℕ, suc, ◌<◌, List, [], ◌∷◌, length, get_or, set, map, replicate, refl, ap, sym, ◌∙◌, arith, None, length-set}
use Rattle.std.specs.Prelude.{ℤ}
use Rattle.std.specs.List.{zip, AllByRecursion}
use Rattle.std.proofs.lemmas.List.{length-map, length-replicate}
use Rattle.csdf_model.specs.Rates.{total}
use Rattle.csdf_core.specs.declared.stage.Stage.{Stage}
use Rattle.csdf_core.specs.declared.stage.Stage.TheVariants.{Idle, Begun, Fetched, Written}
use Rattle.csdf_core.specs.Moves.{Move}
use Rattle.csdf_core.specs.Moves.{Begin, Read, Write, Finish, Close}
use Rattle.csdf_core.specs.Plan.{Channel, Plan}
use Rattle.csdf_core.specs.Rows.{is_short, is_full, cut, gift}
use Rattle.csdf_core.specs.State.{Stream, State, Present, present, waiting, opening}
use Rattle.csdf_core.specs.Step.{count, stage, refusal, accepted}
use Rattle.csdf_core.proofs.Kept.{reads, writes, finishes, position_none, begins}
use Rattle.csdf_core.proofs.Flows.{drained, filled}
use Rattle.csdf_core.proofs.Opening.{alike}
use Rattle.csdf_core.specs.Going.{begun_at}
use Rattle.csdf_core.specs.Going.{CanGo}
use Rattle.csdf_core.proofs.FiringCounts.{put_at, got_at, tell, put, got, begun, staged_same, staged_other, staged_as, finished_as, got_begun}
use Rattle.csdf_core.proofs.Tallies.{AreTallied}
use Rattle.csdf_core.proofs.TalliedMoves.{IsFed, tallied_same, tallied_begun, tallied_read, tallied_written}
use Rattle.csdf_core.proofs.Able.{IsAble, IsAbleAt, able_all, none_short, none_full}

pub record IsBooked (plan : Plan) (s : State) : Type 0 where
  pub counted : length s.counts ≡ length plan.sources
  pub staged : length s.stages ≡ length plan.sources
  pub streamed : length s.streams ≡ length plan.channels
  pub tallied : AreTallied (put s.counts s.stages) (got s.counts s.stages) (begun s.counts s.stages) plan.channels s.streams

-- ---- able, by the state and by the counts

pub idle_at : (f : Stage → ℕ → ℕ) (s : State) (a : ℕ) → stage (present s) a ≡ Idle → ((n : ℕ) → f Idle n ≡ n) → tell f s.counts s.stages a ≡ count (present s) a
idle_at f s a idle same = ap (λ x. f x (get_or s.counts a 0)) idle ∙ same _

pub able_of : (plan : Plan) (s : State) (a : ℕ) → IsBooked plan s → CanGo plan (present s) a
    → IsAble plan (put s.counts s.stages) (got s.counts s.stages) a (count (present s) a)
able_of plan s a booked can = record {
  exists = can.exists;
  below = can.not_spent;
  wet = can.not_dry;
  rows = able_all (put s.counts s.stages) (got s.counts s.stages) (begun s.counts s.stages) a (count (present s) a)
      (idle_at put_at s a can.idle (λ n. refl)) (idle_at got_at s a can.idle (λ n. refl)) (idle_at begun_at s a can.idle (λ n. refl))
      (λ b. got_begun (get_or s.stages b Idle) (get_or s.counts b 0))
      plan.channels s.streams booked.streamed booked.tallied
      (position_none (is_short a (count (present s) a)) 0 (zip plan.channels (map waiting s.streams)) can.not_short)
      (position_none (is_full a (count (present s) a)) 0 (zip plan.channels (map waiting s.streams)) can.not_full);
}

pub can_of : (plan : Plan) (s : State) (a : ℕ) → IsBooked plan s → stage (present s) a ≡ Idle
    → IsAble plan (put s.counts s.stages) (got s.counts s.stages) a (count (present s) a) → CanGo plan (present s) a
can_of plan s a booked idle able = record {
  exists = able.exists;
  idle = idle;
  not_spent = able.below;
  not_dry = able.wet;
  not_short = none_short (put s.counts s.stages) (got s.counts s.stages) (begun s.counts s.stages) a (count (present s) a)
      (idle_at put_at s a idle (λ n. refl)) (idle_at got_at s a idle (λ n. refl)) (idle_at begun_at s a idle (λ n. refl))
      (λ b. got_begun (get_or s.stages b Idle) (get_or s.counts b 0))
      plan.channels s.streams 0 booked.tallied able.rows;
  not_full = none_full (put s.counts s.stages) (got s.counts s.stages) (begun s.counts s.stages) a (count (present s) a)
      (idle_at put_at s a idle (λ n. refl)) (idle_at got_at s a idle (λ n. refl)) (idle_at begun_at s a idle (λ n. refl))
      (λ b. got_begun (get_or s.stages b Idle) (get_or s.counts b 0))
      plan.channels s.streams 0 booked.tallied able.rows;
}

-- an accepted begin
pub can_begin : (plan : Plan) (p : Present) (a : ℕ) → refusal plan p (Begin a) ≡ None → CanGo plan p a
can_begin plan p a e =
    let b = begins plan p a e in
    record { exists = b.there; idle = b.idle; not_spent = b.not_spent; not_dry = b.not_dry; not_short = b.not_short; not_full = b.not_full }

-- ---- what each move keeps

fed_rows : (put got : ℕ → ℕ) (a k : ℕ) (cs : List Channel) → AllByRecursion (IsAbleAt put got a k) cs → AllByRecursion (IsFed put a k) cs
fed_rows put got a k [] all = tt
fed_rows put got a k (c ∷ cs) all = (all.0.0, fed_rows put got a k cs all.1)

pub booked_begun : (plan : Plan) (s : State) (a : ℕ) → IsBooked plan s → CanGo plan (present s) a → IsBooked plan (accepted plan s (Begin a))
booked_begun plan s a booked can =
    let lt : a < length s.stages = (let there = can.exists in let staged = booked.staged in omega arith) in
    let able = able_of plan s a booked can in
    record {
      counted = booked.counted;
      staged = length-set s.stages a Begun ∙ booked.staged;
      streamed = booked.streamed;
      tallied = tallied_begun (put s.counts s.stages) (got s.counts s.stages) (begun s.counts s.stages) (put s.counts (set s.stages a Begun))
          (got s.counts (set s.stages a Begun)) (begun s.counts (set s.stages a Begun))
          a (count (present s) a) plan.channels s.streams
          (staged_as put_at s.counts s.stages a Begun Idle lt can.idle refl)
          (staged_as got_at s.counts s.stages a Begun Idle lt can.idle refl)
          (λ b ne. staged_other begun_at s.counts s.stages a b Begun ne)
          (staged_same begun_at s.counts s.stages a Begun lt)
          (fed_rows (put s.counts s.stages) (got s.counts s.stages) a (count (present s) a) plan.channels able.rows) booked.tallied;
    }

length-drained : (a k : ℕ) (cs : List Channel) (sts : List Stream) → length sts ≡ length cs → length (drained a k cs sts) ≡ length cs
length-drained a k [] sts e = refl
length-drained a k (c ∷ cs) [] e = absurd (omega arith)
length-drained a k (c ∷ cs) (st ∷ sts) e = ap suc (length-drained a k cs sts (omega arith))

length-filled : (amount : Channel → ℕ) (v : List ℤ) (cs : List Channel) (sts : List Stream) → length sts ≡ length cs
    → length (filled sts (cut amount cs v)) ≡ length cs
length-filled amount v [] [] e = refl
length-filled amount v [] (st ∷ sts) e = absurd (omega arith)
length-filled amount v (c ∷ cs) [] e = absurd (omega arith)
length-filled amount v (c ∷ cs) (st ∷ sts) e = ap suc (length-filled amount _ cs sts (omega arith))

pub booked_read : (plan : Plan) (s : State) (a : ℕ) → IsBooked plan s → a < length plan.sources → stage (present s) a ≡ Begun
    → IsBooked plan (accepted plan s (Read a))
booked_read plan s a booked there at =
    let lt : a < length s.stages = (let staged = booked.staged in omega arith) in
    record {
      counted = booked.counted;
      staged = length-set s.stages a Fetched ∙ booked.staged;
      streamed = length-drained a (count (present s) a) plan.channels s.streams booked.streamed;
      tallied = tallied_read (put s.counts s.stages) (got s.counts s.stages) (begun s.counts s.stages) (put s.counts (set s.stages a Fetched))
          (got s.counts (set s.stages a Fetched)) (begun s.counts (set s.stages a Fetched))
          a (count (present s) a) plan.channels s.streams
          (staged_as put_at s.counts s.stages a Fetched Begun lt at refl)
          (λ b ne. staged_other got_at s.counts s.stages a b Fetched ne)
          (ap (λ x. got_at x (get_or s.counts a 0)) at)
          (staged_same got_at s.counts s.stages a Fetched lt)
          (staged_as begun_at s.counts s.stages a Fetched Begun lt at refl)
          booked.tallied;
    }

pub booked_written : (plan : Plan) (s : State) (a : ℕ) (v : List ℤ) → IsBooked plan s → a < length plan.sources → stage (present s) a ≡ Fetched
    → length v ≡ gift a (count (present s) a) plan.channels → IsBooked plan (accepted plan s (Write a v))
booked_written plan s a v booked there at whole =
    let lt : a < length s.stages = (let staged = booked.staged in omega arith) in
    record {
      counted = booked.counted;
      staged = length-set s.stages a Written ∙ booked.staged;
      streamed = length-filled _ v plan.channels s.streams booked.streamed;
      tallied = tallied_written (put s.counts s.stages) (got s.counts s.stages) (begun s.counts s.stages) (put s.counts (set s.stages a Written))
          (got s.counts (set s.stages a Written)) (begun s.counts (set s.stages a Written))
          a (count (present s) a) v plan.channels s.streams booked.streamed whole
          (λ b ne. staged_other put_at s.counts s.stages a b Written ne)
          (ap (λ x. put_at x (get_or s.counts a 0)) at)
          (staged_same put_at s.counts s.stages a Written lt)
          (staged_as got_at s.counts s.stages a Written Fetched lt at refl)
          (staged_as begun_at s.counts s.stages a Written Fetched lt at refl)
          booked.tallied;
    }

pub booked_finished : (plan : Plan) (s : State) (a : ℕ) → IsBooked plan s → a < length plan.sources → stage (present s) a ≡ Written
    → IsBooked plan (accepted plan s (Finish a))
booked_finished plan s a booked there at =
    let lt : a < length s.stages = (let staged = booked.staged in omega arith) in
    let ltc : a < length s.counts = (let counted = booked.counted in omega arith) in
    let k : ℕ = count (present s) a in
    record {
      counted = length-set s.counts a (suc k) ∙ booked.counted;
      staged = length-set s.stages a Idle ∙ booked.staged;
      streamed = booked.streamed;
      tallied = tallied_same (put s.counts s.stages) (got s.counts s.stages) (begun s.counts s.stages) (put (set s.counts a (suc k)) (set s.stages a Idle))
          (got (set s.counts a (suc k)) (set s.stages a Idle)) (begun (set s.counts a (suc k)) (set s.stages a Idle))
          plan.channels s.streams
          (finished_as put_at s.counts s.stages a ltc lt at (λ n. refl))
          (finished_as got_at s.counts s.stages a ltc lt at (λ n. refl))
          (finished_as begun_at s.counts s.stages a ltc lt at (λ n. refl))
          booked.tallied;
    }

pub booked_accepted : (plan : Plan) (s : State) (m : Move) → IsBooked plan s → refusal plan (present s) m ≡ None → IsBooked plan (accepted plan s m)
booked_accepted plan s (Begin a) booked none = booked_begun plan s a booked (can_begin plan (present s) a none)
booked_accepted plan s (Read a) booked none = let w = reads plan (present s) a none in booked_read plan s a booked w.there w.at
booked_accepted plan s (Write a v) booked none = let w = writes plan (present s) a v none in booked_written plan s a v booked w.0.there w.0.at w.1
booked_accepted plan s (Finish a) booked none = let w = finishes plan (present s) a none in booked_finished plan s a booked w.there w.at
booked_accepted plan s (Close c) booked none = record { counted = booked.counted; staged = booked.staged; streamed = booked.streamed; tallied = booked.tallied }

-- ---- at the opening

tallied_opening : (n : ℕ) (cs : List Channel)
    → AreTallied (put (replicate n 0) (replicate n Idle)) (got (replicate n 0) (replicate n Idle)) (begun (replicate n 0) (replicate n Idle)) cs
    (map (λ (c : Channel). record { written = c.initial; taken = 0 }) cs)
tallied_opening n [] = tt
tallied_opening n (c ∷ cs) = (
  record {
    written = (let e : total c.produce (put (replicate n 0) (replicate n Idle) c.from) ≡ 0 = ap (total c.produce) (zero_of put_at (λ k. refl) c.from) in
        omega arith);
    taken = sym (ap (total c.consume) (zero_of got_at (λ k. refl) c.to));
    covered = (let e : total c.consume (begun (replicate n 0) (replicate n Idle) c.to) ≡ 0 = ap (total c.consume) (zero_of begun_at (λ k. refl) c.to) in
        omega arith);
  },
  tallied_opening n cs,
)
  where
    zero_of : (f : Stage → ℕ → ℕ) → ((k : ℕ) → f Idle k ≡ k) → (b : ℕ) → tell f (replicate n 0) (replicate n Idle) b ≡ 0
    zero_of f e b = ap (λ x. f x (get_or (replicate n 0) b 0)) (alike n b Idle) ∙ e _ ∙ alike n b 0

pub booked_opening : (plan : Plan) → IsBooked plan (opening plan)
booked_opening plan = record {
  counted = length-replicate (length plan.sources) 0;
  staged = length-replicate (length plan.sources) Idle;
  streamed = length-map plan.channels (λ (c : Channel). record { written = c.initial; taken = 0 });
  tallied = tallied_opening (length plan.sources) plan.channels;
}
