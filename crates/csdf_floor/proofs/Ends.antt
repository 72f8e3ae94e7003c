-- A journal stays within the sequential run, and is as it where it ends exhausted.
use Rattle.std.proofs.Common.{◌≡◌, ℕ, zero, suc, ◌+◌, ◌-◌, ◌≤◌, List, [], ◌∷◌, ◌++◌, length, take, drop, get_or, refl, ap, sym, subst, ◌∙◌, arith, append-nil}
use Rattle.std.proofs.Common.{append_assoc}
use Rattle.std.specs.Prelude.{ℤ}
use Rattle.std.specs.List.{zip, AllByRecursion}
use Rattle.std.proofs.lemmas.List.{take_all, take-append-drop, ext_get_or}
use Rattle.csdf_model.specs.Rates.{total}
use Rattle.csdf_analysis.proofs.CountLemmas.{total_mono}
use Rattle.csdf_core.specs.declared.stage.Stage.TheVariants.{Idle}
use Rattle.csdf_core.specs.Moves.{Move}
use Rattle.csdf_core.specs.Plan.{Channel}
use Rattle.csdf_core.specs.State.{Stream, State, present, opening}
use Rattle.csdf_core.specs.Step.{count, state_after}
use Rattle.csdf_core.specs.Streams.{IsPrefix}
use Rattle.csdf_floor.specs.Journal.{Program, IsHonest, reads_of, state_of}
use Rattle.csdf_floor.specs.Sequential.{IsSequential, sequential_state}
use Rattle.csdf_core.specs.Going.{begun_at}
use Rattle.csdf_floor.specs.Laws.{IsFront, StaysWithin, EndsAsSequential}
use Rattle.csdf_core.proofs.FiringCounts.{put_at, got_at, put, got, begun, put_begun, got_begun, count_put}
use Rattle.csdf_core.proofs.Tallies.{AreTallied}
use Rattle.csdf_floor.proofs.Places.{inputs_at}
use Rattle.csdf_floor.proofs.Faithful.{IsFaithful}
use Rattle.csdf_core.proofs.Accepting.{AllIdle, idle_count}
use Rattle.csdf_floor.proofs.Sequential.{rest_opening, rest_all}
use Rattle.csdf_floor.proofs.Bounds.{faithful_end, Within, within_sequential, finishes_all, idle_all}
use Rattle.csdf_floor.proofs.Agreement.{IsAgreed, AreAgreed, agreed_sym, agreed_opening, agreed_sequential, inputs_agree}
use Rattle.csdf_floor.proofs.Takings.{inputs_to, sink_journal, sink_sequential}

-- ---- both ends

pub record AreEnds (w : Program) (s t : State) : Type 0 where
  pub first : List (List ℤ)
  pub from : IsFaithful w s first
  pub second : List (List ℤ)
  pub sequential : IsFaithful w t second
  pub idle : AllIdle t
  pub within : Within s t
  pub agreed : AreAgreed s.streams t.streams

ends : (w : Program) (journal : List Move) (actors : List ℕ) → IsHonest w journal → IsSequential w actors
    → AreEnds w (state_of w journal) (sequential_state w actors)
ends w journal actors h p =
    let s : State = state_after w.plan (opening w.plan) journal in
    let t : State = sequential_state w actors in
    let end = faithful_end w journal h in
    let r = rest_all w (opening w.plan) actors (rest_opening w) p in
    let opens : AreAgreed (opening w.plan).streams s.streams = agreed_sym s.streams (opening w.plan).streams (agreed_opening w journal h) in
    let sequential : AreAgreed t.streams s.streams = agreed_sequential w (opening w.plan) s (reads_of w journal) actors (rest_opening w) end p opens in
    record {
      first = reads_of w journal;
      from = end;
      second = r.kept;
      sequential = r.faithful;
      idle = r.idle;
      within = within_sequential w journal actors h p;
      agreed = agreed_sym t.streams s.streams sequential;
    }

-- ---- within

pub front_of : (x y : List ℤ) → IsAgreed x y → length x ≤ length y → IsPrefix x y
front_of x y same le =
    let self : length x ≤ length x = omega arith in
    let front : take (length x) y ≡ x = sym (same (length x) self le) ∙ take_all (length x) x self in
    (drop (length x) y, sym (take-append-drop (length x) y) ∙ ap (λ (z : List ℤ). z ++ drop (length x) y) front)

pub fronts : (p1 g1 b1 p2 g2 b2 : ℕ → ℕ) (cs : List Channel) (xs ys : List Stream) → length xs ≡ length cs → length ys ≡ length cs → ((b : ℕ) → p1 b ≤ p2 b)
    → ((b : ℕ) → g1 b ≤ g2 b)
    → AreTallied p1 g1 b1 cs xs → AreTallied p2 g2 b2 cs ys → AreAgreed xs ys → AllByRecursion IsFront (zip xs ys)
fronts p1 g1 b1 p2 g2 b2 cs [] ys l1 l2 p g t1 t2 same = tt
fronts p1 g1 b1 p2 g2 b2 cs (x ∷ xs) [] l1 l2 p g t1 t2 same = tt
fronts p1 g1 b1 p2 g2 b2 [] (x ∷ xs) (y ∷ ys) l1 l2 p g t1 t2 same = absurd (omega arith)
fronts p1 g1 b1 p2 g2 b2 (c ∷ cs) (x ∷ xs) (y ∷ ys) l1 l2 p g t1 t2 same =
    let more : total c.produce (p1 c.from) ≤ total c.produce (p2 c.from) = total_mono c.produce (p1 c.from) (p2 c.from) (p c.from) in
    let took : total c.consume (g1 c.to) ≤ total c.consume (g2 c.to) = total_mono c.consume (g1 c.to) (g2 c.to) (g c.to) in
    let w1 = t1.0.written in let w2 = t2.0.written in
    let k1 = t1.0.taken in let k2 = t2.0.taken in
    let le : length x.written ≤ length y.written = omega arith in
    let lt : x.taken ≤ y.taken = omega arith in
    ((front_of x.written y.written same.0 le, lt), fronts p1 g1 b1 p2 g2 b2 cs xs ys (omega arith) (omega arith) p g t1.1 t2.1 same.1)

pub inputs_to_agree : (p1 g1 b1 p2 g2 b2 : ℕ → ℕ) (t n : ℕ) (cs : List Channel) (xs ys : List Stream) → length xs ≡ length cs → length ys ≡ length cs → n ≤ b1 t
    → n ≤ b2 t
    → AreTallied p1 g1 b1 cs xs → AreTallied p2 g2 b2 cs ys → AreAgreed xs ys → inputs_to t n cs xs ≡ inputs_to t n cs ys
inputs_to_agree p1 g1 b1 p2 g2 b2 t zero cs xs ys l1 l2 le1 le2 t1 t2 same = refl
inputs_to_agree p1 g1 b1 p2 g2 b2 t (suc n) cs xs ys l1 l2 le1 le2 t1 t2 same =
    ap (λ (z : List ℤ). z ++ inputs_at t n cs xs) (inputs_to_agree p1 g1 b1 p2 g2 b2 t n cs xs ys l1 l2 (omega arith) (omega arith) t1 t2 same)
    ∙ ap (λ (z : List ℤ). inputs_to t n cs ys ++ z) (inputs_agree p1 g1 b1 p2 g2 b2 t n cs xs ys l1 l2 le1 le2 t1 t2 same)

-- the inputs of more firings begin with those of fewer
inputs_grow : (t n j : ℕ) (cs : List Channel) (xs : List Stream) → IsPrefix (inputs_to t n cs xs) (inputs_to t (j + n) cs xs)
inputs_grow t n zero cs xs = ([], (let e : 0 + n ≡ n = omega arith in ap (λ m. inputs_to t m cs xs) e) ∙ sym (append-nil (inputs_to t n cs xs)))
inputs_grow t n (suc j) cs xs =
    let rest = inputs_grow t n j cs xs in
    let e : suc j + n ≡ suc (j + n) = omega arith in (
      rest.0 ++ inputs_at t (j + n) cs xs,
      ap (λ m. inputs_to t m cs xs) e ∙ ap (λ (z : List ℤ). z ++ inputs_at t (j + n) cs xs) rest.1
          ∙ append_assoc (inputs_to t n cs xs) rest.0 (inputs_at t (j + n) cs xs),
    )

pub inputs_front : (t n m : ℕ) (cs : List Channel) (xs : List Stream) → n ≤ m → IsPrefix (inputs_to t n cs xs) (inputs_to t m cs xs)
inputs_front t n m cs xs le =
    let e : (m - n) + n ≡ m = omega arith in
    subst (λ k. IsPrefix (inputs_to t n cs xs) (inputs_to t k cs xs)) e (inputs_grow t n (m - n) cs xs)

pub stays_within : StaysWithin
stays_within w journal actors h p =
    let s : State = state_after w.plan (opening w.plan) journal in
    let t : State = sequential_state w actors in
    let e = ends w journal actors h p in
    let bs = e.from.booked in
    let bt = e.sequential.booked in
    let puts : (b : ℕ) → put s.counts s.stages b ≤ put t.counts t.stages b = λ b.
    (let i = idle_count put_at t e.idle (λ n. refl) b in let k = put_begun (get_or s.stages b Idle) (get_or s.counts b 0) in let m = e.within b in
    omega arith) in
    let gots : (b : ℕ) → got s.counts s.stages b ≤ got t.counts t.stages b = λ b.
    (let i = idle_count got_at t e.idle (λ n. refl) b in let k = got_begun (get_or s.stages b Idle) (get_or s.counts b 0) in let m = e.within b in
    omega arith) in
    record {
      counts = λ b. (let k = count_put (get_or s.stages b Idle) (get_or s.counts b 0) in let j = put_begun (get_or s.stages b Idle) (get_or s.counts b 0) in
          let m = e.within b in omega arith);
      streams = fronts (put s.counts s.stages) (got s.counts s.stages) (begun s.counts s.stages) (put t.counts t.stages) (got t.counts t.stages)
          (begun t.counts t.stages) w.plan.channels s.streams t.streams bs.streamed bt.streamed puts gots bs.tallied bt.tallied e.agreed;
      sinks = λ a.
          (let n : ℕ = got s.counts s.stages a in
          let m : ℕ = got t.counts t.stages a in
          let k1 : n ≤ begun s.counts s.stages a = got_begun (get_or s.stages a Idle) (get_or s.counts a 0) in
          let k2 : m ≤ begun t.counts t.stages a = got_begun (get_or t.stages a Idle) (get_or t.counts a 0) in
          let le : n ≤ m = gots a in
          let same : inputs_to a n w.plan.channels s.streams ≡ inputs_to a n w.plan.channels t.streams =
          inputs_to_agree (put s.counts s.stages) (got s.counts s.stages) (begun s.counts s.stages) (put t.counts t.stages) (got t.counts t.stages)
          (begun t.counts t.stages) a n w.plan.channels s.streams t.streams bs.streamed bt.streamed k1 (omega arith) bs.tallied bt.tallied e.agreed in
          let front = inputs_front a n m w.plan.channels t.streams le in
          (front.0, sink_sequential w a actors p ∙ front.1 ∙ ap (λ (z : List ℤ). z ++ front.0) (sym (sink_journal w a journal h ∙ same))));
    }

-- ---- the same

stream : List ℤ → ℕ → Stream
stream written taken = record { written = written; taken = taken }

same_stream : (x y : Stream) → x.written ≡ y.written → x.taken ≡ y.taken → x ≡ y
unfolding stream
same_stream x y e f = ap (λ (l : List ℤ). stream l x.taken) e ∙ ap (stream y.written) f

pub same_streams : (p1 g1 b1 p2 g2 b2 : ℕ → ℕ) (cs : List Channel) (xs ys : List Stream) → length xs ≡ length cs → length ys ≡ length cs → ((b : ℕ) → p1 b ≡ p2 b)
    → ((b : ℕ) → g1 b ≡ g2 b)
    → AreTallied p1 g1 b1 cs xs → AreTallied p2 g2 b2 cs ys → AreAgreed xs ys → xs ≡ ys
same_streams p1 g1 b1 p2 g2 b2 [] [] [] l1 l2 p g t1 t2 same = refl
same_streams p1 g1 b1 p2 g2 b2 [] [] (y ∷ ys) l1 l2 p g t1 t2 same = absurd (omega arith)
same_streams p1 g1 b1 p2 g2 b2 [] (x ∷ xs) ys l1 l2 p g t1 t2 same = absurd (omega arith)
same_streams p1 g1 b1 p2 g2 b2 (c ∷ cs) [] ys l1 l2 p g t1 t2 same = absurd (omega arith)
same_streams p1 g1 b1 p2 g2 b2 (c ∷ cs) (x ∷ xs) [] l1 l2 p g t1 t2 same = absurd (omega arith)
same_streams p1 g1 b1 p2 g2 b2 (c ∷ cs) (x ∷ xs) (y ∷ ys) l1 l2 p g t1 t2 same =
    let len : length x.written ≡ length y.written = t1.0.written ∙ ap (λ n. length c.initial + total c.produce n) (p c.from) ∙ sym t2.0.written in
    let written : x.written ≡ y.written = sym (take_all (length x.written) x.written (omega arith)) ∙ same.0 (length x.written) (omega arith) (omega arith)
    ∙ take_all (length x.written) y.written (omega arith) in
    let taken : x.taken ≡ y.taken = t1.0.taken ∙ ap (total c.consume) (g c.to) ∙ sym t2.0.taken in
    ap (λ (z : Stream). z ∷ xs) (same_stream x y written taken)
    ∙ ap (λ (zs : List Stream). y ∷ zs) (same_streams p1 g1 b1 p2 g2 b2 cs xs ys (omega arith) (omega arith) p g t1.1 t2.1 same.1)

pub ends_as_sequential : EndsAsSequential
ends_as_sequential w journal actors h p exhausted =
    let s : State = state_after w.plan (opening w.plan) journal in
    let t : State = sequential_state w actors in
    let e = ends w journal actors h p in
    let bs = e.from.booked in
    let bt = e.sequential.booked in
    let idle : AllIdle s = idle_all w.plan s bs exhausted.idle in
    let equal : (b : ℕ) → count (present s) b ≡ count (present t) b = λ b.
    (let i = idle_count begun_at s idle (λ n. refl) b in let m = e.within b in let l = finishes_all w journal actors b h p exhausted in omega arith) in
    let puts : (b : ℕ) → put s.counts s.stages b ≡ put t.counts t.stages b = λ b. idle_count put_at s idle (λ n. refl) b ∙ equal b
    ∙ sym (idle_count put_at t e.idle (λ n. refl) b) in
    let gots : (b : ℕ) → got s.counts s.stages b ≡ got t.counts t.stages b = λ b. idle_count got_at s idle (λ n. refl) b ∙ equal b
    ∙ sym (idle_count got_at t e.idle (λ n. refl) b) in
    let streams : s.streams ≡ t.streams =
    same_streams (put s.counts s.stages) (got s.counts s.stages) (begun s.counts s.stages) (put t.counts t.stages) (got t.counts t.stages)
    (begun t.counts t.stages) w.plan.channels s.streams t.streams bs.streamed bt.streamed puts gots bs.tallied bt.tallied e.agreed in
    record {
      counts = ext_get_or 0 s.counts t.counts (bs.counted ∙ sym bt.counted) (λ i lt. equal i);
      streams = streams;
      sinks = λ a.
          sink_journal w a journal h
          ∙ ap (λ n. inputs_to a n w.plan.channels s.streams) (gots a)
          ∙ ap (inputs_to a (got t.counts t.stages a) w.plan.channels) streams
          ∙ sym (sink_sequential w a actors p);
    }
