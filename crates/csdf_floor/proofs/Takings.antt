-- What an actor took is the tokens at the places of the firings that it has read.
use Rattle.std.proofs.Common.{◌≡◌, ℕ, zero, suc, ◌<◌, ◌≤◌, cond, inl, inr, List, [], ◌∷◌, ◌++◌, length, get_or, set, refl, ap, sym, ◌∙◌, arith, Option}
use Rattle.std.proofs.Common.{append-nil, append_assoc}
use Rattle.std.specs.Prelude.{ℤ, Ok}
use Rattle.std.proofs.lemmas.Bool.Decides.{eqb_tells}
use Rattle.csdf_core.specs.declared.stage.Stage.TheVariants.{Idle, Begun, Fetched, Written}
use Rattle.csdf_core.specs.declared.refusal.Refusal.{Refusal}
use Rattle.csdf_core.specs.Moves.{Move}
use Rattle.csdf_core.specs.Moves.{Begin, Read, Write, Finish, Close}
use Rattle.csdf_core.specs.Plan.{Channel, gives_of}
use Rattle.csdf_core.specs.Rows.{cut, shares}
use Rattle.csdf_core.specs.State.{Stream, State, present, opening}
use Rattle.csdf_core.specs.Step.{Reply, count, stage, answer, accepted, after, reply_to, reply_by, replies_of, state_after}
use Rattle.csdf_core.proofs.Kept.{reads, writes, finishes}
use Rattle.csdf_core.proofs.Flows.{drained, filled}
use Rattle.csdf_core.proofs.Opening.{alike}
use Rattle.csdf_floor.specs.Journal.{Program, reads_after, no_reads, IsHonestMove, IsHonestFrom, IsHonest, took, sink_tokens}
use Rattle.csdf_core.specs.Going.{CanGo}
use Rattle.csdf_floor.specs.Sequential.{firing, fired, IsSequentialFrom, state_from, sink_from, sequential_state, sequential_sink, replies_made}
use Rattle.csdf_core.proofs.FiringCounts.{got_at, put, got, begun, staged_same, staged_other, staged_as, finished_as, got_begun}
use Rattle.csdf_core.proofs.Tallies.{AreTallied}
use Rattle.csdf_floor.proofs.Places.{inputs_at, taken_is, inputs-drained, inputs-filled}
use Rattle.csdf_core.proofs.Booked.{can_begin}
use Rattle.csdf_floor.proofs.Faithful.{IsFaithful, faithful_opening}
use Rattle.csdf_floor.proofs.Bounds.{after_is, faithful_after}
use Rattle.csdf_floor.proofs.Sequential.{kept_by, IsAtRest, rest_opening, rest_fired, goes, after_begin, after_read, after_write, written_value}

-- the inputs of the first n firings of actor t
abbrev pub inputs_to : ℕ → ℕ → List Channel → List Stream → List ℤ
inputs_to t zero cs sts = []
inputs_to t (suc n) cs sts = inputs_to t n cs sts ++ inputs_at t n cs sts

inputs_to-drained : (a k t n : ℕ) (cs : List Channel) (sts : List Stream) → inputs_to t n cs (drained a k cs sts) ≡ inputs_to t n cs sts
inputs_to-drained a k t zero cs sts = refl
inputs_to-drained a k t (suc n) cs sts =
    ap (λ (z : List ℤ). z ++ inputs_at t n cs (drained a k cs sts)) (inputs_to-drained a k t n cs sts)
    ∙ ap (λ (z : List ℤ). inputs_to t n cs sts ++ z) (inputs-drained a k t n cs sts)

inputs_to-filled : (put got begun : ℕ → ℕ) (amount : Channel → ℕ) (v : List ℤ) (t n : ℕ) (cs : List Channel) (sts : List Stream) → length sts ≡ length cs
    → n ≤ begun t → AreTallied put got begun cs sts
    → inputs_to t n cs (filled sts (cut amount cs v)) ≡ inputs_to t n cs sts
inputs_to-filled put got begun amount v t zero cs sts len le tallied = refl
inputs_to-filled put got begun amount v t (suc n) cs sts len le tallied =
    ap (λ (z : List ℤ). z ++ inputs_at t n cs (filled sts (cut amount cs v))) (inputs_to-filled put got begun amount v t n cs sts len (omega arith) tallied)
    ∙ ap (λ (z : List ℤ). inputs_to t n cs sts ++ z) (inputs-filled put got begun amount v t n cs sts len le tallied)

-- what actor t has taken of the channels by the state
abbrev pub taken_by : Program → ℕ → State → List ℤ
taken_by w t s = inputs_to t (got s.counts s.stages t) w.plan.channels s.streams

more_none : (w : Program) (t : ℕ) (s : State) (n : ℕ) → n ≡ got s.counts s.stages t → inputs_to t n w.plan.channels s.streams ≡ taken_by w t s ++ []
more_none w t s n e = ap (λ m. inputs_to t m w.plan.channels s.streams) e ∙ sym (append-nil _)

pub took_begun : (w : Program) (t : ℕ) (s : State) (kept : List (List ℤ)) (a : ℕ) → IsFaithful w s kept → a < length w.plan.sources → stage (present s) a ≡ Idle
    → taken_by w t (accepted w.plan s (Begin a)) ≡ taken_by w t s ++ []
took_begun w t s kept a f there at =
    let lt : a < length s.stages = (let staged = f.booked.staged in omega arith) in
    more_none w t s (got s.counts (set s.stages a Begun) t) (staged_as got_at s.counts s.stages a Begun Idle lt at refl t)

pub took_read : (w : Program) (t : ℕ) (s : State) (kept : List (List ℤ)) (a : ℕ) → IsFaithful w s kept → a < length w.plan.sources → stage (present s) a ≡ Begun
    → taken_by w t (accepted w.plan s (Read a)) ≡ taken_by w t s ++ took t (Read a) (Ok (answer w.plan (present s) (Read a)))
took_read w t s kept a f there at =
    let lt : a < length s.stages = (let staged = f.booked.staged in omega arith) in
    let cs : List Channel = w.plan.channels in
    let k : ℕ = count (present s) a in
    let gots : got s.counts s.stages a ≡ k = ap (λ x. got_at x (get_or s.counts a 0)) at in
    let read : answer w.plan (present s) (Read a) ≡ inputs_at a k cs s.streams =
    taken_is (put s.counts s.stages) (got s.counts s.stages) (begun s.counts s.stages) a k cs s.streams gots f.booked.tallied in
    let stays : (n : ℕ) → inputs_to t n cs (drained a k cs s.streams) ≡ inputs_to t n cs s.streams = λ n. inputs_to-drained a k t n cs s.streams in
    elim (eqb_tells a t) [
      | inl e ↦
          let now : got s.counts (set s.stages a Fetched) t ≡ suc k = ap (got s.counts (set s.stages a Fetched)) (sym e.1)
          ∙ staged_same got_at s.counts s.stages a Fetched lt in
          let was : got s.counts s.stages t ≡ k = ap (got s.counts s.stages) (sym e.1) ∙ gots in
          stays (got s.counts (set s.stages a Fetched) t)
          ∙ ap (λ n. inputs_to t n cs s.streams) now
          ∙ ap (λ n. inputs_to t n cs s.streams ++ inputs_at t k cs s.streams) (sym was)
          ∙ ap (λ (b : ℕ). taken_by w t s ++ inputs_at b k cs s.streams) (sym e.1)
          ∙ ap (λ (z : List ℤ). taken_by w t s ++ z) (sym read ∙ sym (ap (λ b. cond b (answer w.plan (present s) (Read a)) []) e.0))
      | inr e ↦
          let same : got s.counts (set s.stages a Fetched) t ≡ got s.counts s.stages t = staged_other got_at s.counts s.stages a t Fetched (λ q. e.1 (sym q)) in
          stays (got s.counts (set s.stages a Fetched) t)
          ∙ ap (λ n. inputs_to t n cs s.streams) same
          ∙ sym (append-nil (taken_by w t s))
          ∙ ap (λ (z : List ℤ). taken_by w t s ++ z) (sym (ap (λ b. cond b (answer w.plan (present s) (Read a)) []) e.0))
    ]

pub took_written : (w : Program) (t : ℕ) (s : State) (kept : List (List ℤ)) (a : ℕ) (v : List ℤ) → IsFaithful w s kept → a < length w.plan.sources
    → stage (present s) a ≡ Fetched → taken_by w t (accepted w.plan s (Write a v)) ≡ taken_by w t s ++ []
took_written w t s kept a v f there at =
    let lt : a < length s.stages = (let staged = f.booked.staged in omega arith) in
    let k : ℕ = count (present s) a in
    let same : got s.counts (set s.stages a Written) t ≡ got s.counts s.stages t = staged_as got_at s.counts s.stages a Written Fetched lt at refl t in
    ap (λ n. inputs_to t n w.plan.channels (filled s.streams (shares a k w.plan.channels v))) same
    ∙ inputs_to-filled (put s.counts s.stages) (got s.counts s.stages) (begun s.counts s.stages) (gives_of a k) v t (got s.counts s.stages t) w.plan.channels
    s.streams f.booked.streamed (got_begun (get_or s.stages t Idle) (get_or s.counts t 0)) f.booked.tallied
    ∙ sym (append-nil (taken_by w t s))

pub took_finished : (w : Program) (t : ℕ) (s : State) (kept : List (List ℤ)) (a : ℕ) → IsFaithful w s kept → a < length w.plan.sources
    → stage (present s) a ≡ Written → taken_by w t (accepted w.plan s (Finish a)) ≡ taken_by w t s ++ []
took_finished w t s kept a f there at =
    let lt : a < length s.stages = (let staged = f.booked.staged in omega arith) in
    let ltc : a < length s.counts = (let counted = f.booked.counted in omega arith) in
    more_none w t s (got (set s.counts a (suc (get_or s.counts a 0))) (set s.stages a Idle) t) (finished_as got_at s.counts s.stages a ltc lt at (λ n. refl) t)

-- ---- a journal

took_honest : (w : Program) (t : ℕ) (s : State) (kept : List (List ℤ)) (m : Move) → IsFaithful w s kept → IsHonestMove w s kept m
    → taken_by w t (accepted w.plan s m) ≡ taken_by w t s ++ took t m (Ok (answer w.plan (present s) m))
took_honest w t s kept (Begin a) f h = let can = can_begin w.plan (present s) a h.accepted in took_begun w t s kept a f can.exists can.idle
took_honest w t s kept (Read a) f h = let r = reads w.plan (present s) a h.accepted in took_read w t s kept a f r.there r.at
took_honest w t s kept (Write a v) f h = let r = writes w.plan (present s) a v h.accepted in took_written w t s kept a v f r.0.there r.0.at
took_honest w t s kept (Finish a) f h = let r = finishes w.plan (present s) a h.accepted in took_finished w t s kept a f r.there r.at
took_honest w t s kept (Close c) f h = sym (append-nil (taken_by w t s))

sink_from_journal : (w : Program) (t : ℕ) (s : State) (kept : List (List ℤ)) (ms : List Move) → IsFaithful w s kept → IsHonestFrom w s kept ms
    → taken_by w t (state_after w.plan s ms) ≡ taken_by w t s ++ sink_tokens t ms (replies_of w.plan s ms)
sink_from_journal w t s kept [] f h = sym (append-nil (taken_by w t s))
sink_from_journal w t s kept (m ∷ ms) f h =
    let next : State = after w.plan s m in
    let rest = sink_from_journal w t next (reads_after w.plan s kept m) ms (faithful_after w s kept m f h.0) h.1 in
    let reply : reply_to w.plan s m ≡ Ok (answer w.plan (present s) m) = ap (λ (o : Option Refusal). reply_by o (answer w.plan (present s) m)) h.0.accepted in
    let one : taken_by w t next ≡ taken_by w t s ++ took t m (reply_to w.plan s m) =
    ap (taken_by w t) (after_is w.plan s m h.0.accepted) ∙ took_honest w t s kept m f h.0 ∙ ap (λ (r : Reply). taken_by w t s ++ took t m r) (sym reply) in
    rest ∙ ap (λ (z : List ℤ). z ++ sink_tokens t ms (replies_of w.plan next ms)) one ∙ append_assoc (taken_by w t s) _ _

none_at_first : (w : Program) (t : ℕ) → taken_by w t (opening w.plan) ≡ []
none_at_first w t =
    let first = rest_opening w in
    let none : got (opening w.plan).counts (opening w.plan).stages t ≡ 0 = ap (λ x. got_at x (get_or (opening w.plan).counts t 0)) (first.idle t)
    ∙ alike (length w.plan.sources) t 0 in
    ap (λ n. inputs_to t n w.plan.channels (opening w.plan).streams) none

pub sink_journal : (w : Program) (t : ℕ) (ms : List Move) → IsHonest w ms
    → sink_tokens t ms (replies_of w.plan (opening w.plan) ms) ≡ taken_by w t (state_after w.plan (opening w.plan) ms)
sink_journal w t ms h =
    sym (sink_from_journal w t (opening w.plan) (no_reads w.plan) ms (faithful_opening w) h
    ∙ ap (λ (z : List ℤ). z ++ sink_tokens t ms (replies_of w.plan (opening w.plan) ms)) (none_at_first w t))

-- ---- the sequential run

took_fired : (w : Program) (t : ℕ) (s : State) (a : ℕ) (r : IsAtRest w s) → CanGo w.plan (present s) a
    → taken_by w t (fired w s a) ≡ taken_by w t s ++ sink_tokens t (firing w s a) (replies_made w.plan s (firing w s a))
took_fired w t s a r can =
    let g = goes w s r.kept a r.faithful can in
    let one : taken_by w t (after_begin w s a) ≡ taken_by w t s = took_begun w t s r.kept a r.faithful g.there can.idle ∙ append-nil (taken_by w t s) in
    let read : List ℤ = took t (Read a) (Ok (answer w.plan (present s) (Read a))) in
    let two : taken_by w t (after_read w s a) ≡ taken_by w t (after_begin w s a) ++ read = took_read w t (after_begin w s a) r.kept a g.first g.there g.begun in
    let three : taken_by w t (after_write w s a) ≡ taken_by w t (after_read w s a) =
    took_written w t (after_read w s a) (kept_by w s r.kept a) a (written_value w s a) g.second g.there g.read
    ∙ append-nil (taken_by w t (after_read w s a)) in
    let four : taken_by w t (fired w s a) ≡ taken_by w t (after_write w s a) =
    took_finished w t (after_write w s a) (kept_by w s r.kept a) a g.third g.there g.written ∙ append-nil (taken_by w t (after_write w s a)) in
    four ∙ three ∙ two ∙ ap (λ (z : List ℤ). z ++ read) one ∙ ap (λ (z : List ℤ). taken_by w t s ++ z) (sym (append-nil read))

sink_from_sequential : (w : Program) (t : ℕ) (s : State) (actors : List ℕ) → IsAtRest w s → IsSequentialFrom w s actors
    → taken_by w t (state_from w s actors) ≡ taken_by w t s ++ sink_from w s t actors
sink_from_sequential w t s [] r p = sym (append-nil (taken_by w t s))
sink_from_sequential w t s (a ∷ actors) r p =
    sink_from_sequential w t (fired w s a) actors (rest_fired w s a r p.0.can_go) p.1
    ∙ ap (λ (z : List ℤ). z ++ sink_from w (fired w s a) t actors) (took_fired w t s a r p.0.can_go)
    ∙ append_assoc (taken_by w t s) _ _

pub sink_sequential : (w : Program) (t : ℕ) (actors : List ℕ) → IsSequentialFrom w (opening w.plan) actors
    → sequential_sink w t actors ≡ taken_by w t (sequential_state w actors)
sink_sequential w t actors p =
    sym (sink_from_sequential w t (opening w.plan) actors (rest_opening w) p ∙ ap (λ (z : List ℤ). z ++ sequential_sink w t actors) (none_at_first w t))
