-- Every state that the step reaches is fit.
use Rattle.std.proofs.Common.{◌≡◌, ◌≢◌, ℕ, ◌<◌, ◌≤◌, suc, List, [], ◌∷◌, inl, inr, length, get_or, set, map, refl, subst, ap, sym, ◌∙◌, arith, Option, Some}
use Rattle.std.proofs.Common.{None, false}
use Rattle.std.specs.Prelude.{ℤ, slice_index}
use Rattle.std.specs.List.{zip, AllByRecursion}
use Rattle.std.proofs.lemmas.List.{get_or-set_other, get_or-set_same, length-set}
use Rattle.std.proofs.lemmas.Bool.Decides.{eqb_tells}
use Rattle.csdf_core.specs.declared.stage.Stage.{Stage}
use Rattle.csdf_core.specs.declared.stage.Stage.TheVariants.{Idle, Begun, Fetched, Written}
use Rattle.csdf_core.specs.declared.refusal.Refusal.{Refusal}
use Rattle.csdf_core.specs.Moves.{Move}
use Rattle.csdf_core.specs.Moves.{Begin, Read, Write, Finish, Close}
use Rattle.csdf_core.specs.Plan.{Channel, Plan}
use Rattle.csdf_core.specs.Rows.{Row, left, joined, shares}
use Rattle.csdf_core.specs.State.{State, Present, present, IsLawful, waiting}
use Rattle.csdf_core.specs.Step.{count, refusal, first_of, write_table, accepted, after, state_by, state_after}
use Rattle.csdf_core.specs.Ready.{IsReady, AreBelow, IsFit}
use Rattle.csdf_core.specs.Streams.{AreWithin}
use Rattle.csdf_core.proofs.Kept.{begins, reads, writes, finishes, closes}
use Rattle.csdf_core.proofs.Ready.{begin_all, read_all, write_all, finish_all, are_there}
use Rattle.csdf_core.specs.Next.{begun, fetched, written, finished, closed, next}
use Rattle.csdf_core.proofs.Next.{present_accepted, lawful_accepted}
use Rattle.csdf_core.proofs.RoomLemmas.{room_begun, room_fetched, room_written, room_finished}
use Rattle.csdf_core.proofs.ClosedLemmas.{still_begun, still_fetched, still_after, still_closed}

-- lists of channels keep their length
length-left : (a k : ℕ) (cs : List Channel) (ts : List (List ℤ)) → length ts ≡ length cs → length (left a k cs ts) ≡ length cs
length-left a k [] ts e = refl
length-left a k (c ∷ cs) [] e = absurd (omega arith)
length-left a k (c ∷ cs) (t ∷ ts) e = ap suc (length-left a k cs ts (omega arith))

pub length-joined : (a k : ℕ) (cs : List Channel) (ts : List (List ℤ)) (v : List ℤ) → length ts ≡ length cs → length (joined ts (shares a k cs v)) ≡ length cs
length-joined a k [] [] v e = refl
length-joined a k [] (t ∷ ts) v e = absurd (omega arith)
length-joined a k (c ∷ cs) [] v e = absurd (omega arith)
length-joined a k (c ∷ cs) (t ∷ ts) v e = ap suc (length-joined a k cs ts _ (omega arith))

-- an actor at work stays below its limit, where the stage of a changes and a is below its own
below_set : (plan : Plan) (p : Present) (a : ℕ) (x : Stage) → count p a < slice_index plan.limits a → AreBelow plan p → (b : ℕ)
    → get_or (set p.stages a x) b Idle ≢ Idle → count p b < slice_index plan.limits b
below_set plan p a x here old b busy = elim (eqb_tells b a) [
  | inl e ↦ subst (λ (c : ℕ). count p c < slice_index plan.limits c) (sym e.1) here
  | inr e ↦ old b (λ idle. busy (get_or-set_other p.stages a b x Idle e.1 ∙ idle))
]

pub fit_begun : (plan : Plan) (p : Present) (a : ℕ) → IsFit plan p → refusal plan p (Begin a) ≡ None → IsFit plan (begun p a)
fit_begun plan p a s none =
    let b = begins plan p a none in
    let lt : a < length p.stages = let there = b.there in let staged = s.staged in omega arith in
    record {
      counted = s.counted;
      staged = length-set p.stages a Begun ∙ s.staged;
      opened = s.opened;
      queued = s.queued;
      below = below_set plan p a Begun b.below s.below;
      ready = begin_all p a plan.channels p.tokens lt b.enough b.room s.ready;
      closed = still_begun p.stages a plan.channels p.opens lt b.opens s.closed;
      room = room_begun plan p a b.there lt b.idle b.cells s.room;
    }

pub fit_fetched : (plan : Plan) (p : Present) (a : ℕ) → IsFit plan p → refusal plan p (Read a) ≡ None → IsFit plan (fetched plan p a)
fit_fetched plan p a s none =
    let w = reads plan p a none in
    let lt : a < length p.stages = let there = w.there in let staged = s.staged in omega arith in
    record {
      counted = s.counted;
      staged = length-set p.stages a Fetched ∙ s.staged;
      opened = s.opened;
      queued = length-left a (count p a) plan.channels p.tokens s.queued;
      below = below_set plan p a Fetched (s.below a (λ idle. let bad = sym w.at ∙ idle in absurd (cc))) s.below;
      ready = read_all p a plan.channels p.tokens lt w.at s.ready;
      closed = still_fetched p.stages a plan.channels p.opens lt w.at s.closed;
      room = room_fetched plan p a w.there lt s.queued (are_there p a plan.channels p.tokens w.at s.ready) w.at s.room;
    }

written_not_begun : Written ≡ Begun → ⊥
written_not_begun e = absurd (cc)

written_not_fetched : Written ≡ Fetched → ⊥
written_not_fetched e = absurd (cc)

idle_not_begun : Idle ≡ Begun → ⊥
idle_not_begun e = absurd (cc)

idle_not_fetched : Idle ≡ Fetched → ⊥
idle_not_fetched e = absurd (cc)

pub fit_written : (plan : Plan) (p : Present) (a : ℕ) (v : List ℤ) → IsFit plan p → first_of (write_table plan p a v) ≡ None → IsFit plan (written plan p a v)
fit_written plan p a v s none =
    let w = writes plan p a v none in
    let at = w.0.at in
    let lt : a < length p.stages = let there = w.0.there in let staged = s.staged in omega arith in
    record {
      counted = s.counted;
      staged = length-set p.stages a Written ∙ s.staged;
      opened = s.opened;
      queued = length-joined a (count p a) plan.channels p.tokens v s.queued;
      below = below_set plan p a Written (s.below a (λ idle. let bad = sym at ∙ idle in absurd (cc))) s.below;
      ready = write_all p a plan.channels p.tokens v lt at s.ready;
      closed = still_after p.stages a Written plan.channels p.opens lt written_not_begun written_not_fetched s.closed;
      room = room_written plan p a v w.0.there lt s.queued w.1 at s.room;
    }

pub fit_finished : (plan : Plan) (p : Present) (a : ℕ) → IsFit plan p → refusal plan p (Finish a) ≡ None → IsFit plan (finished p a)
fit_finished plan p a s none =
    let w = finishes plan p a none in
    let lt : a < length p.stages = let there = w.there in let staged = s.staged in omega arith in
    record {
      counted = length-set p.counts a (suc (count p a)) ∙ s.counted;
      staged = length-set p.stages a Idle ∙ s.staged;
      opened = s.opened;
      queued = s.queued;
      below = λ b at_work. elim (eqb_tells b a) [
        | inl e ↦ absurd (at_work (subst (λ (c : ℕ). get_or (set p.stages a Idle) c Idle ≡ Idle) (sym e.1) (get_or-set_same p.stages a Idle Idle lt)))
        | inr e ↦ subst (λ (n : ℕ). n < slice_index plan.limits b) (sym (get_or-set_other p.counts a b (suc (count p a)) 0 e.1))
            (s.below b (λ idle. at_work (get_or-set_other p.stages a b Idle Idle e.1 ∙ idle)))
      ];
      ready = finish_all p a (suc (count p a)) plan.channels p.tokens lt s.ready;
      closed = still_after p.stages a Idle plan.channels p.opens lt idle_not_begun idle_not_fetched s.closed;
      room = room_finished plan p a w.there lt w.at s.room;
    }

pub fit_closed : (plan : Plan) (p : Present) (c : ℕ) → IsFit plan p → refusal plan p (Close c) ≡ None → IsFit plan (closed p c)
fit_closed plan p c s none =
    let w = closes plan p c none in
    record {
      counted = s.counted;
      staged = s.staged;
      opened = length-set p.opens c false ∙ s.opened;
      queued = s.queued;
      below = s.below;
      ready = s.ready;
      closed = still_closed p.stages c plan.channels p.opens w.not_begun w.not_fetched s.closed;
      room = s.room;
    }

pub fit_next : (plan : Plan) (p : Present) (m : Move) → IsFit plan p → refusal plan p m ≡ None → IsFit plan (next plan p m)
fit_next plan p (Begin a) s none = fit_begun plan p a s none
fit_next plan p (Read a) s none = fit_fetched plan p a s none
fit_next plan p (Write a v) s none = fit_written plan p a v s none
fit_next plan p (Finish a) s none = fit_finished plan p a s none
fit_next plan p (Close c) s none = fit_closed plan p c s none

-- a state that a run reaches
pub record IsReached (plan : Plan) (s : State) : Type 0 where
  pub fit : IsFit plan (present s)
  pub lawful : IsLawful s

pub reached_accepted : (plan : Plan) (s : State) (m : Move) → IsReached plan s → refusal plan (present s) m ≡ None → IsReached plan (accepted plan s m)
reached_accepted plan s m r none = record {
  fit = subst (IsFit plan) (sym (present_accepted plan s m r.lawful)) (fit_next plan (present s) m r.fit none);
  lawful = lawful_accepted plan s m r.fit none r.lawful;
}

-- by the refusal
by_refusal : (plan : Plan) (s : State) (m : Move) (o : Option Refusal) → o ≡ refusal plan (present s) m → IsReached plan s
    → IsReached plan (state_by o (accepted plan s m) s)
by_refusal plan s m None e r = reached_accepted plan s m r (sym e)
by_refusal plan s m (Some why) e r = r

pub reached_after : (plan : Plan) (s : State) (m : Move) → IsReached plan s → IsReached plan (after plan s m)
reached_after plan s m r = by_refusal plan s m (refusal plan (present s) m) refl r

pub reached_all : (plan : Plan) (s : State) (ms : List Move) → IsReached plan s → IsReached plan (state_after plan s ms)
reached_all plan s [] r = r
reached_all plan s (m ∷ ms) r = reached_all plan (after plan s m) ms (reached_after plan s m r)

within : (counts : List ℕ) (stages : List Stage) (cs : List Channel) (ts : List (List ℤ))
    → AllByRecursion (λ (row : Row). IsReady counts stages row.0 row.1) (zip cs ts) → AllByRecursion (λ (row : Row). length row.1 ≤ row.0.capacity) (zip cs ts)
within counts stages [] ts r = tt
within counts stages (c ∷ cs) [] r = tt
within counts stages (c ∷ cs) (t ∷ ts) r = (r.0.fits, within counts stages cs ts r.1)

-- no channel ever holds more than its capacity
pub within_all : (plan : Plan) (s : State) (ms : List Move) → IsReached plan s → AreWithin plan (state_after plan s ms)
within_all plan s ms r =
    let t = state_after plan s ms in
    within t.counts t.stages plan.channels (map waiting t.streams) (reached_all plan s ms r).fit.ready
