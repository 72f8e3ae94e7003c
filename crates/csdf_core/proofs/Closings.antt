-- Nothing is written to a channel after an accepted close.
use Rattle.std.proofs.Common.{◌≡◌, ℕ, zero, suc, inl, inr, List, [], ◌∷◌, ◌++◌, length, get_or, set, take, drop, refl, ap, subst, ◌∙◌, sym, arith, Bool, false}
use Rattle.std.proofs.Common.{cond, Option, Some, None}
use Rattle.std.specs.Prelude.{ℤ}
use Rattle.std.proofs.lemmas.Bool.Decides.{eqb_tells}
use Rattle.csdf_model.specs.Rates.{rate}
use Rattle.csdf_core.specs.declared.stage.Stage.{Stage}
use Rattle.csdf_core.specs.declared.stage.Stage.TheVariants.{Idle, Fetched}
use Rattle.csdf_core.specs.declared.refusal.Refusal.{Refusal}
use Rattle.csdf_core.specs.Moves.{Move}
use Rattle.csdf_core.specs.Moves.{Begin, Read, Write, Finish, Close}
use Rattle.csdf_core.specs.Plan.{Channel, Plan, gives_of}
use Rattle.csdf_core.specs.Rows.{cut}
use Rattle.csdf_core.specs.State.{State, present, opening}
use Rattle.csdf_core.specs.Step.{count, is_open, refusal, answer, accepted, reply_to, reply_by, after, state_by, replies_of}
use Rattle.csdf_core.specs.Streams.{part, written_by, finishes_after, written_from, written_to, IsCloseOf, IsClosedIn}
use Rattle.csdf_core.proofs.Kept.{writes}
use Rattle.csdf_core.proofs.ClosedLemmas.{AreStill}
use Rattle.csdf_core.proofs.FitLemmas.{IsReached, reached_after}
use Rattle.csdf_core.proofs.History.{counts_after}
use Rattle.csdf_core.specs.Playable.{IsPlayable}
use Rattle.csdf_core.proofs.Opening.{reached_opening}

-- a firing whose actor is to write gives nothing to a closed channel
none_given : (stages : List Stage) (a k : ℕ) (cs : List Channel) (os : List Bool) (v : List ℤ) (c : ℕ) → length os ≡ length cs → AreStill stages cs os
    → get_or stages a Idle ≡ Fetched → get_or os c false ≡ false → part c (cut (gives_of a k) cs v) ≡ []
none_given stages a k [] os v c len still at shut = refl
none_given stages a k (d ∷ cs) [] v c len still at shut = absurd (omega arith)
none_given stages a k (d ∷ cs) (o ∷ os) v zero len still at shut = elim (eqb_tells d.from a) [
  | inl e ↦ absurd ((still.0 shut).1 (ap (λ b. get_or stages b Idle) e.1 ∙ at))
  | inr e ↦ ap (λ b. take (cond b (rate d.produce k) 0) v) e.0
]
none_given stages a k (d ∷ cs) (o ∷ os) v (suc c) len still at shut = none_given stages a k cs os (drop (gives_of a k d) v) c (omega arith) still.1 at shut

stays_shut : (os : List Bool) (d c : ℕ) → get_or os c false ≡ false → get_or (set os d false) c false ≡ false
stays_shut [] d c e = e
stays_shut (o ∷ os) zero zero e = refl
stays_shut (o ∷ os) zero (suc c) e = e
stays_shut (o ∷ os) (suc d) zero e = e
stays_shut (o ∷ os) (suc d) (suc c) e = stays_shut os d c e

is_shut : (os : List Bool) (c : ℕ) → get_or (set os c false) c false ≡ false
is_shut [] c = refl
is_shut (o ∷ os) zero = refl
is_shut (o ∷ os) (suc c) = is_shut os c

-- a move writes nothing to a closed channel
none_by : (plan : Plan) (s : State) (c : ℕ) (m : Move) (o : Option Refusal) → o ≡ refusal plan (present s) m → IsReached plan s → is_open (present s) c ≡ false
    → written_by plan s.counts c m (reply_by o (answer plan (present s) m)) ≡ []
none_by plan s c (Write a v) None e r shut =
    let w = writes plan (present s) a v (sym e) in
    none_given s.stages a (count (present s) a) plan.channels s.opens v c r.fit.opened r.fit.closed w.0.at shut
none_by plan s c (Write a v) (Some why) e r shut = refl
none_by plan s c (Begin a) o e r shut = refl
none_by plan s c (Read a) o e r shut = refl
none_by plan s c (Finish a) o e r shut = refl
none_by plan s c (Close d) o e r shut = refl

-- and leaves it closed
shut_by : (plan : Plan) (s : State) (c : ℕ) (m : Move) (o : Option Refusal) → is_open (present s) c ≡ false
    → is_open (present (state_by o (accepted plan s m) s)) c ≡ false
shut_by plan s c m (Some why) shut = shut
shut_by plan s c (Begin a) None shut = shut
shut_by plan s c (Read a) None shut = shut
shut_by plan s c (Write a v) None shut = shut
shut_by plan s c (Finish a) None shut = shut
shut_by plan s c (Close d) None shut = stays_shut s.opens d c shut

-- nor do more moves
none_more : (plan : Plan) (s : State) (c : ℕ) (ms : List Move) → IsReached plan s → is_open (present s) c ≡ false
    → written_from plan s.counts c ms (replies_of plan s ms) ≡ []
none_more plan s c [] r shut = refl
none_more plan s c (m ∷ ms) r shut =
    let here = none_by plan s c m (refusal plan (present s) m) refl r shut in
    let next : State = after plan s m in
    let rest = none_more plan next c ms (reached_after plan s m r) (shut_by plan s c m (refusal plan (present s) m) shut) in
    ap (λ xs. xs ++ written_from plan (finishes_after s.counts m (reply_to plan s m)) c ms (replies_of plan next ms)) here
    ∙ ap (λ ks. written_from plan ks c ms (replies_of plan next ms)) (sym (counts_after plan s m r)) ∙ rest

none_more_of : (plan : Plan) (s : State) (c n : ℕ) (ms : List Move) → IsReached plan s → is_open (present s) c ≡ false
    → written_from plan s.counts c (take n ms) (take n (replies_of plan s ms)) ≡ []
none_more_of plan s c zero ms r shut = refl
none_more_of plan s c (suc n) [] r shut = refl
none_more_of plan s c (suc n) (m ∷ ms) r shut =
    let here = none_by plan s c m (refusal plan (present s) m) refl r shut in
    let next : State = after plan s m in
    let rest = none_more_of plan next c n ms (reached_after plan s m r) (shut_by plan s c m (refusal plan (present s) m) shut) in
    ap (λ xs. xs ++ written_from plan (finishes_after s.counts m (reply_to plan s m)) c (take n ms) (take n (replies_of plan next ms))) here
    ∙ ap (λ ks. written_from plan ks c (take n ms) (take n (replies_of plan next ms))) (sym (counts_after plan s m r)) ∙ rest

-- an accepted close closes its channel and writes nothing
shut_at : (plan : Plan) (s : State) (c : ℕ) (m : Move) (o : Option Refusal) → IsCloseOf c m (reply_by o (answer plan (present s) m))
    → is_open (present (state_by o (accepted plan s m) s)) c ≡ false
shut_at plan s c (Close d) None e = subst (λ b. get_or (set s.opens d false) b false ≡ false) e (is_shut s.opens d)
shut_at plan s c (Close d) (Some why) e = absurd e
shut_at plan s c (Begin a) o e = absurd e
shut_at plan s c (Read a) o e = absurd e
shut_at plan s c (Write a v) o e = absurd e
shut_at plan s c (Finish a) o e = absurd e

-- once a close of the channel was accepted, nothing more is written to it
shut_from : (plan : Plan) (s : State) (c n : ℕ) (ms : List Move) → IsReached plan s → IsClosedIn c (take n ms) (take n (replies_of plan s ms))
    → written_from plan s.counts c ms (replies_of plan s ms) ≡ written_from plan s.counts c (take n ms) (take n (replies_of plan s ms))
shut_from plan s c zero ms r h = absurd h
shut_from plan s c (suc n) [] r h = absurd h
shut_from plan s c (suc n) (m ∷ ms) r (inl h) =
    let next : State = after plan s m in
    let shut : is_open (present next) c ≡ false = shut_at plan s c m (refusal plan (present s) m) h in
    let reached = reached_after plan s m r in
    let counts = counts_after plan s m r in
    let all : written_from plan (finishes_after s.counts m (reply_to plan s m)) c ms (replies_of plan next ms) ≡ [] =
    ap (λ ks. written_from plan ks c ms (replies_of plan next ms)) (sym counts) ∙ none_more plan next c ms reached shut in
    let some : written_from plan (finishes_after s.counts m (reply_to plan s m)) c (take n ms) (take n (replies_of plan next ms)) ≡ [] =
    ap (λ ks. written_from plan ks c (take n ms) (take n (replies_of plan next ms))) (sym counts) ∙ none_more_of plan next c n ms reached shut in
    ap (λ xs. written_by plan s.counts c m (reply_to plan s m) ++ xs) (all ∙ sym some)
shut_from plan s c (suc n) (m ∷ ms) r (inr h) =
    let next : State = after plan s m in
    let counts = counts_after plan s m r in
    let rest = shut_from plan next c n ms (reached_after plan s m r) h in
    ap (λ xs. written_by plan s.counts c m (reply_to plan s m) ++ xs)
    (ap (λ ks. written_from plan ks c ms (replies_of plan next ms)) (sym counts) ∙ rest
    ∙ ap (λ ks. written_from plan ks c (take n ms) (take n (replies_of plan next ms))) counts)

pub closed_for_good : (plan : Plan) (c n : ℕ) (ms : List Move) → IsPlayable plan → IsClosedIn c (take n ms) (take n (replies_of plan (opening plan) ms))
    → written_to plan c ms (replies_of plan (opening plan) ms) ≡ written_to plan c (take n ms) (take n (replies_of plan (opening plan) ms))
closed_for_good plan c n ms h closed = shut_from plan (opening plan) c n ms (reached_opening plan h) closed
