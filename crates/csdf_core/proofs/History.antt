-- What went into each stream and out of it is what the moves and replies say.
use Rattle.std.proofs.Common.{◌≡◌, ℕ, ◌+◌, zero, suc, List, [], ◌∷◌, ◌++◌, length, take, drop, map, refl, ap, ◌∙◌, sym, arith, append_assoc, append-nil, Option}
use Rattle.std.proofs.Common.{Some, None}
use Rattle.std.specs.Prelude.{ℤ, Ok, Err}
use Rattle.std.proofs.Math.Seq.{take-add}
use Rattle.std.proofs.lemmas.List.{take_at, drop_at, take-append-le, take-append-drop, length-take-le, length-map}
use Rattle.csdf_core.specs.declared.refusal.Refusal.{Refusal}
use Rattle.csdf_core.specs.Moves.{Move}
use Rattle.csdf_core.specs.Moves.{Begin, Read, Write, Finish, Close}
use Rattle.csdf_core.specs.Plan.{Channel, Plan, takes_of, gives_of}
use Rattle.csdf_core.specs.Rows.{cut, joined, taken, AreThere}
use Rattle.csdf_core.specs.State.{Stream, State, present, waiting, opening}
use Rattle.csdf_core.specs.Step.{count, refusal, answer, accepted, reply_to, reply_by, after, state_by, Reply, replies_of, state_after}
use Rattle.csdf_core.specs.Streams.{part, written_by, taken_by, finishes_after, written_from, taken_from, written_to, tokens_taken, initial, IsPrefix}
use Rattle.csdf_core.proofs.Kept.{reads}
use Rattle.csdf_core.proofs.Ready.{are_there}
use Rattle.csdf_core.proofs.Flows.{drained, filled, AreLawful}
use Rattle.csdf_core.proofs.FitLemmas.{IsReached, reached_after}
use Rattle.csdf_core.specs.Playable.{IsPlayable}
use Rattle.csdf_core.proofs.Opening.{reached_opening}

-- the tokens that were taken from a stream
abbrev pub gone : Stream → List ℤ
gone stream = take stream.taken stream.written

abbrev pub in_written : Stream → List ℤ
in_written stream = stream.written

part-joined : (c : ℕ) (ts parts : List (List ℤ)) → length ts ≡ length parts → part c (joined ts parts) ≡ part c ts ++ part c parts
part-joined c [] [] e = refl
part-joined c [] (v ∷ parts) e = absurd (omega arith)
part-joined c (t ∷ ts) [] e = absurd (omega arith)
part-joined zero (t ∷ ts) (v ∷ parts) e = refl
part-joined (suc c) (t ∷ ts) (v ∷ parts) e = part-joined c ts parts (omega arith)

length-cut : (amount : Channel → ℕ) (cs : List Channel) (v : List ℤ) → length (cut amount cs v) ≡ length cs
length-cut amount [] v = refl
length-cut amount (c ∷ cs) v = ap suc (length-cut amount cs _)

-- a read takes from the streams what its reply_to says
gone-drained : (a k : ℕ) (cs : List Channel) (sts : List Stream) → length sts ≡ length cs → AreThere a k cs (map waiting sts)
    → map gone (drained a k cs sts) ≡ joined (map gone sts) (cut (takes_of a k) cs (taken a k cs (map waiting sts)))
gone-drained a k [] [] e there = refl
gone-drained a k [] (s ∷ sts) e there = absurd (omega arith)
gone-drained a k (c ∷ cs) [] e there = absurd (omega arith)
gone-drained a k (c ∷ cs) (s ∷ sts) e there =
    let n : ℕ = takes_of a k c in
    let here : List ℤ = take n (waiting s) in
    let others : List ℤ = taken a k cs (map waiting sts) in
    let len : length here ≡ n = length-take-le n (waiting s) there.0 in
    let whole : take (s.taken + n) s.written ≡ take s.taken s.written ++ take n (here ++ others) = take-add s.taken n s.written
    ∙ ap (λ (x : List ℤ). take s.taken s.written ++ x) (sym (take_at here others n len)) in
    let rest : drop n (here ++ others) ≡ others = drop_at here others n len in
    ap (λ (x : List ℤ). x ∷ map gone (drained a k cs sts)) whole
    ∙ ap (λ (xs : List (List ℤ)). (take s.taken s.written ++ take n (here ++ others)) ∷ xs)
    (gone-drained a k cs sts (omega arith) there.1 ∙ ap (λ (x : List ℤ). joined (map gone sts) (cut (takes_of a k) cs x)) (sym rest))

written-drained : (a k : ℕ) (cs : List Channel) (sts : List Stream) → length sts ≡ length cs → map in_written (drained a k cs sts) ≡ map in_written sts
written-drained a k [] [] e = refl
written-drained a k [] (s ∷ sts) e = absurd (omega arith)
written-drained a k (c ∷ cs) [] e = absurd (omega arith)
written-drained a k (c ∷ cs) (s ∷ sts) e = ap (λ (xs : List (List ℤ)). s.written ∷ xs) (written-drained a k cs sts (omega arith))

-- a write puts into the streams what it says, and takes nothing
written-filled : (sts : List Stream) (parts : List (List ℤ)) → map in_written (filled sts parts) ≡ joined (map in_written sts) parts
written-filled [] parts = refl
written-filled (s ∷ sts) [] = refl
written-filled (s ∷ sts) (v ∷ parts) = ap (λ (xs : List (List ℤ)). (s.written ++ v) ∷ xs) (written-filled sts parts)

gone-filled : (sts : List Stream) (parts : List (List ℤ)) → length sts ≡ length parts → AreLawful sts → map gone (filled sts parts) ≡ map gone sts
gone-filled [] [] e l = refl
gone-filled [] (v ∷ parts) e l = absurd (omega arith)
gone-filled (s ∷ sts) [] e l = absurd (omega arith)
gone-filled (s ∷ sts) (v ∷ parts) e l =
    let here : take s.taken (s.written ++ v) ≡ take s.taken s.written = take-append-le s.taken s.written v l.0 in
    let rest = gone-filled sts parts (omega arith) l.1 in cc

-- all that was written to stream c, and all that was taken
abbrev pub written_at : ℕ → State → List ℤ
written_at c s = part c (map in_written s.streams)

abbrev pub gone_at : ℕ → State → List ℤ
gone_at c s = part c (map gone s.streams)

-- what one move does to stream c
pub record Grows (plan : Plan) (s next : State) (c : ℕ) (m : Move) (r : Reply) : Type 0 where
  pub counts : next.counts ≡ finishes_after s.counts m r
  pub written : written_at c next ≡ written_at c s ++ written_by plan s.counts c m r
  pub gone : gone_at c next ≡ gone_at c s ++ taken_by plan s.counts c m r

nothing_more : (xs : List ℤ) → xs ≡ xs ++ []
nothing_more xs = sym (append-nil xs)

grows_refused : (plan : Plan) (s : State) (c : ℕ) (m : Move) (why : Refusal) → Grows plan s s c m (Err why)
grows_refused plan s c (Begin a) why = record { counts = refl; written = nothing_more _; gone = nothing_more _ }
grows_refused plan s c (Read a) why = record { counts = refl; written = nothing_more _; gone = nothing_more _ }
grows_refused plan s c (Write a v) why = record { counts = refl; written = nothing_more _; gone = nothing_more _ }
grows_refused plan s c (Finish a) why = record { counts = refl; written = nothing_more _; gone = nothing_more _ }
grows_refused plan s c (Close d) why = record { counts = refl; written = nothing_more _; gone = nothing_more _ }

grows_accepted : (plan : Plan) (s : State) (c : ℕ) (m : Move) → IsReached plan s → refusal plan (present s) m ≡ None
    → Grows plan s (accepted plan s m) c m (Ok (answer plan (present s) m))
grows_accepted plan s c (Begin a) r none = record { counts = refl; written = nothing_more _; gone = nothing_more _ }
grows_accepted plan s c (Finish a) r none = record { counts = refl; written = nothing_more _; gone = nothing_more _ }
grows_accepted plan s c (Close d) r none = record { counts = refl; written = nothing_more _; gone = nothing_more _ }
grows_accepted plan s c (Read a) r none =
    let w = reads plan (present s) a none in
    let k : ℕ = count (present s) a in
    let len : length s.streams ≡ length plan.channels = sym (length-map s.streams waiting) ∙ r.fit.queued in
    let there : AreThere a k plan.channels (map waiting s.streams) = are_there (present s) a plan.channels (map waiting s.streams) w.at r.fit.ready in
    let tokens : List ℤ = taken a k plan.channels (map waiting s.streams) in
    record {
      counts = refl;
      written = ap (part c) (written-drained a k plan.channels s.streams len) ∙ nothing_more _;
      gone = ap (part c) (gone-drained a k plan.channels s.streams len there)
          ∙ part-joined c (map gone s.streams) (cut (takes_of a k) plan.channels tokens)
          (length-map s.streams gone ∙ len ∙ sym (length-cut (takes_of a k) plan.channels tokens));
    }
grows_accepted plan s c (Write a v) r none =
    let k : ℕ = count (present s) a in
    let len : length s.streams ≡ length plan.channels = sym (length-map s.streams waiting) ∙ r.fit.queued in
    let parts : List (List ℤ) = cut (gives_of a k) plan.channels v in
    let len' : length s.streams ≡ length parts = len ∙ sym (length-cut (gives_of a k) plan.channels v) in
    record {
      counts = refl;
      written = ap (part c) (written-filled s.streams parts) ∙ part-joined c (map in_written s.streams) parts (length-map s.streams in_written ∙ len');
      gone = ap (part c) (gone-filled s.streams parts len' r.lawful) ∙ nothing_more _;
    }

grows_by : (plan : Plan) (s : State) (c : ℕ) (m : Move) (o : Option Refusal) → o ≡ refusal plan (present s) m → IsReached plan s
    → Grows plan s (state_by o (accepted plan s m) s) c m (reply_by o (answer plan (present s) m))
grows_by plan s c m None e r = grows_accepted plan s c m r (sym e)
grows_by plan s c m (Some why) e r = grows_refused plan s c m why

-- the counts are the finishes before
pub counts_after : (plan : Plan) (s : State) (m : Move) → IsReached plan s → (after plan s m).counts ≡ finishes_after s.counts m (reply_to plan s m)
counts_after plan s m r = (grows_by plan s 0 m (refusal plan (present s) m) refl r).counts

-- what a list of moves does to stream c
pub record Grown (plan : Plan) (s : State) (c : ℕ) (ms : List Move) : Type 0 where
  pub written : written_at c (state_after plan s ms) ≡ written_at c s ++ written_from plan s.counts c ms (replies_of plan s ms)
  pub gone : gone_at c (state_after plan s ms) ≡ gone_at c s ++ taken_from plan s.counts c ms (replies_of plan s ms)

pub grown : (plan : Plan) (s : State) (c : ℕ) (ms : List Move) → IsReached plan s → Grown plan s c ms
grown plan s c [] r = record { written = nothing_more _; gone = nothing_more _ }
grown plan s c (m ∷ ms) r =
    let g = grows_by plan s c m (refusal plan (present s) m) refl r in
    let next : State = after plan s m in
    let more = grown plan next c ms (reached_after plan s m r) in
    record {
      written = more.written ∙ ap (λ (x : List ℤ). x ++ written_from plan next.counts c ms (replies_of plan next ms)) g.written
          ∙ append_assoc (written_at c s) _ _
          ∙ ap (λ (ks : List ℕ). written_at c s ++ (written_by plan s.counts c m (reply_to plan s m) ++ written_from plan ks c ms (replies_of plan next ms)))
          g.counts;
      gone = more.gone ∙ ap (λ (x : List ℤ). x ++ taken_from plan next.counts c ms (replies_of plan next ms)) g.gone ∙ append_assoc (gone_at c s) _ _
          ∙ ap (λ (ks : List ℕ). gone_at c s ++ (taken_by plan s.counts c m (reply_to plan s m) ++ taken_from plan ks c ms (replies_of plan next ms))) g.counts;
    }

-- what was taken is a prefix of what was written
gone_prefix : (c : ℕ) (sts : List Stream) → IsPrefix (part c (map gone sts)) (part c (map in_written sts))
gone_prefix c [] = ([], refl)
gone_prefix zero (s ∷ sts) = (drop s.taken s.written, sym (take-append-drop s.taken s.written))
gone_prefix (suc c) (s ∷ sts) = gone_prefix c sts

at_start : (cs : List Channel) → map in_written (map (λ (c : Channel). record { written = c.initial; taken = 0 }) cs) ≡ map (λ (c : Channel). c.initial) cs
at_start [] = refl
at_start (c ∷ cs) = ap (λ (xs : List (List ℤ)). c.initial ∷ xs) (at_start cs)

none_gone : (c : ℕ) (cs : List Channel) → part c (map gone (map (λ (d : Channel). record { written = d.initial; taken = 0 }) cs)) ≡ []
none_gone c [] = refl
none_gone zero (d ∷ cs) = refl
none_gone (suc c) (d ∷ cs) = none_gone c cs

-- what all moves from the opening state took from channel c, and what was ever written to it, in the words of the streams
pub record AreTold (plan : Plan) (c : ℕ) (ms : List Move) : Type 0 where
  pub gone : gone_at c (state_after plan (opening plan) ms) ≡ tokens_taken plan c ms (replies_of plan (opening plan) ms)
  pub written : written_at c (state_after plan (opening plan) ms) ≡ initial plan c ++ written_to plan c ms (replies_of plan (opening plan) ms)

pub streams_told : (plan : Plan) (c : ℕ) (ms : List Move) → IsPlayable plan → AreTold plan c ms
streams_told plan c ms h =
    let g = grown plan (opening plan) c ms (reached_opening plan h) in
    let rs : List Reply = replies_of plan (opening plan) ms in
    record {
      gone = g.gone ∙ ap (λ (x : List ℤ). x ++ tokens_taken plan c ms rs) (none_gone c plan.channels);
      written = g.written ∙ ap (λ (x : List ℤ). x ++ written_to plan c ms rs) (ap (part c) (at_start plan.channels));
    }

-- the tokens taken from a channel are a prefix of its initial tokens followed by those written to it
pub taken_prefix : (plan : Plan) (c : ℕ) (ms : List Move) → IsPlayable plan
    → IsPrefix (tokens_taken plan c ms (replies_of plan (opening plan) ms)) (initial plan c ++ written_to plan c ms (replies_of plan (opening plan) ms))
taken_prefix plan c ms h =
    let told = streams_told plan c ms h in
    let p = gone_prefix c (state_after plan (opening plan) ms).streams in
    (p.0, sym told.written ∙ p.1 ∙ ap (λ (x : List ℤ). x ++ p.0) told.gone)
