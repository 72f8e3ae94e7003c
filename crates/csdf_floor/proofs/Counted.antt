-- The numbers of a report, in the words of the moves and their replies.
use Rattle.std.proofs.Common.{◌≡◌, ℕ, zero, suc, ◌+◌, ◌≤◌, List, [], ◌∷◌, ◌++◌, length, get_or, map, refl, ap, sym, ◌∙◌, arith, length-append, length-take-le}
use Rattle.std.specs.Prelude.{ℤ}
use Rattle.std.specs.List.{zip, AllByRecursion}
use Rattle.csdf_core.specs.Moves.{Move}
use Rattle.csdf_core.specs.Plan.{Channel}
use Rattle.csdf_core.specs.Playable.{IsPlayable}
use Rattle.csdf_core.specs.State.{Stream, State, waiting, opening}
use Rattle.csdf_core.specs.Step.{is_spent}
use Rattle.csdf_core.specs.Streams.{part, initial, written_to, tokens_taken}
use Rattle.csdf_core.proofs.FitLemmas.{reached_all}
use Rattle.csdf_core.proofs.Opening.{reached_opening}
use Rattle.csdf_core.proofs.History.{gone, in_written, grown}
use Rattle.csdf_floor.specs.Journal.{Program, state_of, replies_to}
use Rattle.csdf_floor.specs.Sequential.{sequential_state}
use Rattle.csdf_floor.specs.Laws.{written_in, taken_in, IsFront, EndsCounted, StaysCounted}
use Rattle.csdf_floor.proofs.Bounds.{faithful_end}
use Rattle.csdf_floor.proofs.Sequential.{rest_opening, rest_all}
use Rattle.csdf_floor.proofs.Ends.{stays_within, ends_as_sequential}

first_written : (cs : List Channel) (c : ℕ) → part c (map in_written (map (λ (d : Channel). record { written = d.initial; taken = 0 }) cs))
    ≡ part c (map (λ (d : Channel). d.initial) cs)
first_written [] c = refl
first_written (d ∷ cs) zero = refl
first_written (d ∷ cs) (suc c) = first_written cs c

first_gone : (cs : List Channel) (c : ℕ) → part c (map gone (map (λ (d : Channel). record { written = d.initial; taken = 0 }) cs)) ≡ []
first_gone [] c = refl
first_gone (d ∷ cs) zero = refl
first_gone (d ∷ cs) (suc c) = first_gone cs c

gone_length : (c : ℕ) (sts : List Stream) → AllByRecursion (λ (stream : Stream). stream.taken ≤ length stream.written) sts
    → length (part c (map gone sts)) ≡ get_or (map (λ (stream : Stream). stream.taken) sts) c 0
gone_length c [] l = refl
gone_length zero (st ∷ sts) l = length-take-le st.taken st.written l.0
gone_length (suc c) (st ∷ sts) l = gone_length c sts l.1

-- so many tokens were written and taken
pub written_is : (w : Program) (journal : List Move) (c : ℕ) → IsPlayable w.plan
    → length (initial w.plan c) + length (written_to w.plan c journal (replies_to w journal)) ≡ length (written_in (state_of w journal) c)
written_is w journal c h =
    let g = grown w.plan (opening w.plan) c journal (reached_opening w.plan h) in
    sym (ap length (g.written ∙ ap (λ (z : List ℤ). z ++ written_to w.plan c journal (replies_to w journal)) (first_written w.plan.channels c))
    ∙ length-append (initial w.plan c) (written_to w.plan c journal (replies_to w journal)))

pub taken_is : (w : Program) (journal : List Move) (c : ℕ) → IsPlayable w.plan
    → length (tokens_taken w.plan c journal (replies_to w journal)) ≡ taken_in (state_of w journal) c
taken_is w journal c h =
    let g = grown w.plan (opening w.plan) c journal (reached_opening w.plan h) in
    let r = reached_all w.plan (opening w.plan) journal (reached_opening w.plan h) in
    sym (ap length (g.gone ∙ ap (λ (z : List ℤ). z ++ tokens_taken w.plan c journal (replies_to w journal)) (first_gone w.plan.channels c)))
    ∙ gone_length c (state_of w journal).streams r.lawful

pub ends_counted : EndsCounted
ends_counted w journal actors playable h p exhausted =
    let same = ends_as_sequential w journal actors h p exhausted in
    record {
      written = λ c. written_is w journal c playable ∙ ap (λ (xs : List Stream). length (part c (map (λ (stream : Stream). stream.written) xs))) same.streams;
      taken = λ c. taken_is w journal c playable ∙ ap (λ (xs : List Stream). get_or (map (λ (stream : Stream). stream.taken) xs) c 0) same.streams;
      held = λ c. ap (λ (xs : List Stream). length (part c (map waiting xs))) same.streams;
      spent = λ a. ap (λ (ks : List ℕ). is_spent w.plan (record { counts = ks; stages = []; opens = []; tokens = [] }) a) same.counts;
    }

front_written : (c : ℕ) (xs ys : List Stream) → length xs ≡ length ys → AllByRecursion IsFront (zip xs ys)
    → length (part c (map (λ (stream : Stream). stream.written) xs)) ≤ length (part c (map (λ (stream : Stream). stream.written) ys))
front_written c [] ys len fronts = omega arith
front_written c (x ∷ xs) [] len fronts = absurd (omega arith)
front_written zero (x ∷ xs) (y ∷ ys) len fronts = let e = ap length fronts.0.0.1 in let l = length-append x.written fronts.0.0.0 in omega arith
front_written (suc c) (x ∷ xs) (y ∷ ys) len fronts = front_written c xs ys (omega arith) fronts.1

front_taken : (c : ℕ) (xs ys : List Stream) → length xs ≡ length ys → AllByRecursion IsFront (zip xs ys)
    → get_or (map (λ (stream : Stream). stream.taken) xs) c 0 ≤ get_or (map (λ (stream : Stream). stream.taken) ys) c 0
front_taken c [] ys len fronts = omega arith
front_taken c (x ∷ xs) [] len fronts = absurd (omega arith)
front_taken zero (x ∷ xs) (y ∷ ys) len fronts = fronts.0.1
front_taken (suc c) (x ∷ xs) (y ∷ ys) len fronts = front_taken c xs ys (omega arith) fronts.1

pub stays_counted : StaysCounted
stays_counted w journal actors playable h p =
    let s : State = state_of w journal in
    let t : State = sequential_state w actors in
    let within = stays_within w journal actors h p in
    let bs = (faithful_end w journal h).booked in
    let bt = (rest_all w (opening w.plan) actors (rest_opening w) p).faithful.booked in
    let len : length s.streams ≡ length t.streams = bs.streamed ∙ sym bt.streamed in
    record {
      written = λ c. (let e = written_is w journal c playable in let l = front_written c s.streams t.streams len within.streams in omega arith);
      taken = λ c. (let e = taken_is w journal c playable in let l = front_taken c s.streams t.streams len within.streams in omega arith);
    }
