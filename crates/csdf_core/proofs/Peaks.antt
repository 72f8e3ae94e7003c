-- The peak of a channel is its greatest length after any prefix of the moves.
use Rattle.std.proofs.Common.{◌≡◌, ℕ, zero, suc, ◌≤◌, max, List, [], ◌∷◌, length, get_or, map, refl, ap, ◌∙◌, sym, arith}
use Rattle.std.specs.Prelude.{ℤ}
use Rattle.csdf_core.specs.Moves.{Move}
use Rattle.csdf_core.specs.Plan.{Channel, Plan}
use Rattle.csdf_core.specs.State.{State, present, opening}
use Rattle.csdf_core.specs.Step.{after}
use Rattle.csdf_core.specs.Shows.{raised, raised_over}
use Rattle.csdf_core.specs.Streams.{part, length_of, peak_of}
use Rattle.std.proofs.lemmas.List.{length-map}
use Rattle.csdf_core.proofs.FitLemmas.{IsReached, reached_after}
use Rattle.csdf_core.proofs.Follows.{length-raised}
use Rattle.csdf_core.specs.Playable.{IsPlayable}
use Rattle.csdf_core.proofs.Opening.{waiting-opening, reached_opening}

pub raised_at : (peaks : List ℕ) (tokens : List (List ℤ)) (c : ℕ) → length peaks ≡ length tokens
    → get_or (raised peaks tokens) c 0 ≡ max (get_or peaks c 0) (length (part c tokens))
raised_at [] [] c e = refl
raised_at [] (t ∷ tokens) c e = absurd (omega arith)
raised_at (p ∷ peaks) [] c e = absurd (omega arith)
raised_at (p ∷ peaks) (t ∷ tokens) zero e = refl
raised_at (p ∷ peaks) (t ∷ tokens) (suc c) e = raised_at peaks tokens c (omega arith)

at_least : (plan : Plan) (s : State) (c : ℕ) (ms : List Move) → length_of s c ≤ peak_of plan s c ms
at_least plan s c [] = omega arith
at_least plan s c (m ∷ ms) = omega arith

-- over a list of moves each peak becomes the greater of itself and the greatest length
pub peaks_over : (plan : Plan) (s : State) (peaks : List ℕ) (c : ℕ) (ms : List Move) → IsReached plan s → length peaks ≡ length plan.channels
    → length_of s c ≤ get_or peaks c 0 → get_or (raised_over plan s peaks ms) c 0 ≡ max (get_or peaks c 0) (peak_of plan s c ms)
peaks_over plan s peaks c [] r len le = omega arith
peaks_over plan s peaks c (m ∷ ms) r len le =
    let next : State = after plan s m in
    let reached = reached_after plan s m r in
    let queued = reached.fit.queued in
    let same : length peaks ≡ length (present next).tokens = len ∙ sym queued in
    let here : get_or (raised peaks (present next).tokens) c 0 ≡ max (get_or peaks c 0) (length_of next c) = raised_at peaks (present next).tokens c same in
    let rest = peaks_over plan next (raised peaks (present next).tokens) c ms reached (length-raised peaks (present next).tokens same ∙ queued)
    (omega (arith, here)) in
    let least = at_least plan next c ms in
    omega (arith, here, rest, least, le)

part-lengths : (c : ℕ) (ts : List (List ℤ)) → get_or (map length ts) c 0 ≡ length (part c ts)
part-lengths c [] = refl
part-lengths zero (t ∷ ts) = refl
part-lengths (suc c) (t ∷ ts) = part-lengths c ts

-- from the opening state, with each peak the number of initial tokens
pub peaks_from_opening : (plan : Plan) (c : ℕ) (ms : List Move) → IsPlayable plan
    → get_or (raised_over plan (opening plan) (map length (map (λ (channel : Channel). channel.initial) plan.channels)) ms) c 0 ≡ peak_of plan (opening plan) c
    ms
peaks_from_opening plan c ms h =
    let first : List (List ℤ) = map (λ (channel : Channel). channel.initial) plan.channels in
    let here : get_or (map length first) c 0 ≡ length_of (opening plan) c = part-lengths c first
    ∙ ap (λ ts. length (part c ts)) (sym (waiting-opening plan.channels)) in
    let len : length (map length first) ≡ length plan.channels = length-map first length ∙ length-map plan.channels (λ (channel : Channel). channel.initial) in
    let all = peaks_over plan (opening plan) (map length first) c ms (reached_opening plan h) len (omega (arith, here)) in
    let least = at_least plan (opening plan) c ms in
    omega (arith, all, here, least)
