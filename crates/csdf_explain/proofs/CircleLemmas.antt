-- The ends of channels, and a walk from actor to actor, as the code finds them.
use Rattle.std.proofs.Common.{◌≡◌, ℕ, ◌+◌, ◌<◌, ◌==◌, Bool, true, false, List, [], ◌∷◌, ◌++◌, length, drop, get_or, map, ap, ◌∙◌, sym, arith}
use Rattle.std.proofs.lemmas.Bool.{eq-eqb, ne_eqb}
use Rattle.std.proofs.lemmas.List.{append-nil, append_assoc, at_drop_more, get_or-map, length-map}
use Rattle.std.specs.Prelude.{Option, None, if◌then◌else◌, slice_index}
use Rattle.csdf_analysis.specs.declared.stall.Wait.{Wait}
use Rattle.csdf_model.specs.Graph.{Channel, channel_view}
use Rattle.csdf_model.specs.declared.parts.Channel.{Channel as ChannelCode}
use Rattle.csdf_explain.specs.Circle.{awaited, consumers, producers, round, walked}

-- the number that stands in a place
number_at : {A B : Type 0} (view : A → B) (number : B → ℕ) (xs : List A) (i : ℕ) (x : A)
    → i < length xs → x ≡ get_or xs i x → number (view x) ≡ slice_index (map number (map view xs)) i
number_at view number xs i x lt is =
    let within : i < length (map view xs) = omega (arith, lt, length-map xs view) in
    let seen : get_or (map view xs) i (view x) ≡ view x = get_or-map view xs i x (view x) lt ∙ ap view (sym is) in
    sym (get_or-map number (map view xs) i (view x) 0 within ∙ ap number seen)

-- the producer and the consumer of the channel that stands at a number
pub producer-found : (channels : List ChannelCode) (c : ℕ) (d : ChannelCode)
    → c < length channels → d ≡ get_or channels c d → d.from ≡ slice_index (producers (map channel_view channels)) c
producer-found channels c d lt is = number_at channel_view (λ (m : Channel). m.from) channels c d lt is

pub consumer-found : (channels : List ChannelCode) (c : ℕ) (d : ChannelCode)
    → c < length channels → d ≡ get_or channels c d → d.to ≡ slice_index (consumers (map channel_view channels)) c
consumer-found channels c d lt is = number_at channel_view (λ (m : Channel). m.to) channels c d lt is

-- one step more
pub walk_on : (channels : List Channel) (waits : List (Option Wait)) (i a b end : ℕ)
    → i < length waits → b ≡ awaited channels waits a
    → walked channels waits (drop i waits) a ≡ end → walked channels waits (drop (i + 1) waits) b ≡ end
walk_on channels waits i a b end lt is known =
    ap (walked channels waits (drop (i + 1) waits)) is
    ∙ sym (at_drop_more (λ (steps : List (Option Wait)). walked channels waits steps a) waits i None lt) ∙ known

-- what comes after an actor of the circle, by whether the next one is the first
abbrev after : List Channel → List (Option Wait) → List (Option Wait) → ℕ → ℕ → Bool → List ℕ
after channels waits steps first b is_first = if is_first then [] else round channels waits steps first b

-- an actor more of the circle, by what comes after it
further : (channels : List Channel) (waits : List (Option Wait)) (i first a b : ℕ) (is_first : Bool) (found more whole : List ℕ)
    → i < length waits → b ≡ awaited channels waits a → (b == first) ≡ is_first → more ≡ found ++ (a ∷ [])
    → found ++ round channels waits (drop i waits) first a ≡ whole
    → more ++ after channels waits (drop (i + 1) waits) first b is_first ≡ whole
further channels waits i first a b is_first found more whole lt is tells longer known =
    let rest = drop (i + 1) waits in
    let turn : after channels waits rest first b is_first
    ≡ after channels waits rest first (awaited channels waits a) (awaited channels waits a == first) =
    ap (after channels waits rest first b) (sym tells) ∙ ap (λ n. after channels waits rest first n (n == first)) is in
    ap (λ them. them ++ after channels waits rest first b is_first) longer
    ∙ append_assoc found (a ∷ []) (after channels waits rest first b is_first)
    ∙ ap (λ them. found ++ (a ∷ them)) turn
    ∙ ap (λ them. found ++ them) (sym (at_drop_more (λ (steps : List (Option Wait)). round channels waits steps first a) waits i None lt))
    ∙ known

-- the next one is another, or the first
pub round_on : (channels : List Channel) (waits : List (Option Wait)) (i first a b : ℕ) (found more whole : List ℕ)
    → i < length waits → b ≡ awaited channels waits a → (b ≡ first → ⊥) → more ≡ found ++ (a ∷ [])
    → found ++ round channels waits (drop i waits) first a ≡ whole
    → more ++ round channels waits (drop (i + 1) waits) first b ≡ whole
round_on channels waits i first a b found more whole lt is other longer known =
    further channels waits i first a b false found more whole lt is (ne_eqb b first other) longer known

pub round_ends : (channels : List Channel) (waits : List (Option Wait)) (i first a b : ℕ) (found more whole : List ℕ)
    → i < length waits → b ≡ awaited channels waits a → b ≡ first → more ≡ found ++ (a ∷ [])
    → found ++ round channels waits (drop i waits) first a ≡ whole
    → more ≡ whole
round_ends channels waits i first a b found more whole lt is back longer known =
    sym (append-nil more) ∙ further channels waits i first a b true found more whole lt is (eq-eqb b first back) longer known
