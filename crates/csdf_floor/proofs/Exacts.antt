-- Feeds of just the tokens that a run takes.
use Rattle.std.proofs.Common.{◌≡◌, ℕ, ◌+◌, ◌*◌, ◌<◌, ◌≤◌, true, List, [], ◌∷◌, length, map, drop, get_or, refl, ap, inl, inr, sym, subst, ◌∙◌, arith, None, drop_of_length-le}
use Rattle.std.specs.Prelude.{ℤ, sum_by}
use Rattle.std.specs.Global.{Vec}
use Rattle.std.proofs.lemmas.Bool.Decides.{eqb_tells}
use Rattle.std.specs.List.{zip}
use Rattle.std.proofs.lemmas.List.Sums.{sum_by-cons, sum_by-drop_more}
use Rattle.std.proofs.lemmas.List.{length-map, get_or-map}
use Rattle.csdf_model.specs.declared.parts.Channel.{Channel as ChannelCode}
use Rattle.csdf_model.specs.Graph as graph
use Rattle.csdf_model.specs.Graph.{Graph, channel_view}
use Rattle.csdf_analysis.specs.Acceptance.{Accepted, IsAccepted}
use Rattle.csdf_core.specs.Planned.{with_capacity}
use Rattle.csdf_core.specs.Step.{given, is_source}
use Rattle.csdf_floor.specs.Continuing.{given_to, given_in}
use Rattle.csdf_floor.specs.Journal.{program_for}
use Rattle.csdf_floor.specs.Work.{feeds_in, is_source_of}
use Rattle.csdf_floor.proofs.JoinedStreams.{given_by}

given_zip : (a k : ℕ) (gs : List graph.Channel) (caps : List ℕ) → length caps ≡ length gs
    → sum_by (given_by a k) (map with_capacity (zip gs caps)) ≡ given_in gs a k
given_zip a k [] [] each = refl
given_zip a k [] (b ∷ caps) each = absurd (omega arith)
given_zip a k (c ∷ gs) [] each = absurd (omega arith)
given_zip a k (c ∷ gs) (b ∷ caps) each =
    let rest = given_zip a k gs caps (omega arith) in
    let one = sum_by-cons (given_by a k) (with_capacity (c, b)) (map with_capacity (zip gs caps)) in
    let two = sum_by-cons (given_to a k) c gs in
    omega arith

-- what a source of the graph gives in all
pub given_of_graph : (a : Accepted) (feeds : List (List ℤ)) (periods i k : ℕ) → IsAccepted a
    → given (program_for a feeds periods None).plan i k ≡ given_in a.graph.channels i k
unfolding given
given_of_graph a feeds periods i k ok = given_zip i k a.graph.channels a.capacities ok.least.completes.each_channel

-- ---- channel after channel

pub gives_next : (channels : List ChannelCode) (i a k : ℕ) (x : ChannelCode) → i < length channels → x ≡ get_or channels i x
    → sum_by (given_to a k) (drop i (map channel_view channels)) ≡ given_to a k (channel_view x) + sum_by (given_to a k) (drop (i + 1) (map channel_view channels))
gives_next channels i a k x lt is =
    let len = length-map channels channel_view in
    sum_by-drop_more (given_to a k) (map channel_view channels) i (channel_view x) (omega arith)
    ∙ ap (λ (c : graph.Channel). given_to a k c + sum_by (given_to a k) (drop (i + 1) (map channel_view channels)))
    (get_or-map channel_view channels i x (channel_view x) lt ∙ ap channel_view (sym is))

pub gives_no_more : (channels : List ChannelCode) (i a k : ℕ) → length channels ≤ i → sum_by (given_to a k) (drop i (map channel_view channels)) ≡ 0
gives_no_more channels i a k le =
    let len = length-map channels channel_view in
    ap (λ (cs : List graph.Channel). sum_by (given_to a k) cs) (drop_of_length-le (map channel_view channels) {i = i} (omega arith))

-- ---- actor after actor

abbrev pub IsExactAt : Accepted → List (List ℤ) → ℕ → ℕ → Type 0
IsExactAt a feeds periods i =
    is_source (program_for a feeds periods None).plan i ≡ true
    → length (get_or feeds i []) ≡ given (program_for a feeds periods None).plan i (periods * get_or a.q i 0)

-- an actor's list, as the graph alone tells what it has to be
pub exact_of : (a : Accepted) (feeds : List (Vec ℤ)) (periods i : ℕ) (x : Vec ℤ) → IsAccepted a → i < length feeds → x ≡ get_or feeds i x
    → (is_source_of a.graph i ≡ true → length x.items ≡ given_in a.graph.channels i (periods * get_or a.q i 0)) → IsExactAt a (feeds_in feeds) periods i
exact_of a feeds periods i x ok lt is just source =
    ap (λ (feed : List ℤ). length feed) (get_or-map (λ (feed : Vec ℤ). feed.items) feeds i x [] lt ∙ ap (λ (v : Vec ℤ). v.items) (sym is))
    ∙ just source
    ∙ sym (given_of_graph a (feeds_in feeds) periods i (periods * get_or a.q i 0) ok)

pub just_of : (a : Accepted) (feeds : List (Vec ℤ)) (periods i : ℕ) (x : Vec ℤ) → IsAccepted a → i < length feeds → x ≡ get_or feeds i x
    → IsExactAt a (feeds_in feeds) periods i → is_source_of a.graph i ≡ true → length x.items ≡ given_in a.graph.channels i (periods * get_or a.q i 0)
just_of a feeds periods i x ok lt is exact source =
    sym (ap (λ (feed : List ℤ). length feed) (get_or-map (λ (feed : Vec ℤ). feed.items) feeds i x [] lt ∙ ap (λ (v : Vec ℤ). v.items) (sym is)))
    ∙ exact source
    ∙ given_of_graph a (feeds_in feeds) periods i (periods * get_or a.q i 0) ok

pub exact_next : (a : Accepted) (feeds : List (List ℤ)) (periods n : ℕ) → ((i : ℕ) → i < n → IsExactAt a feeds periods i) → IsExactAt a feeds periods n
    → (i : ℕ) → i < n + 1 → IsExactAt a feeds periods i
exact_next a feeds periods n before here i lt = elim (eqb_tells i n) [
  | inl same ↦ subst (λ m. IsExactAt a feeds periods m) (sym same.1) here
  | inr other ↦ before i (let ne = other.1 in omega arith)
]

-- so many tokens are what the actor gives, if it is a source
abbrev pub IsJustAt : Graph → ℕ → ℕ → ℕ → Type 0
IsJustAt g i tokens n = is_source_of g i ≡ true → tokens ≡ given_in g.channels i n

pub just_on : (g h : Graph) (i t u n m : ℕ) → g ≡ h → t ≡ u → n ≡ m → IsJustAt g i t n → IsJustAt h i u m
just_on g h i t u n m graph tokens firings just =
    subst (λ (k : Graph). IsJustAt k i u m) graph (subst (λ k. IsJustAt g i k m) tokens (subst (λ k. IsJustAt g i t k) firings just))
