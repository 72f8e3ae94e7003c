-- One channel's capacity alone, with the given ones of the others.
use Rattle.std.proofs.Common.{◌≡◌, ℕ, zero, suc, ◌+◌, ◌<◌, ◌≤◌, inl, inr, List, [], ◌∷◌, Option, Some, None, length, get_or, set, map, refl, sym, ap, subst, ◌∙◌, arith}
use Rattle.std.specs.Prelude.{All, slice_get, slice_index_or}
use Rattle.std.proofs.lemmas.List.{get_or-set_same, get_or-set_other, length-set, length-map}
use Rattle.std.proofs.lemmas.List.{get_or_past}
use Rattle.std.proofs.lemmas.List.Elements.{All-set, All-map, All-get_or}
use Rattle.std.proofs.lemmas.Option.{none-some, slice_get_within}
use Rattle.csdf_model.specs.Graph.{Channel, Graph}
use Rattle.csdf_model.specs.WellFormed.{IsWellFormed}
use Rattle.csdf_analysis.specs.declared.stall.Stall.{Stall}
use Rattle.csdf_analysis.specs.declared.stall.Wait.{Wait}
use Rattle.csdf_analysis.specs.declared.stall.Wait.TheVariants as wait
use Rattle.csdf_analysis.specs.Repetition.{full_capacity, IsRepetition}
use Rattle.csdf_analysis.specs.Period.{HoldInitial, CompletesPeriod}
use Rattle.csdf_analysis.specs.Capacities.{IsLeastCapacity, full_capacities}
use Rattle.csdf_analysis.specs.Lowering.{first_bound, first_bounds}
use Rattle.csdf_analysis.specs.Relief.{HasNoRelief, roomy_bounds}
use Rattle.csdf_analysis.specs.Stalling.{IsStall, SaysOf}
use Rattle.csdf_analysis.proofs.CountLemmas.{same_or_not, less_or_not}
use Rattle.csdf_analysis.proofs.LowerLemmas.{bound_at, first_initial, within_capacity}
use Rattle.csdf_analysis.proofs.RoomLemmas.{enough_complete}

set_twice : (xs : List ℕ) (c a b : ℕ) → set (set xs c a) c b ≡ set xs c b
set_twice [] c a b = refl
set_twice (x ∷ xs) zero a b = refl
set_twice (x ∷ xs) (suc c) a b = ap (λ ys. x ∷ ys) (set_twice xs c a b)

pub roomy_length : (q : List ℕ) (channels : List Channel) (c : ℕ) → length (roomy_bounds q channels c) ≡ length channels
roomy_length q channels c = length-set (first_bounds q channels) c (get_or (full_capacities q channels) c 0) ∙ length-map channels (first_bound q)

-- the entry of the channel itself
roomy_here : (q : List ℕ) (channels : List Channel) (c i : ℕ) (d : Channel) → slice_get channels i ≡ Some d → i ≡ c
    → get_or (roomy_bounds q channels c) i 0 ≡ full_capacity q d
roomy_here q channels c i d here this =
    let within : c < length (first_bounds q channels) =
    (let lt = slice_get_within channels i d here in let count = length-map channels (first_bound q) in omega (arith, lt, count, this)) in
    ap (λ k. get_or (roomy_bounds q channels c) k 0) this
    ∙ get_or-set_same (first_bounds q channels) c (get_or (full_capacities q channels) c 0) 0 within
    ∙ bound_at (full_capacity q) channels c d (ap (slice_get channels) (sym this) ∙ here)

pub roomy_initial : (g : Graph) (q : List ℕ) (c : ℕ) → IsWellFormed g → HoldInitial g.channels (roomy_bounds q g.channels c)
roomy_initial g q c whole i d here = elim (same_or_not i c) [
  | inl this ↦
      let e = roomy_here q g.channels c i d here this in
      omega (arith, e)
  | inr other ↦
      let e = get_or-set_other (first_bounds q g.channels) c i (get_or (full_capacities q g.channels) c 0) 0 other in
      let fits = first_initial g q whole i d here in
      omega (arith, e, fits)
]

pub roomy_small : (g : Graph) (r q : List ℕ) (c : ℕ) → c < length g.channels → IsWellFormed g → IsRepetition g.actors g.channels r q
    → All (λ b. b ≤ 65535) (roomy_bounds q g.channels c)
roomy_small g r q c lt whole is =
    let first : All (λ b. b ≤ 65535) (first_bounds q g.channels) = All-map (λ b. b ≤ 65535) (first_bound q) g.channels (λ i d within.
    within_capacity _ _ _ (whole.fitting.channels i d within).capacity (is.room i d within)) in
    let full : All (λ b. b ≤ 65535) (full_capacities q g.channels) = All-map (λ b. b ≤ 65535) (full_capacity q) g.channels is.room in
    let here : c < length (full_capacities q g.channels) = (let count = length-map g.channels (full_capacity q) in omega (arith, count, lt)) in
    All-set (λ b. b ≤ 65535) (first_bounds q g.channels) c (get_or (full_capacities q g.channels) c 0)
    (All-get_or (λ b. b ≤ 65535) (full_capacities q g.channels) c 0 here full) first

-- what some capacity of the channel completes, the full one does
pub roomy_completes : (channels : List Channel) (q : List ℕ) (c w : ℕ) → CompletesPeriod channels q (set (first_bounds q channels) c w)
    → CompletesPeriod channels q (roomy_bounds q channels c)
roomy_completes channels q c w done =
    enough_complete channels q (set (first_bounds q channels) c w) (roomy_bounds q channels c) done (roomy_length q channels c) (record {
      enough = λ i d here. elim (same_or_not i c) [
        | inl this ↦
            let e = roomy_here q channels c i d here this in
            inr (omega (arith, e))
        | inr other ↦
            let one = get_or-set_other (first_bounds q channels) c i w 0 other in
            let two = get_or-set_other (first_bounds q channels) c i (get_or (full_capacities q channels) c 0) 0 other in
            inl (omega (arith, one, two))
      ];
    })

-- the least one with the full one in the place of the given one is the least one
pub roomy_least : (channels : List Channel) (q : List ℕ) (c b : ℕ) → IsLeastCapacity channels q (roomy_bounds q channels c) c b
    → IsLeastCapacity channels q (first_bounds q channels) c b
roomy_least channels q c b least =
    let same : (w : ℕ) → set (roomy_bounds q channels c) c w ≡ set (first_bounds q channels) c w =
    λ w. set_twice (first_bounds q channels) c (get_or (full_capacities q channels) c 0) w in
    record {
      completes = subst (CompletesPeriod channels q) (same b) least.completes;
      least = λ w done. least.least w (subst (CompletesPeriod channels q) (sym (same w)) done);
    }

-- ---- waits

-- an actor that waits for room in a channel waits for one that there is
says_within : (channels : List Channel) (q bounds n : List ℕ) (a c : ℕ) (w : Option Wait) → SaysOf channels q bounds n a w
    → w ≡ Some (wait.Room c) → c < length channels
says_within channels q bounds n a c w says is =
    let here : SaysOf channels q bounds n a (Some (wait.Room c)) = subst (SaysOf channels q bounds n a) is says in
    let full = here.1.1.here in
    slice_get_within channels c full.channel full.place

pub waits_within : (channels : List Channel) (q bounds : List ℕ) (s : Stall) (waits : List (Option Wait)) → IsStall channels q bounds s → waits ≡ s.waits.items
    → (a c : ℕ) → slice_index_or waits a None ≡ Some (wait.Room c) → c < length channels
waits_within channels q bounds s waits stall same a c is =
    let here : slice_index_or s.waits.items a None ≡ Some (wait.Room c) = ap (λ (ws : List (Option Wait)). slice_index_or ws a None) (sym same) ∙ is in
    elim (less_or_not a (length s.waits.items)) [
      | inl lt ↦ says_within channels q bounds s.counts.items a c (slice_index_or s.waits.items a None) (stall.waits.says a lt) here
      | inr ge ↦ absurd (none-some (wait.Room c) (sym (get_or_past s.waits.items a None ge) ∙ here))
    ]

-- one actor more without a relief
pub relief_on : (channels : List Channel) (q : List ℕ) (waits : List (Option Wait)) (i : ℕ) (w : Option Wait) → w ≡ slice_index_or waits i None
    → HasNoRelief channels q w → ((a : ℕ) → a < i → HasNoRelief channels q (slice_index_or waits a None))
    → (a : ℕ) → a < i + 1 → HasNoRelief channels q (slice_index_or waits a None)
relief_on channels q waits i w is none before a lt = elim (less_or_not a i) [
  | inl less ↦ before a less
  | inr ge ↦
      let this : i ≡ a = omega arith in
      subst (HasNoRelief channels q) (is ∙ ap (λ k. slice_index_or waits k None) this) none
]

-- no actor has one
pub relief_none : (channels : List Channel) (q : List ℕ) (waits : List (Option Wait)) (i : ℕ) → length waits ≤ i
    → ((a : ℕ) → a < i → HasNoRelief channels q (slice_index_or waits a None)) → (a : ℕ) → HasNoRelief channels q (slice_index_or waits a None)
relief_none channels q waits i all before a = elim (less_or_not a i) [
  | inl less ↦ before a less
  | inr ge ↦ λ c is. absurd (none-some (wait.Room c) (sym (get_or_past waits a None (omega arith)) ∙ is))
]
