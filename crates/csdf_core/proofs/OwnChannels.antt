-- The channels that an actor has at a side, and what its firings move there.
use Rattle.std.proofs.Common.{◌≡◌, ℕ, zero, suc, ◌<◌, ◌==◌, List, [], ◌∷◌, length, get_or, refl, subst, sym, ◌∙◌, arith}
use Rattle.std.specs.Prelude.{All, sum_by}
use Rattle.std.specs.List.{AllByRecursion}
use Rattle.std.proofs.lemmas.List.Elements.{recursion_from_All}
use Rattle.std.proofs.lemmas.List.Sums.{sum_by-cons}
use Rattle.csdf_model.specs.Rates.{rate}
use Rattle.csdf_core.specs.declared.side.Side.{Side}
use Rattle.csdf_core.specs.declared.side.Side.TheVariants.{Input, Output}
use Rattle.csdf_core.specs.Phases.{HasPhases, IsInPhase, IsPhase}
use Rattle.csdf_core.specs.Plan.{Channel, from_at, to_at, produce_at, consume_at}
use Rattle.csdf_core.specs.Ports.{inputs_at, outputs_at, take_at, give_at}
use Rattle.csdf_core.specs.Sides.{amount_at, ends_at, moved, owner_at, rates_at}
use Rattle.csdf_core.proofs.BlockPorts.{both}
use Rattle.csdf_core.proofs.PhaseLemmas.{numbers_own, rate_in_phase}
use Rattle.csdf_core.proofs.PortLemmas.{gift_is, need_is, numbers_within}

pub take_is : (cs : List Channel) (k c : ℕ) → c < length cs → take_at cs k c ≡ rate (consume_at cs c) k
take_is [] k c lt = absurd (omega arith)
take_is (x ∷ cs) k zero lt = refl
take_is (x ∷ cs) k (suc c) lt = take_is cs k c (omega arith)

pub give_is : (cs : List Channel) (k c : ℕ) → c < length cs → give_at cs k c ≡ rate (produce_at cs c) k
give_is [] k c lt = absurd (omega arith)
give_is (x ∷ cs) k zero lt = refl
give_is (x ∷ cs) k (suc c) lt = give_is cs k c (omega arith)

pub amount_is : (side : Side) (cs : List Channel) (k c : ℕ) → c < length cs → amount_at side cs k c ≡ rate (rates_at side cs c) k
amount_is Input cs k c lt = take_is cs k c lt
amount_is Output cs k c lt = give_is cs k c lt

pub sum_same : (f g : ℕ → ℕ) (ns : List ℕ) → AllByRecursion (λ c. f c ≡ g c) ns → sum_by f ns ≡ sum_by g ns
sum_same f g [] all = refl
sum_same f g (c ∷ ns) all = omega (arith, sum_by-cons f c ns, sum_by-cons g c ns, all.0, sum_same f g ns all.1)

pub moved_is : (side : Side) (a k : ℕ) (cs : List Channel) → sum_by (amount_at side cs k) (ends_at side cs a) ≡ moved side a k cs
moved_is Input a k cs = need_is a k cs
moved_is Output a k cs = gift_is a k cs

-- an amount by its phase
pub amount_in_phase : (side : Side) (cs : List Channel) (k c phase : ℕ) → c < length cs → IsPhase (rates_at side cs c) k phase
    → get_or (rates_at side cs c) phase 0 ≡ amount_at side cs k c
amount_in_phase side cs k c phase lt is = rate_in_phase (rates_at side cs c) k phase is ∙ sym (amount_is side cs k c lt)

-- ---- what is told of each of the actor's channels
pub in_phase_at : (side : Side) (cs : List Channel) (a k phase c : ℕ) → IsInPhase cs a k phase → c < length cs → owner_at side cs c ≡ a
    → IsPhase (rates_at side cs c) k phase
in_phase_at Input cs a k phase c is lt own = is.takes c lt own
in_phase_at Output cs a k phase c is lt own = is.gives c lt own

pub has_at : (side : Side) (cs : List Channel) (a n c : ℕ) → HasPhases cs a n → c < length cs → owner_at side cs c ≡ a → length (rates_at side cs c) ≡ n
has_at Input cs a n c has lt own = has.takes c lt own
has_at Output cs a n c has lt own = has.gives c lt own

pub ends_within : (side : Side) (cs : List Channel) (a : ℕ) (ns : List ℕ) → ns ≡ ends_at side cs a → All (λ c. c < length cs) ns
ends_within Input cs a ns is = subst (All (λ c. c < length cs)) (sym is) (numbers_within (λ (c : Channel). c.to == a) cs)
ends_within Output cs a ns is = subst (All (λ c. c < length cs)) (sym is) (numbers_within (λ (c : Channel). c.from == a) cs)

pub ends_owned : (side : Side) (cs : List Channel) (a : ℕ) (ns : List ℕ) → ns ≡ ends_at side cs a → All (λ c. owner_at side cs c ≡ a) ns
ends_owned Input cs a ns is = subst (All (λ c. to_at cs c ≡ a)) (sym is) (numbers_own (λ (c : Channel). c.to) a cs)
ends_owned Output cs a ns is = subst (All (λ c. from_at cs c ≡ a)) (sym is) (numbers_own (λ (c : Channel). c.from) a cs)

module _ (cs : List Channel) (a : ℕ) where
  pub ins_there : AllByRecursion (λ c. c < length cs) (inputs_at cs a)
  ins_there = recursion_from_All (λ c. c < length cs) (inputs_at cs a) (ends_within Input cs a (inputs_at cs a) refl)

  pub outs_there : AllByRecursion (λ c. c < length cs) (outputs_at cs a)
  outs_there = recursion_from_All (λ c. c < length cs) (outputs_at cs a) (ends_within Output cs a (outputs_at cs a) refl)

  pub ins_own : AllByRecursion (λ c. to_at cs c ≡ a) (inputs_at cs a)
  ins_own = recursion_from_All (λ c. to_at cs c ≡ a) (inputs_at cs a) (ends_owned Input cs a (inputs_at cs a) refl)

  pub outs_own : AllByRecursion (λ c. from_at cs c ≡ a) (outputs_at cs a)
  outs_own = recursion_from_All (λ c. from_at cs c ≡ a) (outputs_at cs a) (ends_owned Output cs a (outputs_at cs a) refl)

-- what holds of each channel that the actor has there holds of those in its list
pub of_ends : (P : ℕ → Type 0) (side : Side) (cs : List Channel) (a : ℕ) → ((c : ℕ) → c < length cs → owner_at side cs c ≡ a → P c)
    → AllByRecursion P (ends_at side cs a)
of_ends P Input cs a f = both (inputs_at cs a) f (ins_there cs a) (ins_own cs a)
of_ends P Output cs a f = both (outputs_at cs a) f (outs_there cs a) (outs_own cs a)

-- ---- two firings whose rates are the same
module _ (side : Side) (cs : List Channel) (a j k : ℕ)
    (same : (c : ℕ) → c < length cs → owner_at side cs c ≡ a → rate (rates_at side cs c) j ≡ rate (rates_at side cs c) k) where
  pub amounts_alike : AllByRecursion (λ c. amount_at side cs j c ≡ amount_at side cs k c) (ends_at side cs a)
  amounts_alike = of_ends (λ c. amount_at side cs j c ≡ amount_at side cs k c) side cs a
      (λ c lt own. amount_is side cs j c lt ∙ same c lt own ∙ sym (amount_is side cs k c lt))

  pub moved_alike : moved side a j cs ≡ moved side a k cs
  moved_alike = sym (moved_is side a j cs) ∙ sum_same (amount_at side cs j) (amount_at side cs k) (ends_at side cs a) amounts_alike ∙ moved_is side a k cs
