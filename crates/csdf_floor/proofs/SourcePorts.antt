-- A source has no inputs, so that its firings read nothing.
use Rattle.std.proofs.Common.{◌≡◌, ℕ, suc, ◌<◌, ◌==◌, ◌&&◌, nat_le, cond, Bool, true, false, inl, inr, List, [], ◌∷◌, length, map, get_or, refl, ap, sym, subst, ◌∙◌, arith}
use Rattle.std.specs.Prelude.{ℤ, count_by}
use Rattle.std.specs.List.{zip}
use Rattle.std.proofs.lemmas.Bool.Decides.{eqb_tells}
use Rattle.std.proofs.lemmas.List.{get_or-map, length-map}
use Rattle.std.proofs.lemmas.List.Sums.{sum_by-cons}
use Rattle.csdf_model.specs.declared.parts.Kernel.{Kernel}
use Rattle.csdf_model.specs.declared.parts.Kernel.TheVariants as kernel
use Rattle.csdf_model.specs.Checks.{ports_fit}
use Rattle.csdf_model.specs.Graph as graph
use Rattle.csdf_model.specs.Graph.{Actor, Graph, input_count, numbers_from, output_count}
use Rattle.csdf_core.specs.Blocks.{HoldAll}
use Rattle.csdf_core.specs.Plan.{Channel, Plan}
use Rattle.csdf_core.specs.Planned.{is_source_kernel, with_capacity}
use Rattle.csdf_core.specs.Ports.{inputs_at}
use Rattle.csdf_core.specs.Step.{is_source}
use Rattle.csdf_floor.specs.Work.{IsWork, Work, program}

-- channels of which none ends at an actor
no_ins : (channels : List graph.Channel) (capacities : List ℕ) (i a : ℕ) → count_by (λ (c : graph.Channel). c.to == a) channels ≡ 0
    → numbers_from i (λ (c : Channel). c.to == a) (map with_capacity (zip channels capacities)) ≡ []
no_ins [] capacities i a none = refl
no_ins (x ∷ channels) [] i a none = refl
no_ins (x ∷ channels) (n ∷ capacities) i a none =
    let one : graph.Channel → ℕ = λ c. cond (c.to == a) 1 0 in
    let all = sum_by-cons one x channels in
    let later : List ℕ = numbers_from (suc i) (λ (c : Channel). c.to == a) (map with_capacity (zip channels capacities)) in
    elim (eqb_tells x.to a) [
      | inl e ↦ absurd (let some = ap {B = ℕ} (λ (b : Bool). cond b 1 0) e.0 in omega (arith, none, all, some))
      | inr e ↦
          ap (λ (b : Bool). cond b (i ∷ later) later) e.0
          ∙ no_ins channels capacities (suc i) a (let no = ap {B = ℕ} (λ (b : Bool). cond b 1 0) e.0 in omega (arith, none, all, no))
    ]

source_ports : (k : Kernel) (m n : ℕ) → is_source_kernel k ≡ true → ports_fit k m n ≡ true → m ≡ 0
source_ports kernel.Source m n is fit = elim (eqb_tells m 0) [
  | inl e ↦ e.1
  | inr e ↦ absurd (let both : false ≡ true = sym (ap (λ (b : Bool). b && nat_le 1 n) e.0) ∙ fit in cc)
]
source_ports kernel.Sink m n is fit = absurd (cc)
source_ports kernel.Copy m n is fit = absurd (cc)
source_ports kernel.Sum m n is fit = absurd (cc)
source_ports (kernel.Fir weights taps shift) m n is fit = absurd (cc)

source_alone : (w : Work) (a : ℕ) → IsWork w → a < length (program w).plan.sources → is_source (program w).plan a ≡ true
    → inputs_at (program w).plan.channels a ≡ []
source_alone w a is lt src =
    let g : Graph = w.accepted.graph in
    let d : Actor = record { name = []; kernel = kernel.Sink; phases = 1 } in
    let there : a < length g.actors = omega (arith, lt, length-map g.actors (λ (r : Actor). is_source_kernel r.kernel)) in
    let own : is_source_kernel (get_or g.actors a d).kernel ≡ true =
    sym (get_or-map (λ (r : Actor). is_source_kernel r.kernel) g.actors a d false there) ∙ src in
    no_ins g.channels w.accepted.capacities 0 a
    (source_ports (get_or g.actors a d).kernel (input_count g.channels a) (output_count g.channels a) own (is.accepted.well_formed.fitting.ports a d there))

-- an actor whose inputs do not hold all that some firings read is no source
pub no_source : (w : Work) (plan : Plan) (tokens : List (List ℤ)) (amount : ℕ → ℕ) (a : ℕ) → IsWork w → plan ≡ (program w).plan → a < length plan.sources
    → (HoldAll tokens amount (inputs_at plan.channels a) → ⊥) → is_source plan a ≡ false
no_source w plan tokens amount a is same lt short = by (is_source plan a) refl
  where
    by : (b : Bool) → is_source plan a ≡ b → b ≡ false
    by false src = refl
    by true src =
        let alone : inputs_at plan.channels a ≡ [] = ap (λ (u : Plan). inputs_at u.channels a) same
        ∙ source_alone w a is (subst (λ (u : Plan). a < length u.sources) same lt) (sym (ap (λ (u : Plan). is_source u a) same) ∙ src) in
        absurd (short (subst (HoldAll tokens amount) (sym alone) tt))
