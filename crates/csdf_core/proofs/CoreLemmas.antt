-- What a core's own counts say of the model's.
use Rattle.std.proofs.Common.{◌≡◌, ℕ, zero, suc, ◌<◌, ◌≤◌, List, [], ◌∷◌, length, map, refl, ap, arith, cond}
use Rattle.std.specs.Prelude.{sum_by, slice_index}
use Rattle.std.specs.List.{AllByRecursion}
use Rattle.std.proofs.lemmas.Bool.{ne_eqb}
use Rattle.std.proofs.lemmas.List.{length-map}
use Rattle.std.proofs.lemmas.List.Sums.{sum_by-cons}
use Rattle.csdf_model.specs.Rates.{rate}
use Rattle.csdf_pool.specs.Pool.{Held, held_tokens}
use Rattle.csdf_core.specs.Plan.{Channel, takes_of, gives_of}
use Rattle.csdf_core.specs.Rows.{need, gift}

abbrev pub HaveEnds : ℕ → List Channel → Type 0
HaveEnds n cs = AllByRecursion (λ (c : Channel). (c.from < n) × (c.to < n)) cs

-- an actor that is not there moves nothing
pub none_needed : (n a k : ℕ) (cs : List Channel) → HaveEnds n cs → n ≤ a → need a k cs ≡ 0
none_needed n a k [] ends le = refl
none_needed n a k (c ∷ cs) ends le =
    let here : takes_of a k c ≡ 0 = ap (λ b. cond b (rate c.consume k) 0) (ne_eqb c.to a (λ e. let lt = ends.0.1 in omega arith)) in
    omega (arith, sum_by-cons (takes_of a k) c cs, here, none_needed n a k cs ends.1 le)

pub none_gifted : (n a k : ℕ) (cs : List Channel) → HaveEnds n cs → n ≤ a → gift a k cs ≡ 0
none_gifted n a k [] ends le = refl
none_gifted n a k (c ∷ cs) ends le =
    let here : gives_of a k c ≡ 0 = ap (λ b. cond b (rate c.produce k) 0) (ne_eqb c.from a (λ e. let lt = ends.0.0 in omega arith)) in
    omega (arith, sum_by-cons (gives_of a k) c cs, here, none_gifted n a k cs ends.1 le)

pub producer_within : (n : ℕ) (cs : List Channel) (c : ℕ) → HaveEnds n cs → c < length cs → slice_index (map (λ (channel : Channel). channel.from) cs) c < n
producer_within n [] c ends lt = absurd (omega arith)
producer_within n (d ∷ cs) zero ends lt = ends.0.0
producer_within n (d ∷ cs) (suc c) ends lt = producer_within n cs c ends.1 (omega arith)

pub consumer_within : (n : ℕ) (cs : List Channel) (c : ℕ) → HaveEnds n cs → c < length cs → slice_index (map (λ (channel : Channel). channel.to) cs) c < n
consumer_within n [] c ends lt = absurd (omega arith)
consumer_within n (d ∷ cs) zero ends lt = ends.0.1
consumer_within n (d ∷ cs) (suc c) ends lt = consumer_within n cs c ends.1 (omega arith)

pub held-chains : (chains : List (List Held)) → sum_by length (map held_tokens chains) ≡ sum_by length chains
held-chains [] = refl
held-chains (x ∷ chains) =
    omega (
      arith,
      sum_by-cons length (held_tokens x) (map held_tokens chains),
      sum_by-cons length x chains,
      held-chains chains,
      length-map x (λ (h : Held). h.1),
    )
