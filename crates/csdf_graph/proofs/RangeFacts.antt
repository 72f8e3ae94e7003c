-- What is in range once its numbers were read.
use Rattle.std.proofs.Common.{◌≡◌, ℕ, ℤ, pos, negsuc, ◌-◌, ◌≤◌, max, ◌&&◌, nat_le, nat_lt, ◌^◌, List, ◌++◌, length, drop, replicate, Option, Some, None, refl}
use Rattle.std.proofs.Common.{sym, ap, subst, ◌∙◌, arith}
use Rattle.std.specs.Prelude.{option_map, All, IfSome}
use Rattle.std.proofs.lemmas.Bool.{and_parts, leb-true, ltb-true}
use Rattle.std.proofs.lemmas.List.Elements.{All-append, All-replicate}
use Rattle.std.proofs.lemmas.Int.{ints}
use Rattle.std.specs.Int.Signed.{le_z_yes}
use Rattle.std.proofs.Math.Seq.{drop-append_seam}
use Rattle.std.proofs.Common.{length-append}
use Rattle.std.proofs.lemmas.List.{length-replicate}
use Rattle.csdf_model.specs.declared.parts.Kernel.{Kernel}
use Rattle.csdf_model.specs.declared.parts.Kernel.TheVariants as kernel
use Rattle.csdf_graph.specs.Tree.{all_some}
use Rattle.csdf_model.specs.Graph.{Actor}
use Rattle.csdf_graph.specs.Shape.{KernelDraft, source, sink, copy, sum, fir, ActorDraft, ChannelDraft}
use Rattle.csdf_graph.specs.Ranges.{number_within, signed_within, weights_within, kernel_within, actor_within, RangedChannel, rates_within, tokens_within}
use Rattle.csdf_graph.specs.Ranges.{capacity_within, initial_count, cells_within, channel_within}
use Rattle.csdf_model.specs.WellFormed.{IsWeight, IsFilter, IsKernel, IsActor}
use Rattle.csdf_graph.proofs.PassFacts.{some_is, bind_some, map_some, cond_some, all_some_length, all_some_all}

pub number_within_bounds : (low high : ℕ) (z : ℤ) (n : ℕ) → number_within low high z ≡ Some n → (low ≤ n) × (n ≤ high)
number_within_bounds low high (pos m) n e =
    let p = cond_some (nat_le low m && nat_le m high) (Some m) n e in
    let q = and_parts (nat_le low m) (nat_le m high) p.0 in
    let same : m ≡ n = some_is m n p.1 in
    (subst (λ k. low ≤ k) same (leb-true low m q.0), subst (λ k. k ≤ high) same (leb-true m high q.1))
number_within_bounds low high (negsuc m) n e = absurd cc

pub rates_within_small : (zs : List ℤ) (ns : List ℕ) → rates_within zs ≡ Some ns → All (λ n. n ≤ 64) ns
rates_within_small zs ns e = all_some_all (number_within 0 64) (λ n. n ≤ 64) (λ z n h. (number_within_bounds 0 64 z n h).1) zs ns e

signed_is_weight : (z w : ℤ) → signed_within 15 z ≡ Some w → IsWeight w
signed_is_weight (pos n) w e =
    let p = cond_some (nat_lt n (2 ^ 15)) (Some (pos n)) w e in
    let small = ltb-true n (2 ^ 15) p.0 in
    subst IsWeight (some_is (pos n) w p.1) (le_z_yes tt, omega (arith, ints, small))
signed_is_weight (negsuc n) w e =
    let p = cond_some (nat_lt n (2 ^ 15)) (Some (negsuc n)) w e in
    let small = ltb-true n (2 ^ 15) p.0 in
    subst IsWeight (some_is (negsuc n) w p.1) (omega (arith, ints, small), le_z_yes tt)

-- weights that are read, with zeros up to 16
filter_fits : (ws zs : List ℤ) (shift : ℕ) → weights_within ws ≡ Some zs → shift ≤ 31 → IsFilter zs (length ws) shift
unfolding weights_within
filter_fits ws zs shift e low =
    let zeros = replicate (16 - length ws) (pos 0) in
    let p = cond_some (nat_le 1 (length ws) && nat_le (length ws) 16) (option_map (λ ys. ys ++ zeros) (all_some (signed_within 15) ws)) zs e in
    let q = and_parts (nat_le 1 (length ws)) (nat_le (length ws) 16) p.0 in
    let some = leb-true 1 (length ws) q.0 in
    let few = leb-true (length ws) 16 q.1 in
    let m = map_some (λ ys. ys ++ zeros) (all_some (signed_within 15) ws) zs p.1 in
    let len = all_some_length (signed_within 15) ws m.0 m.1 in
    let small = all_some_all (signed_within 15) IsWeight signed_is_weight ws m.0 m.1 in
    subst (λ ys. IsFilter ys (length ws) shift) m.2 (record {
      count = omega (arith, length-append m.0 zeros, length-replicate (16 - length ws) (pos 0), len, some, few);
      some_taps = some;
      few_taps = few;
      small = All-append IsWeight m.0 zeros small (All-replicate IsWeight (16 - length ws) (pos 0) (le_z_yes tt, le_z_yes tt));
      rest = ap (λ n. drop n (m.0 ++ zeros)) (sym len) ∙ drop-append_seam m.0 zeros;
      low_shift = low;
    })

kernel_within_fits : (d : KernelDraft) (k : Kernel) → kernel_within d ≡ Some k → IsKernel k
unfolding kernel_within
kernel_within_fits source k e = subst IsKernel (some_is kernel.Source k e) tt
kernel_within_fits sink k e = subst IsKernel (some_is kernel.Sink k e) tt
kernel_within_fits copy k e = subst IsKernel (some_is kernel.Copy k e) tt
kernel_within_fits sum k e = subst IsKernel (some_is kernel.Sum k e) tt
kernel_within_fits (fir ws s) k e =
    let w = bind_some (weights_within ws) _ k e in
    let h = bind_some (number_within 0 31 s) _ k w.2 in
    subst IsKernel (some_is (kernel.Fir w.0 (length ws) h.0) k h.2) (filter_fits ws w.0 h.0 w.1 (number_within_bounds 0 31 s h.0 h.1).1)

-- an actor in range
pub actor_within_fits : (d : ActorDraft) (a : Actor) → actor_within d ≡ Some a → (a.name ≡ d.name) × IsActor a
unfolding actor_within
actor_within_fits d a e =
    let k = bind_some (kernel_within d.kernel) _ a e in
    let p = bind_some (number_within 1 16 d.phases) _ a k.2 in
    let b = number_within_bounds 1 16 d.phases p.0 p.1 in
    let same : record { name = d.name; kernel = k.0; phases = p.0 } ≡ a = some_is (record { name = d.name; kernel = k.0; phases = p.0 }) a p.2 in
    subst (λ x. (x.name ≡ d.name) × IsActor x) same (refl, record { kernel = kernel_within_fits d.kernel k.0 k.1; some_phase = b.0; few_phases = b.1 })

-- what a channel in range keeps
pub record IsRanged (r : RangedChannel) : Type 0 where
  pub produce : All (λ n. n ≤ 64) r.produce
  pub consume : All (λ n. n ≤ 64) r.consume
  pub few_initial : length r.initial ≤ 256
  pub capacity : IfSome r.capacity (λ b. (1 ≤ b) × (length r.initial ≤ b) × (b ≤ 65535))

tokens_within_facts : (zs ts : List ℤ) → tokens_within zs ≡ Some ts → (length ts ≡ length zs) × (length ts ≤ 256)
unfolding tokens_within
tokens_within_facts zs ts e =
    let p = cond_some (nat_le (length zs) 256) (all_some (signed_within 31) zs) ts e in
    let len = all_some_length (signed_within 31) zs ts p.1 in
    (len, omega (arith, leb-true (length zs) 256 p.0))

capacity_within_fits : (held : ℕ) (given : Option ℤ) (b : Option ℕ) → capacity_within held given ≡ Some b → IfSome b (λ n. (1 ≤ n) × (held ≤ n) × (n ≤ 65535))
capacity_within_fits held None b e = subst (λ o. IfSome o (λ n. (1 ≤ n) × (held ≤ n) × (n ≤ 65535))) (some_is None b e) tt
capacity_within_fits held (Some z) b e =
    let m = map_some Some (number_within (max 1 held) 65535 z) b e in
    let k = number_within_bounds (max 1 held) 65535 z m.0 m.1 in
    let one : 1 ≤ m.0 = omega (arith, k.0) in
    let fits : held ≤ m.0 = omega (arith, k.0) in
    subst (λ o. IfSome o (λ n. (1 ≤ n) × (held ≤ n) × (n ≤ 65535))) m.2 (one, fits, k.1)

pub channel_within_fits : (d : ChannelDraft) (r : RangedChannel) → channel_within d ≡ Some r → (r.name ≡ d.name) × (length r.initial ≡ length d.initial)
    × IsRanged r
unfolding channel_within
channel_within_fits d r e =
    let k = bind_some (capacity_within (length d.initial) d.capacity) _ r e in
    let p = bind_some (rates_within d.produce) _ r k.2 in
    let q = bind_some (rates_within d.consume) _ r p.2 in
    let t = bind_some (tokens_within d.initial) _ r q.2 in
    let f = tokens_within_facts d.initial t.0 t.1 in
    let cap = capacity_within_fits (length d.initial) d.capacity k.0 k.1 in
    let same : record { name = d.name; from = d.from; to = d.to; produce = p.0; consume = q.0; initial = t.0; capacity = k.0 } ≡ r =
    some_is (record { name = d.name; from = d.from; to = d.to; produce = p.0; consume = q.0; initial = t.0; capacity = k.0 }) r t.2 in
    subst (λ x. (x.name ≡ d.name) × (length x.initial ≡ length d.initial) × IsRanged x) same (
      refl,
      f.0,
      record {
        produce = rates_within_small d.produce p.0 p.1;
        consume = rates_within_small d.consume q.0 q.1;
        few_initial = f.1;
        capacity = subst (λ held. IfSome k.0 (λ b. (1 ≤ b) × (held ≤ b) × (b ≤ 65535))) (sym f.0) cap;
      },
    )

pub cells_within_fits : (channels : List ChannelDraft) (given : Option ℤ) (cells : Option ℕ) → cells_within channels given ≡ Some cells
    → IfSome cells (λ n. (initial_count channels ≤ n) × (n ≤ 8388480))
cells_within_fits channels None cells e = subst (λ o. IfSome o (λ n. (initial_count channels ≤ n) × (n ≤ 8388480))) (some_is None cells e) tt
cells_within_fits channels (Some z) cells e =
    let m = map_some Some (number_within (initial_count channels) 8388480 z) cells e in
    subst (λ o. IfSome o (λ n. (initial_count channels ≤ n) × (n ≤ 8388480))) m.2 (number_within_bounds (initial_count channels) 8388480 z m.0 m.1)
