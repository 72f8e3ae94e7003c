-- Capacities are no part of what else a graph keeps.
use Rattle.std.proofs.Common.{◌≡◌, ℕ, zero, suc, ◌+◌, ◌<◌, ◌≤◌, ◌==◌, ◌⊎◌, inl, inr, Bool, cond, true, Option, Some, None, List, [], ◌∷◌, length, get_or, set}
use Rattle.std.proofs.Common.{map, refl, sym, ap, subst, ◌∙◌, arith}
use Rattle.std.specs.Prelude.{All, IfSome, slice_get, sum_by, count_by}
use Rattle.std.specs.List.{range_with_len}
use Rattle.std.proofs.lemmas.List.{length-map}
use Rattle.std.proofs.lemmas.List.Elements.{All-set}
use Rattle.std.proofs.lemmas.List.Sums.{sum_by-cons}
use Rattle.csdf_model.specs.declared.parts.Kernel.{Kernel}
use Rattle.csdf_model.specs.declared.parts.Channel.{Channel as ChannelCode}
use Rattle.csdf_model.specs.Graph.{Actor, Channel, Graph, numbers_from, inputs_of, outputs_of, ports_of, Ports, input_count, output_count, with_capacity}
use Rattle.csdf_model.specs.Graph.{channels_with, with_capacity_at, channel_view}
use Rattle.csdf_model.specs.Checks.{has_ports, ports_fit}
use Rattle.csdf_model.specs.Joined.{IsEdge, Joined, here, along}
use Rattle.csdf_model.specs.WellFormed.{IsCapacity, IsChannel, IsCells, IsFitting, IsWellFormed, AreNames, initial_total}
use Rattle.csdf_model.specs.Kept.{IsKept, all_ports}

-- a channel without its capacity
abbrev pub uncapped : Channel → Channel
uncapped c = record c { capacity = None }

abbrev pub bare : List Channel → List Channel
bare cs = map uncapped cs

-- ---- what is told by the channels without their capacities

names_bare : (cs : List Channel) → map (λ (c : Channel). c.name) (bare cs) ≡ map (λ (c : Channel). c.name) cs
names_bare [] = refl
names_bare (c ∷ cs) = ap (λ (xs : List (List ℕ)). c.name ∷ xs) (names_bare cs)

sum_bare : (amount : Channel → ℕ) → ((c : Channel) → amount (uncapped c) ≡ amount c) → (cs : List Channel) → sum_by amount (bare cs) ≡ sum_by amount cs
sum_bare amount same [] = refl
sum_bare amount same (c ∷ cs) =
    sum_by-cons amount (uncapped c) (bare cs) ∙ ap (λ n. n + sum_by amount (bare cs)) (same c) ∙ ap (λ n. amount c + n) (sum_bare amount same cs)
    ∙ sym (sum_by-cons amount c cs)

numbers_bare : (test : Channel → Bool) → ((c : Channel) → test (uncapped c) ≡ test c) → (i : ℕ) (cs : List Channel)
    → numbers_from i test (bare cs) ≡ numbers_from i test cs
numbers_bare test same i [] = refl
numbers_bare test same i (c ∷ cs) =
    ap (λ b. cond b (i ∷ numbers_from (suc i) test (bare cs)) (numbers_from (suc i) test (bare cs))) (same c)
    ∙ ap (λ (xs : List ℕ). cond (test c) (i ∷ xs) xs) (numbers_bare test same (suc i) cs)

edge_to : (cs : List Channel) (a b : ℕ) → IsEdge cs a b → IsEdge (bare cs) a b
edge_to [] a b e = e
edge_to (c ∷ cs) a b (inl e) = inl e
edge_to (c ∷ cs) a b (inr (inl e)) = inr (inl e)
edge_to (c ∷ cs) a b (inr (inr e)) = inr (inr (edge_to cs a b e))

edge_back : (cs : List Channel) (a b : ℕ) → IsEdge (bare cs) a b → IsEdge cs a b
edge_back [] a b e = e
edge_back (c ∷ cs) a b (inl e) = inl e
edge_back (c ∷ cs) a b (inr (inl e)) = inr (inl e)
edge_back (c ∷ cs) a b (inr (inr e)) = inr (inr (edge_back cs a b e))

walk : (xs ys : List Channel) → ((a b : ℕ) → IsEdge xs a b → IsEdge ys a b) → (a b : ℕ) → Joined xs a b → Joined ys a b
walk xs ys edge a b here = here
walk xs ys edge a b (along e w) = along (edge _ _ e) (walk xs ys edge _ _ w)

-- ---- lists that differ in capacities alone

pub same_length : (xs ys : List Channel) → bare xs ≡ bare ys → length xs ≡ length ys
same_length xs ys e = sym (length-map xs uncapped) ∙ ap length e ∙ length-map ys uncapped

pub same_names : (xs ys : List Channel) → bare xs ≡ bare ys → map (λ (c : Channel). c.name) xs ≡ map (λ (c : Channel). c.name) ys
same_names xs ys e = sym (names_bare xs) ∙ ap (map (λ (c : Channel). c.name)) e ∙ names_bare ys

same_sum : (amount : Channel → ℕ) → ((c : Channel) → amount (uncapped c) ≡ amount c) → (xs ys : List Channel) → bare xs ≡ bare ys
    → sum_by amount xs ≡ sum_by amount ys
same_sum amount same xs ys e = sym (sum_bare amount same xs) ∙ ap (sum_by amount) e ∙ sum_bare amount same ys

same_ports : (xs ys : List Channel) (a : ℕ) → bare xs ≡ bare ys → ports_of xs a ≡ ports_of ys a
same_ports xs ys a e =
    let ins : inputs_of xs a ≡ inputs_of ys a =
    sym (numbers_bare (λ c. c.to == a) (λ c. refl) 0 xs) ∙ ap (λ (zs : List Channel). inputs_of zs a) e
    ∙ numbers_bare (λ c. c.to == a) (λ c. refl) 0 ys in
    let outs : outputs_of xs a ≡ outputs_of ys a =
    sym (numbers_bare (λ c. c.from == a) (λ c. refl) 0 xs) ∙ ap (λ (zs : List Channel). outputs_of zs a) e
    ∙ numbers_bare (λ c. c.from == a) (λ c. refl) 0 ys in
    λ i. record { inputs = ins i; outputs = outs i }

pub same_all_ports : (xs ys : List Channel) (n : ℕ) → bare xs ≡ bare ys → all_ports xs n ≡ all_ports ys n
same_all_ports xs ys n e = ap (λ (f : ℕ → Ports). map f (range_with_len 0 n)) (λ i a. same_ports xs ys a e i)

same_has : (xs ys : List Channel) (i : ℕ) (a : Actor) → bare xs ≡ bare ys → has_ports xs i a ≡ has_ports ys i a
same_has xs ys i a e =
    let ins : input_count xs i ≡ input_count ys i = same_sum (λ c. cond (c.to == i) 1 0) (λ c. refl) xs ys e in
    let outs : output_count xs i ≡ output_count ys i = same_sum (λ c. cond (c.from == i) 1 0) (λ c. refl) xs ys e in
    ap (λ n. ports_fit a.kernel n (output_count xs i)) ins ∙ ap (ports_fit a.kernel (input_count ys i)) outs

same_cells : (o : Option ℕ) (xs ys : List Channel) → bare xs ≡ bare ys → IfSome o (IsCells ys) → IfSome o (IsCells xs)
same_cells None xs ys e fits = tt
same_cells (Some n) xs ys e fits =
    let same : initial_total xs ≡ initial_total ys = same_sum (λ c. length c.initial) (λ c. refl) xs ys e in
    record { fits = (let f = fits.fits in omega arith); within = fits.within }

-- a graph with other capacities, where each is one, is well formed
pub well_formed_alike : (g : Graph) (xs : List Channel) → bare xs ≡ bare g.channels → All (IsChannel g.actors) xs → IsWellFormed g
    → IsWellFormed (record { actors = g.actors; channels = xs; cells = g.cells })
well_formed_alike g xs e each whole =
    let f = whole.fitting in
    record {
      fitting = record {
        some_actor = f.some_actor;
        few_actors = f.few_actors;
        few_channels = (let same = same_length xs g.channels e in let few = f.few_channels in omega arith);
        actor_names = f.actor_names;
        channel_names = subst (λ (ns : List (List ℕ)). AreNames ns) (sym (same_names xs g.channels e)) f.channel_names;
        actors = f.actors;
        channels = each;
        ports = λ i d lt. same_has xs g.channels i (get_or g.actors i d) e ∙ f.ports i d lt;
        cells = same_cells g.cells xs g.channels e f.cells;
      };
      joined = λ a b la lb. walk (bare g.channels) xs
          (λ x y edge. edge_back xs x y (subst (λ (zs : List Channel). IsEdge zs x y) (sym e) edge)) a b
          (walk g.channels (bare g.channels) (edge_to g.channels) a b (whole.joined a b la lb));
    }

-- ---- one channel's capacity

pub bare_with : (n b : ℕ) (cs : List Channel) → bare (channels_with n b cs) ≡ bare cs
bare_with n b [] = refl
bare_with zero b (c ∷ cs) = refl
bare_with (suc n) b (c ∷ cs) = ap (λ (xs : List Channel). uncapped c ∷ xs) (bare_with n b cs)

pub with_set : (n b : ℕ) (cs : List Channel) (d : Channel) → n < length cs → channels_with n b cs ≡ set cs n (with_capacity b (get_or cs n d))
with_set n b [] d lt = absurd (omega arith)
with_set zero b (c ∷ cs) d lt = refl
with_set (suc n) b (c ∷ cs) d lt = ap (λ (xs : List Channel). c ∷ xs) (with_set n b cs d (omega arith))

pub get_at : (cs : List Channel) (n : ℕ) (d : Channel) → n < length cs → slice_get cs n ≡ Some (get_or cs n d)
get_at [] n d lt = absurd (omega arith)
get_at (c ∷ cs) zero d lt = refl
get_at (c ∷ cs) (suc n) d lt = get_at cs n d (omega arith)

pub is_capped : (actors : List Actor) (c : Channel) (b : ℕ) → IsChannel actors c → IsCapacity c b → IsChannel actors (with_capacity b c)
is_capped actors c b is fits = record {
  from = is.from;
  to = is.to;
  produce = is.produce;
  consume = is.consume;
  few_initial = is.few_initial;
  capacity = record { some = fits.some; fits = fits.fits; within = fits.within };
}

all_capped : (actors : List Actor) (n b : ℕ) (cs : List Channel) → n < length cs → IfSome (slice_get cs n) (λ c. IsCapacity c b) → All (IsChannel actors) cs
    → All (IsChannel actors) (channels_with n b cs)
all_capped actors n b [] lt fits all = absurd (omega arith)
all_capped actors n b (c ∷ cs) lt fits all =
    let x : Channel = get_or (c ∷ cs) n c in
    let here : IsCapacity x b = subst (λ (o : Option Channel). IfSome o (λ d. IsCapacity d b)) (get_at (c ∷ cs) n c lt) fits in
    subst (λ (xs : List Channel). All (IsChannel actors) xs) (sym (with_set n b (c ∷ cs) c lt))
    (All-set (IsChannel actors) (c ∷ cs) n (with_capacity b x) (is_capped actors x b (all n c lt) here) all)

pub kept_with_capacity : (actor_names channel_names : List (List ℕ)) (g : Graph) (n b : ℕ) → n < length g.channels
    → IfSome (slice_get g.channels n) (λ c. IsCapacity c b) → IsKept actor_names channel_names g
    → IsKept actor_names channel_names (with_capacity_at n b g)
kept_with_capacity actor_names channel_names g n b lt fits kept =
    let e = bare_with n b g.channels in
    record {
      numbered = record {
        actors = kept.numbered.actors;
        channels = kept.numbered.channels ∙ sym (same_names (channels_with n b g.channels) g.channels e);
      };
      well_formed = well_formed_alike g (channels_with n b g.channels) e
          (all_capped g.actors n b g.channels lt fits kept.well_formed.fitting.channels) kept.well_formed;
    }

-- what the code writes
pub view_with : (items : List ChannelCode) (n b : ℕ) (x : ChannelCode) → n < length items → x ≡ get_or items n x
    → map channel_view (set items n (record x { capacity = Some b })) ≡ channels_with n b (map channel_view items)
view_with [] n b x lt is = absurd (omega arith)
view_with (y ∷ items) zero b x lt is = ap (λ (z : ChannelCode). with_capacity b (channel_view z) ∷ map channel_view items) is
view_with (y ∷ items) (suc n) b x lt is = ap (λ (xs : List Channel). channel_view y ∷ xs) (view_with items n b x (omega arith) is)
