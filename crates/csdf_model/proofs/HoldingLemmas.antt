-- Which tokens a channel begins with is no part of what else a graph keeps, only how many.
use Rattle.std.proofs.Common.{◌≡◌, ℕ, zero, suc, ◌+◌, ◌<◌, ◌==◌, inl, inr, Bool, cond, Option, Some, None, List, [], ◌∷◌, length, get_or, set, map, refl, sym}
use Rattle.std.proofs.Common.{ap, subst, ◌∙◌, arith}
use Rattle.std.specs.Prelude.{ℤ, All, IfSome, slice_get, sum_by}
use Rattle.std.specs.List.{range_with_len, AllZip}
use Rattle.std.proofs.lemmas.List.Sums.{sum_by-cons}
use Rattle.std.specs.Global.{Vec}
use Rattle.csdf_model.specs.declared.parts.Channel.{Channel as ChannelCode}
use Rattle.csdf_model.specs.Graph.{Actor, Channel, Graph, numbers_from, inputs_of, outputs_of, ports_of, Ports, input_count, output_count, channel_view}
use Rattle.csdf_model.specs.Checks.{has_ports, ports_fit}
use Rattle.csdf_model.specs.Holding.{with_initial, channels_holding, channels_beginning, beginning_with, HasAsMany}
use Rattle.csdf_model.specs.Joined.{IsEdge, Joined, here, along}
use Rattle.csdf_model.specs.Kept.{IsKept, all_ports}
use Rattle.csdf_model.specs.WellFormed.{IsCapacity, IsChannel, IsCells, IsWellFormed, AreNames, initial_total}

pub length_holding : (cs : List Channel) (vs : List (List ℤ)) → AllZip HasAsMany cs vs → length (channels_holding vs cs) ≡ length cs
length_holding [] vs many = refl
length_holding (c ∷ cs) [] many = absurd many
length_holding (c ∷ cs) (v ∷ vs) many = ap suc (length_holding cs vs many.1)

pub all_holding : (P Q : Channel → Type 0) → ((c : Channel) (v : List ℤ) → HasAsMany c v → P c → Q (with_initial (c, v))) → (cs : List Channel)
    (vs : List (List ℤ)) → AllZip HasAsMany cs vs → All P cs → All Q (channels_holding vs cs)
all_holding P Q step [] vs many all i d lt = absurd (omega arith)
all_holding P Q step (c ∷ cs) [] many all i d lt = absurd many
all_holding P Q step (c ∷ cs) (v ∷ vs) many all zero d lt = step c v many.0 (all zero c (omega arith))
all_holding P Q step (c ∷ cs) (v ∷ vs) many all (suc i) d lt =
    all_holding P Q step cs vs many.1 (λ j e l. all (suc j) e (omega arith)) i d (omega arith)

-- the tokens that the channels began with, held again
abbrev pub initials : List Channel → List (List ℤ)
initials cs = map (λ (c : Channel). c.initial) cs

pub back_again : (cs : List Channel) (vs : List (List ℤ)) → AllZip HasAsMany cs vs → channels_holding (initials cs) (channels_holding vs cs) ≡ cs
back_again [] vs many = refl
back_again (c ∷ cs) [] many = absurd many
back_again (c ∷ cs) (v ∷ vs) many = ap (λ (xs : List Channel). c ∷ xs) (back_again cs vs many.1)

pub many_again : (cs : List Channel) (vs : List (List ℤ)) → AllZip HasAsMany cs vs → AllZip HasAsMany (channels_holding vs cs) (initials cs)
many_again [] vs many = tt
many_again (c ∷ cs) [] many = absurd many
many_again (c ∷ cs) (v ∷ vs) many = (sym many.0, many_again cs vs many.1)

-- ---- well formed

pub names_holding : (cs : List Channel) (vs : List (List ℤ)) → AllZip HasAsMany cs vs
    → map (λ (c : Channel). c.name) (channels_holding vs cs) ≡ map (λ (c : Channel). c.name) cs
names_holding [] vs many = refl
names_holding (c ∷ cs) [] many = absurd many
names_holding (c ∷ cs) (v ∷ vs) many = ap (λ (xs : List (List ℕ)). c.name ∷ xs) (names_holding cs vs many.1)

sum_holding : (amount : Channel → ℕ) → ((c : Channel) (v : List ℤ) → HasAsMany c v → amount (with_initial (c, v)) ≡ amount c) → (cs : List Channel)
    (vs : List (List ℤ)) → AllZip HasAsMany cs vs → sum_by amount (channels_holding vs cs) ≡ sum_by amount cs
sum_holding amount same [] vs many = refl
sum_holding amount same (c ∷ cs) [] many = absurd many
sum_holding amount same (c ∷ cs) (v ∷ vs) many =
    sum_by-cons amount (with_initial (c, v)) (channels_holding vs cs) ∙ ap (λ n. n + sum_by amount (channels_holding vs cs)) (same c v many.0)
    ∙ ap (λ n. amount c + n) (sum_holding amount same cs vs many.1) ∙ sym (sum_by-cons amount c cs)

edge_to : (cs : List Channel) (vs : List (List ℤ)) (a b : ℕ) → AllZip HasAsMany cs vs → IsEdge cs a b → IsEdge (channels_holding vs cs) a b
edge_to [] vs a b many e = absurd e
edge_to (c ∷ cs) [] a b many e = absurd many
edge_to (c ∷ cs) (v ∷ vs) a b many (inl e) = inl e
edge_to (c ∷ cs) (v ∷ vs) a b many (inr (inl e)) = inr (inl e)
edge_to (c ∷ cs) (v ∷ vs) a b many (inr (inr e)) = inr (inr (edge_to cs vs a b many.1 e))

walk : (xs ys : List Channel) → ((a b : ℕ) → IsEdge xs a b → IsEdge ys a b) → (a b : ℕ) → Joined xs a b → Joined ys a b
walk xs ys edge a b here = here
walk xs ys edge a b (along e w) = along (edge _ _ e) (walk xs ys edge _ _ w)

capacity_holding : (o : Option ℕ) (c : Channel) (v : List ℤ) → HasAsMany c v → IfSome o (IsCapacity c) → IfSome o (IsCapacity (with_initial (c, v)))
capacity_holding None c v many is = tt
capacity_holding (Some b) c v many is = record { some = is.some; fits = (let f = is.fits in omega arith); within = is.within }

is_channel : (actors : List Actor) (c : Channel) (v : List ℤ) → HasAsMany c v → IsChannel actors c → IsChannel actors (with_initial (c, v))
is_channel actors c v many is = record {
  from = is.from;
  to = is.to;
  produce = is.produce;
  consume = is.consume;
  few_initial = (let few = is.few_initial in omega arith);
  capacity = capacity_holding c.capacity c v many is.capacity;
}

cells_holding : (o : Option ℕ) (cs : List Channel) (vs : List (List ℤ)) → AllZip HasAsMany cs vs → IfSome o (IsCells cs)
    → IfSome o (IsCells (channels_holding vs cs))
cells_holding None cs vs many fits = tt
cells_holding (Some n) cs vs many fits =
    let same : initial_total (channels_holding vs cs) ≡ initial_total cs = sum_holding (λ c. length c.initial) (λ c v is. is) cs vs many in
    record { fits = (let f = fits.fits in omega arith); within = fits.within }

same_has : (cs : List Channel) (vs : List (List ℤ)) (i : ℕ) (a : Actor) → AllZip HasAsMany cs vs → has_ports (channels_holding vs cs) i a ≡ has_ports cs i a
same_has cs vs i a many =
    let xs : List Channel = channels_holding vs cs in
    let ins : input_count xs i ≡ input_count cs i = sum_holding (λ c. cond (c.to == i) 1 0) (λ c v is. refl) cs vs many in
    let outs : output_count xs i ≡ output_count cs i = sum_holding (λ c. cond (c.from == i) 1 0) (λ c v is. refl) cs vs many in
    ap (λ n. ports_fit a.kernel n (output_count xs i)) ins ∙ ap (ports_fit a.kernel (input_count cs i)) outs

pub well_formed_holding : (g : Graph) (vs : List (List ℤ)) → AllZip HasAsMany g.channels vs → IsWellFormed g
    → IsWellFormed (record { actors = g.actors; channels = channels_holding vs g.channels; cells = g.cells })
well_formed_holding g vs many whole =
    let f = whole.fitting in
    record {
      fitting = record {
        some_actor = f.some_actor;
        few_actors = f.few_actors;
        few_channels = (let same = length_holding g.channels vs many in let few = f.few_channels in omega arith);
        actor_names = f.actor_names;
        channel_names = subst (λ (ns : List (List ℕ)). AreNames ns) (sym (names_holding g.channels vs many)) f.channel_names;
        actors = f.actors;
        channels = all_holding (IsChannel g.actors) (IsChannel g.actors) (is_channel g.actors) g.channels vs many f.channels;
        ports = λ i d lt. same_has g.channels vs i (get_or g.actors i d) many ∙ f.ports i d lt;
        cells = cells_holding g.cells g.channels vs many f.cells;
      };
      joined = λ a b la lb. walk g.channels (channels_holding vs g.channels) (λ x y edge. edge_to g.channels vs x y many edge) a b (whole.joined a b la lb);
    }

-- ---- the ports

numbers_holding : (test : Channel → Bool) → ((c : Channel) (v : List ℤ) → test (with_initial (c, v)) ≡ test c) → (i : ℕ) (cs : List Channel) (vs : List (List ℤ))
    → AllZip HasAsMany cs vs → numbers_from i test (channels_holding vs cs) ≡ numbers_from i test cs
numbers_holding test same i [] vs many = refl
numbers_holding test same i (c ∷ cs) [] many = absurd many
numbers_holding test same i (c ∷ cs) (v ∷ vs) many =
    ap (λ b. cond b (i ∷ numbers_from (suc i) test (channels_holding vs cs)) (numbers_from (suc i) test (channels_holding vs cs))) (same c v)
    ∙ ap (λ (xs : List ℕ). cond (test c) (i ∷ xs) xs) (numbers_holding test same (suc i) cs vs many.1)

same_ports : (cs : List Channel) (vs : List (List ℤ)) (a : ℕ) → AllZip HasAsMany cs vs → ports_of (channels_holding vs cs) a ≡ ports_of cs a
same_ports cs vs a many =
    let ins : inputs_of (channels_holding vs cs) a ≡ inputs_of cs a = numbers_holding (λ c. c.to == a) (λ c v. refl) 0 cs vs many in
    let outs : outputs_of (channels_holding vs cs) a ≡ outputs_of cs a = numbers_holding (λ c. c.from == a) (λ c v. refl) 0 cs vs many in
    λ i. record { inputs = ins i; outputs = outs i }

pub same_all_ports : (cs : List Channel) (vs : List (List ℤ)) (n : ℕ) → AllZip HasAsMany cs vs → all_ports (channels_holding vs cs) n ≡ all_ports cs n
same_all_ports cs vs n many = ap (λ (f : ℕ → Ports). map f (range_with_len 0 n)) (λ i a. same_ports cs vs a many i)

-- ---- one channel

-- where one channel begins with other tokens, each holds a list of them
abbrev pub with_one : ℕ → List ℤ → List Channel → List (List ℤ)
with_one n v cs = set (initials cs) n v

all_same : (cs : List Channel) → AllZip HasAsMany cs (initials cs)
all_same [] = tt
all_same (c ∷ cs) = (refl, all_same cs)

holding_same : (cs : List Channel) → channels_holding (initials cs) cs ≡ cs
holding_same [] = refl
holding_same (c ∷ cs) = ap (λ (xs : List Channel). c ∷ xs) (holding_same cs)

pub beginning_is : (n : ℕ) (v : List ℤ) (cs : List Channel) → channels_holding (with_one n v cs) cs ≡ channels_beginning n v cs
beginning_is n v [] = refl
beginning_is zero v (c ∷ cs) = ap (λ (xs : List Channel). with_initial (c, v) ∷ xs) (holding_same cs)
beginning_is (suc n) v (c ∷ cs) = ap (λ (xs : List Channel). c ∷ xs) (beginning_is n v cs)

pub many_with_one : (n : ℕ) (v : List ℤ) (cs : List Channel) → IfSome (slice_get cs n) (λ c. HasAsMany c v) → AllZip HasAsMany cs (with_one n v cs)
many_with_one n v [] many = tt
many_with_one zero v (c ∷ cs) many = (many, all_same cs)
many_with_one (suc n) v (c ∷ cs) many = (refl, many_with_one n v cs many)

pub kept_beginning : (actor_names channel_names : List (List ℕ)) (g : Graph) (n : ℕ) (v : List ℤ) → IfSome (slice_get g.channels n) (λ c. HasAsMany c v)
    → IsKept actor_names channel_names g → IsKept actor_names channel_names (beginning_with n v g)
kept_beginning actor_names channel_names g n v as_many kept =
    let vs : List (List ℤ) = with_one n v g.channels in
    let many = many_with_one n v g.channels as_many in
    subst (λ (cs : List Channel). IsKept actor_names channel_names (record { actors = g.actors; channels = cs; cells = g.cells })) (beginning_is n v g.channels)
    (record {
      numbered = record { actors = kept.numbered.actors; channels = kept.numbered.channels ∙ sym (names_holding g.channels vs many) };
      well_formed = well_formed_holding g vs many kept.well_formed;
    })

pub ports_beginning : (n m : ℕ) (v : List ℤ) (cs : List Channel) → IfSome (slice_get cs n) (λ c. HasAsMany c v)
    → all_ports (channels_beginning n v cs) m ≡ all_ports cs m
ports_beginning n m v cs as_many =
    ap (λ (xs : List Channel). all_ports xs m) (sym (beginning_is n v cs)) ∙ same_all_ports cs (with_one n v cs) m (many_with_one n v cs as_many)

-- what the code writes
pub view_beginning : (items : List ChannelCode) (n : ℕ) (v : Vec ℤ) (x : ChannelCode) → n < length items → x ≡ get_or items n x
    → map channel_view (set items n (record x { initial = v })) ≡ channels_beginning n v.items (map channel_view items)
view_beginning [] n v x lt is = absurd (omega arith)
view_beginning (y ∷ items) zero v x lt is = ap (λ (z : ChannelCode). with_initial (channel_view z, v.items) ∷ map channel_view items) is
view_beginning (y ∷ items) (suc n) v x lt is = ap (λ (xs : List Channel). channel_view y ∷ xs) (view_beginning items n v x (omega arith) is)
