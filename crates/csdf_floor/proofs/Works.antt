-- What is run, as the fields of its lists show it.
use Rattle.std.proofs.Common.{◌≡◌, ℕ, zero, suc, ◌+◌, ◌*◌, ◌<◌, ◌≤◌, ◌==◌, cond, Bool, true, false, List, [], ◌∷◌, length, map, filter, get_or, refl, ap}
use Rattle.std.proofs.Common.{sym, subst, ◌∙◌, arith, mul-le-mul, inl, inr, ◌-◌, set, length-set, Option}
use Rattle.std.specs.Prelude.{All, ℤ, vec_len, vec_capacity, Result, Ok, Err, OnOk, is_ok}
use Rattle.std.specs.Global.{Vec}
use Rattle.std.proofs.lemmas.List.{length-map, get_or-map, get_or-set_same, get_or_past}
use Rattle.std.proofs.lemmas.List.Elements.{All-get_or, All-from_get_or, All-from_recursion}
use Rattle.csdf_model.specs.declared.parts.Kernel.{Kernel}
use Rattle.csdf_model.specs.declared.parts.Kernel.TheVariants as kernel
use Rattle.csdf_model.specs.declared.parts.Actor.{Actor as ActorCode}
use Rattle.csdf_model.specs.Graph.{Actor, Graph, actor_view, numbers_from}
use Rattle.csdf_model.specs.Rates.{rate}
use Rattle.csdf_model.specs.WellFormed.{IsWellFormed, IsActor, IsKernel}
use Rattle.csdf_analysis.specs.Acceptance.{Accepted, IsAccepted}
use Rattle.csdf_analysis.specs.Repetition.{IsRepetition}
use Rattle.csdf_analysis.proofs.BoundLemmas.{firing_fits, phases_within}
use Rattle.csdf_kernel.specs.Value.{HasFilterInRange}
use Rattle.csdf_core.specs.Planned.{is_source_kernel}
use Rattle.csdf_core.specs.Plan.{Channel, Plan, gives_of}
use Rattle.csdf_core.specs.Ports.{give_at, outputs_at}
use Rattle.csdf_core.specs.Step.{producer}
use Rattle.csdf_core.specs.Playable.{IsPlayable}
use Rattle.csdf_core.proofs.MadePlans.{playable_made}
use Rattle.csdf_core.proofs.PlanLemmas.{seen_at}
use Rattle.csdf_floor.specs.Journal.{Program, output_counts, program_for}
use Rattle.std.proofs.lemmas.Bool.Decides.{eqb_tells, leb_tells}
use Rattle.csdf_floor.specs.Work.{AreFeeds, FewInThousand, HasFewFirings, IsFeed, feed_of, Work, IsWork, program, feeds_in}

-- ---- kernels

-- a part of an actor, in the list of these parts
pub actor_at : {K : Type 0} (f : Actor → K) (actors : List ActorCode) (rows : List Actor) (a : ℕ) (x : ActorCode) (d : K) → map actor_view actors ≡ rows
    → a < length rows → x ≡ get_or actors a x → f (actor_view x) ≡ get_or (map f rows) a d
actor_at f actors rows a x d same lt is =
    let len : length actors ≡ length rows = sym (length-map actors actor_view) ∙ ap length same in
    seen_at actor_view f actors rows same a x d (omega arith) is

filter_fits : (k : Kernel) → IsKernel k → HasFilterInRange k
filter_fits kernel.Source is = tt
filter_fits kernel.Sink is = tt
filter_fits kernel.Copy is = tt
filter_fits kernel.Sum is = tt
filter_fits (kernel.Fir weights taps shift) is = (is.few_taps, is.low_shift)

pub in_range : (g : Graph) (a : ℕ) (k : Kernel) → IsWellFormed g → a < length g.actors → k ≡ get_or (map (λ (row : Actor). row.kernel) g.actors) a kernel.Sink
    → HasFilterInRange k
in_range g a k whole lt is =
    let row : Actor = record { name = []; kernel = kernel.Sink; phases = 1 } in
    let own : IsActor (get_or g.actors a row) = All-get_or IsActor g.actors a row lt whole.fitting.actors in
    subst HasFilterInRange (sym (is ∙ get_or-map (λ (r : Actor). r.kernel) g.actors a row kernel.Sink lt))
    (filter_fits (get_or g.actors a row).kernel own.kernel)

-- ---- limits

pub firings_small : (g : Graph) (r q : List ℕ) → IsWellFormed g → IsRepetition g.actors g.channels r q → All (λ n. n ≤ 16384) q
firings_small g r q whole is = All-from_get_or (λ n. n ≤ 16384) q 0 (λ a lt.
    let len = is.firings.each_actor in
    let rl = is.least.vector.each_actor in
    let small = All-get_or (λ n. n ≤ 1024) r a 0 (omega arith) is.small in
    subst (λ n. n ≤ 16384) (sym (is.firings.firings a lt)) (firing_fits _ (get_or r a 0) (phases_within g.actors a whole.fitting.actors) small))

pub few_in_thousand : FewInThousand
few_in_thousand a periods ok few = All-from_get_or (λ q. periods * q ≤ 16384000) a.q 0 (λ i lt.
    let most : periods * get_or a.q i 0 ≤ 1000 * 16384 =
    mul-le-mul few (All-get_or (λ n. n ≤ 16384) a.q i 0 lt (firings_small a.graph a.r a.q ok.well_formed ok.repetition)) in omega arith)

pub playable_program : (a : Accepted) (feeds : List (List ℤ)) (periods : ℕ) (firings : Option ℕ) → IsAccepted a → HasFewFirings a periods
    → IsPlayable (program_for a feeds periods firings).plan
playable_program a feeds periods firings ok few =
    let len : length (map (λ q. periods * q) a.q) ≡ length a.graph.actors = length-map a.q (λ q. periods * q) ∙ ok.repetition.firings.each_actor in
    playable_made a (map (λ q. periods * q) a.q) (map length feeds) firings ok len (All-from_get_or (λ n. n ≤ 16384000) (map (λ q. periods * q) a.q) 0 (λ i lt.
    let count = length-map a.q (λ q. periods * q) in
    let there : i < length a.q = omega arith in
    subst (λ n. n ≤ 16384000) (sym (get_or-map (λ q. periods * q) a.q i 0 0 there))
    (All-get_or (λ q. periods * q ≤ 16384000) a.q i 0 there few)))

-- ---- counts

-- the elements at the numbers of those that pass
numbers_map : {A K : Type 0} (f : ℕ → K) (h : A → K) (test : A → Bool) (i : ℕ) (xs : List A) (d : A)
    → ((j : ℕ) → j < length xs → test (get_or xs j d) ≡ true → f (i + j) ≡ h (get_or xs j d)) → map f (numbers_from i test xs) ≡ map h (filter test xs)
numbers_map f h test i [] d at = refl
numbers_map {A = A} {K = K} f h test i (x ∷ xs) d at =
    let here : test x ≡ true → f i ≡ h x = λ own. (let e : i + 0 ≡ i = omega arith in ap f (sym e) ∙ at 0 (omega arith) own) in
    let rest : map f (numbers_from (suc i) test xs) ≡ map h (filter test xs) =
    numbers_map f h test (suc i) xs d (λ j lt own. (let e : suc i + j ≡ i + suc j = omega arith in ap f e ∙ at (suc j) (omega arith) own)) in
    by (test x) here rest
  where
    by : (b : Bool) → (b ≡ true → f i ≡ h x) → map f (numbers_from (suc i) test xs) ≡ map h (filter test xs)
        → map f (cond b (i ∷ numbers_from (suc i) test xs) (numbers_from (suc i) test xs)) ≡ map h (cond b (x ∷ filter test xs) (filter test xs))
    by true here rest = let first = here refl in cc
    by false here rest = rest

-- what a firing writes to each output of its actor
pub productions : (a k : ℕ) (cs : List Channel) (outputs : List ℕ) → outputs ≡ outputs_at cs a
    → map (give_at cs k) outputs ≡ map (gives_of a k) (filter (λ (c : Channel). c.from == a) cs)
productions a k cs outputs is =
    let d : Channel = record { from = 0; to = 0; produce = []; consume = []; initial = []; capacity = 0 } in
    ap (map (give_at cs k)) is
    ∙ numbers_map (give_at cs k) (gives_of a k) (λ (c : Channel). c.from == a) 0 cs d (λ j lt own.
    let e : 0 + j ≡ j = omega arith in
    ap (give_at cs k) e
    ∙ get_or-map (λ (c : Channel). rate c.produce k) cs j d 0 lt
    ∙ sym (ap (λ b. cond b (rate (get_or cs j d).produce k) 0) own))

-- the same of counts that are read from a core of the program's plan
pub counted : (w : Program) (u : Plan) (a k : ℕ) (counts : List ℕ) → u ≡ w.plan
    → counts ≡ map (give_at u.channels k) (outputs_at u.channels a) → counts ≡ output_counts w a k
counted w u a k counts same is =
    is
    ∙ ap (λ (x : Plan). map (give_at x.channels k) (outputs_at x.channels a)) same
    ∙ productions a k w.plan.channels (outputs_at w.plan.channels a) refl

-- the contents of one of the vectors
pub feed_short : (feeds : List (Vec ℤ)) (n i : ℕ) (x : Vec ℤ) → All (λ feed. length feed ≤ n) (feeds_in feeds) → i < length feeds → x ≡ get_or feeds i x
    → length x.items ≤ n
feed_short feeds n i x all lt is =
    let len : length (feeds_in feeds) ≡ length feeds = length-map feeds (λ (v : Vec ℤ). v.items) in
    subst (λ (l : List ℤ). length l ≤ n) (get_or-map (λ (v : Vec ℤ). v.items) feeds i x [] lt
    ∙ ap (λ (v : Vec ℤ). v.items) (sym is)) (All-get_or (λ feed. length feed ≤ n) (feeds_in feeds) i [] (omega arith) all)

pub item_at : (lists : List (Vec ℤ)) (i : ℕ) (x : Vec ℤ) → i < length lists → x ≡ get_or lists i x → x.items ≡ get_or (feeds_in lists) i []
item_at lists i x lt is = ap (λ (v : Vec ℤ). v.items) is ∙ sym (get_or-map (λ (v : Vec ℤ). v.items) lists i x [] lt)

-- the room of the one that was changed
pub room_at : (lists : List (Vec ℤ)) (i : ℕ) (x : Vec ℤ) (more : ℕ) → i < length lists → vec_len x + more ≤ vec_capacity x
    → more ≤ get_or (map (λ (v : Vec ℤ). vec_capacity v - vec_len v) (set lists i x)) i 0
room_at lists i x more lt le =
    let len = length-set lists i x in
    let is : get_or (map (λ (v : Vec ℤ). vec_capacity v - vec_len v) (set lists i x)) i 0 ≡ vec_capacity x - vec_len x =
    get_or-map (λ (v : Vec ℤ). vec_capacity v - vec_len v) (set lists i x) i x 0 (omega (arith, len))
    ∙ ap (λ (v : Vec ℤ). vec_capacity v - vec_len v) (get_or-set_same lists i x x lt) in
    omega (arith, is)

pub source_at : (rows : List Actor) (a : ℕ) → a < length rows
    → is_source_kernel (get_or (map (λ (row : Actor). row.kernel) rows) a kernel.Sink) ≡ get_or (map (λ (row : Actor). is_source_kernel row.kernel) rows) a
    false
source_at [] a lt = absurd (omega arith)
source_at (row ∷ rows) zero lt = refl
source_at (row ∷ rows) (suc a) lt = source_at rows a (omega arith)

-- a buffer that was made so long
pub buffer_fits : {E : Type 0} (r : Result (Unit {0}) E) (lists : List (Vec ℤ)) (a n m : ℕ) (x : Vec ℤ) → a < length lists → vec_len x ≡ cond (is_ok r) n m
    → length x.items ≡ vec_len x → OnOk r (length (get_or (feeds_in (set lists a x)) a []) ≡ n)
buffer_fits (Ok u) lists a n m x lt len whole =
    let long = length-set lists a x in
    ap length (get_or-map (λ (v : Vec ℤ). v.items) (set lists a x) a x [] (omega (arith, long)) ∙ ap (λ (v : Vec ℤ). v.items) (get_or-set_same lists a x x lt))
    ∙ whole ∙ len
buffer_fits (Err e) lists a n m x lt len whole = tt

-- the ends of a channel are there
pub ends_there : (w : Work) (c : ℕ) (d : Channel) → IsWork w → c < length (program w).plan.channels
    → ((get_or (program w).plan.channels c d).from < length (program w).plan.sources)
    × ((get_or (program w).plan.channels c d).to < length (program w).plan.sources)
ends_there w c d is lt =
    let playable : IsPlayable (program w).plan = playable_program w.accepted w.feeds w.periods w.firings is.accepted is.few_firings in
    All-get_or (λ (e : Channel). (e.from < length (program w).plan.sources) × (e.to < length (program w).plan.sources)) (program w).plan.channels c d lt
    (All-from_recursion (λ (e : Channel). (e.from < length (program w).plan.sources) × (e.to < length (program w).plan.sources)) (program w).plan.channels
    playable.ends)

-- the producer of a channel is there
pub producer_there : (w : Work) (c : ℕ) → IsWork w → c < length (program w).plan.channels → producer (program w).plan c < length (program w).plan.sources
producer_there w c is lt =
    let d : Channel = record { from = 0; to = 0; produce = []; consume = []; initial = []; capacity = 0 } in
    subst (λ n. n < length (program w).plan.sources) (sym (get_or-map (λ (e : Channel). e.from) (program w).plan.channels c d 0 lt)) (ends_there w c d is lt).0

-- lists that can be feeds, one after the other
pub feeds_are : (g : Graph) (feeds : List (Vec ℤ)) → length feeds ≡ length g.actors → ((a : ℕ) → a < length feeds → IsFeed g a (feed_of (feeds_in feeds) a))
    → AreFeeds g (feeds_in feeds)
feeds_are g feeds each own =
    let len : length (feeds_in feeds) ≡ length feeds = length-map feeds (λ (v : Vec ℤ). v.items) in
    record {
      each_actor = len ∙ each;
      short = All-from_get_or (λ feed. length feed ≤ 1000000) (feeds_in feeds) [] (λ i lt. (own i (omega arith)).few);
      only_sources = λ a none. elim (leb_tells (length feeds) a) [
        | inl past ↦ get_or_past (feeds_in feeds) a [] (let le = past.1 in omega arith)
        | inr there ↦ (own a there.1).only_source none
      ];
    }

-- a feed of a source, one of them
pub feed_next : (g : Graph) (feeds : List (Vec ℤ)) (i a : ℕ) (x : Vec ℤ) (tokens : List ℤ) → x ≡ get_or feeds i x → i < length feeds → tokens ≡ x.items
    → IsFeed g i tokens
    → ((b : ℕ) → b < i → IsFeed g b (feed_of (feeds_in feeds) b)) → a < i + 1 → IsFeed g a (feed_of (feeds_in feeds) a)
feed_next g feeds i a x tokens is there same own before lt = elim (eqb_tells a i) [
  | inl here ↦ subst (λ b. IsFeed g b (feed_of (feeds_in feeds) b)) (sym here.1) (subst (IsFeed g i) (same ∙ item_at feeds i x there is) own)
  | inr other ↦ before a (let ne = other.1 in omega arith)
]
