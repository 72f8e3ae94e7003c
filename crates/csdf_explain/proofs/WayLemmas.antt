-- A way over channels: where it leads, and which one comes first.
use Rattle.std.proofs.Common.{◌≡◌, ℕ, zero, suc, ◌+◌, ◌-◌, ◌<◌, ◌≤◌, ◌⊎◌, inl, inr, Bool, true, false, List, [], ◌∷◌, ◌++◌, length, take, refl, sym, ap, subst, ◌∙◌, arith}
use Rattle.std.proofs.lemmas.List.{append-nil, append_assoc, length-map}
use Rattle.std.proofs.lemmas.Option.{get_or_from_slice_get, none-some, same_Some, slice_get_within}
use Rattle.std.specs.Prelude.{if◌then◌else◌, Option, Some, None, map, slice_get}
use Rattle.csdf_model.specs.Graph.{Channel, Graph, actor_view, channel_view}
use Rattle.csdf_model.specs.WellFormed.{IsChannel, IsWellFormed}
use Rattle.csdf_model.specs.declared.parts.Actor.{Actor as ActorCode}
use Rattle.csdf_model.specs.declared.parts.Channel.{Channel as ChannelCode}
use Rattle.csdf_explain.specs.Explained.{TellsDemand, TellsUnbalanced, way_text}
use Rattle.csdf_explain.specs.Ways.{AreApart, ClosesCircle, IsFirstWay, IsNoLater, Leads, across, led}
use Rattle.csdf_explain.specs.Distances.{AreDistances, EndsWithin, IsFirstStep, IsStep, distance_at, is_far, nearer}
use Rattle.csdf_explain.proofs.DistanceLemmas.{far_known, known_far, less_or_not}

-- ---- ways and distances

-- a way that leads somewhere begins somewhere
led_from : (channels : List Channel) (way : List ℕ) (o : Option ℕ) (end : ℕ) → led channels way o ≡ Some end
    → (b : ℕ) × (o ≡ Some b) × Leads channels b end way
led_from channels way (Some b) end is = (b, refl, is)
led_from channels [] None end is = absurd (none-some end is)
led_from channels (n ∷ way) None end is = absurd (none-some end is)

-- an actor from which a way leads is no further away than that is long
pub come_to : (channels : List Channel) (start : ℕ) (distances : List (Option ℕ)) → AreDistances channels start distances
    → (way : List ℕ) (a : ℕ) → Leads channels a start way → (d : ℕ) × (d ≤ length way) × (distance_at distances a ≡ Some d)
come_to channels start distances are [] a is = (0, omega arith, ap (distance_at distances) (same_Some a start is) ∙ are.begins)
come_to channels start distances are (n ∷ way) a is =
    let next = led_from channels way (across (slice_get channels n) a) start is in
    let there = come_to channels start distances are way next.0 next.2 in
    let here = are.all n a next.0 there.0 next.1 there.2 in
    (here.0, (let one = there.1 in let two = here.1 in omega (arith, one, two)), here.2)

pub apart : (channels : List Channel) (start : ℕ) (distances : List (Option ℕ)) (a : ℕ) → AreDistances channels start distances
    → distance_at distances a ≡ None → AreApart channels a start
apart channels start distances a are none way is =
    let there = come_to channels start distances are way a is in
    none-some there.0 (sym none ∙ there.2)

-- ---- the way down

-- a way of the least length from an actor that is so far away, and the first of these
pub record IsFirstDown (channels : List Channel) (start a d : ℕ) (way : List ℕ) : Type 0 where
  pub leads : Leads channels a start way
  pub long : length way ≡ d
  pub first : (other : List ℕ) → Leads channels a start other → length other ≡ d → IsNoLater way other

pub down_none : (channels : List Channel) (start a : ℕ) (distances : List (Option ℕ)) → AreDistances channels start distances
    → distance_at distances a ≡ Some 0 → IsFirstDown channels start a 0 []
down_none channels start a distances are at = record {
  leads = elim (are.next a 0 at) [ inl here ↦ ap Some here.1 | inr step ↦ absurd (let e = step.5 in omega arith) ];
  long = refl;
  first = λ other leads same. tt;
}

-- there is a channel that leads down
pub some_step : (channels : List Channel) (start a d : ℕ) (distances : List (Option ℕ)) → AreDistances channels start distances
    → distance_at distances a ≡ Some (suc d) → (n : ℕ) × (b : ℕ) × IsStep channels distances a d n b
some_step channels start a d distances are at = elim (are.next a (suc d) at) [
  | inl here ↦ absurd (let e = here.0 in omega arith)
  | inr step ↦
      let e : step.2 ≡ d = (let one = step.5 in omega arith) in
      (step.0, step.1, (step.3, step.4 ∙ ap Some e))
]

-- the first channel that leads down, and then the first way from there
down_later : (channels : List Channel) (start a d n b : ℕ) (rest : List ℕ) (distances : List (Option ℕ)) → AreDistances channels start distances
    → distance_at distances a ≡ Some (suc d) → IsFirstStep channels distances a d n b → IsFirstDown channels start b d rest
    → (other : List ℕ) → Leads channels a start other → length other ≡ suc d → IsNoLater (n ∷ rest) other
down_later channels start a d n b rest distances are at step down [] leads same = absurd (omega arith)
down_later channels start a d n b rest distances are at step down (m ∷ other) leads same =
    let size : length other ≡ d = omega arith in
    let next = led_from channels other (across (slice_get channels m) a) start leads in
    let there = come_to channels start distances are other next.0 next.2 in
    let here = are.all m a next.0 there.0 next.1 there.2 in
    let top : here.0 ≡ suc d = same_Some here.0 (suc d) (sym here.2 ∙ at) in
    let far : there.0 ≡ d = (let one = there.1 in let two = here.1 in omega (arith, one, two, top, size)) in
    let down_too : IsStep channels distances a d m next.0 = (next.1, there.2 ∙ ap Some far) in
    elim (less_or_not m n) [
      | inl before ↦ absurd (step.1 m next.0 before down_too)
      | inr ge ↦ elim (less_or_not n m) [
        | inl after ↦ inl after
        | inr le ↦
            let is : n ≡ m = omega arith in
            let at_b : next.0 ≡ b = same_Some next.0 b (sym next.1 ∙ ap (λ x. across (slice_get channels x) a) (sym is) ∙ step.0.0) in
            inr (is, down.first other (subst (λ x. Leads channels x start other) at_b next.2) size)
      ]
    ]

pub down_on : (channels : List Channel) (start a d n b : ℕ) (rest : List ℕ) (distances : List (Option ℕ)) → AreDistances channels start distances
    → distance_at distances a ≡ Some (suc d) → IsFirstStep channels distances a d n b → IsFirstDown channels start b d rest
    → IsFirstDown channels start a (suc d) (n ∷ rest)
down_on channels start a d n b rest distances are at step down = record {
  leads = ap (led channels rest) step.0.0 ∙ down.leads;
  long = ap suc down.long;
  first = down_later channels start a d n b rest distances are at step down;
}

-- a way of the least length comes before each other way
pub first_way : (channels : List Channel) (start a d : ℕ) (way : List ℕ) (distances : List (Option ℕ)) → AreDistances channels start distances
    → distance_at distances a ≡ Some d → IsFirstDown channels start a d way → IsFirstWay channels a start way
first_way channels start a d way distances are at down = (
  down.leads,
  λ other leads.
      (let there = come_to channels start distances are other a leads in
      let this : there.0 ≡ d = same_Some there.0 d (sym there.2 ∙ at) in
      let le = there.1 in
      let long = down.long in
      elim (less_or_not d (length other)) [
        | inl less ↦ inl (omega (arith, long, less))
        | inr ge ↦
            let same : length other ≡ d = omega (arith, le, this, ge) in
            inr (long ∙ sym same, down.first other leads same)
      ]),
)

-- ---- the code's turns

nearer_by : (t : Bool) (distances : List (Option ℕ)) (x k b : ℕ) → is_far (distance_at distances x) k ≡ t
    → (if t then Some x else None) ≡ Some b → (Some x ≡ Some b) × (distance_at distances b ≡ Some k)
nearer_by true distances x k b far is = (is, ap (distance_at distances) (sym (same_Some x b is)) ∙ far_known (distance_at distances x) k far)
nearer_by false distances x k b far is = absurd (none-some b is)

pub nearer_some : (distances : List (Option ℕ)) (o : Option ℕ) (k b : ℕ) → nearer distances o k ≡ Some b
    → (o ≡ Some b) × (distance_at distances b ≡ Some k)
nearer_some distances None k b is = absurd (none-some b is)
nearer_some distances (Some x) k b is = nearer_by (is_far (distance_at distances x) k) distances x k b refl is

pub nearer_none : (distances : List (Option ℕ)) (o : Option ℕ) (k b : ℕ) → nearer distances o k ≡ None
    → o ≡ Some b → distance_at distances b ≡ Some k → ⊥
nearer_none distances o k b is other at =
    none-some b (sym is ∙ ap (λ (x : Option ℕ). nearer distances x k) other
    ∙ ap (λ t. if t then Some b else None) (known_far (distance_at distances b) k at))

-- one channel more that does not lead there
pub step_on : (channels : List Channel) (distances : List (Option ℕ)) (a k i : ℕ) (c : Channel) (o : Option ℕ) → slice_get channels i ≡ Some c
    → o ≡ nearer distances (across (Some c) a) k → o ≡ None → ((m b : ℕ) → m < i → IsStep channels distances a k m b → ⊥)
    → (m b : ℕ) → m < i + 1 → IsStep channels distances a k m b → ⊥
step_on channels distances a k i c o at found none before m b lt step = elim (less_or_not m i) [
  | inl less ↦ before m b less step
  | inr ge ↦
      let this : m ≡ i = omega arith in
      let over : across (Some c) a ≡ Some b = ap (λ (x : Option Channel). across x a) (sym (ap (slice_get channels) this ∙ at)) ∙ step.0 in
      nearer_none distances (across (Some c) a) k b (sym found ∙ none) over step.1
]

-- the way down is complete
pub down_all : (channels : List Channel) (start a from count left : ℕ) (way : List ℕ) (distances : List (Option ℕ)) → AreDistances channels start distances
    → distance_at distances from ≡ Some count → distance_at distances a ≡ Some left → left ≡ 0
    → ((rest : List ℕ) → IsFirstDown channels start a left rest → IsFirstDown channels start from count (way ++ rest))
    → IsFirstWay channels from start way
down_all channels start a from count left way distances are begins at end goes =
    first_way channels start from count way distances are begins
    (subst (IsFirstDown channels start from count) (append-nil way)
    (goes [] (subst (λ d. IsFirstDown channels start a d []) (sym end) (down_none channels start a distances are (at ∙ ap Some end)))))

-- one channel more of the way down
pub down_more : (channels : List Channel) (start a from count left n b : ℕ) (way more : List ℕ) (distances : List (Option ℕ)) → AreDistances channels start distances
    → distance_at distances a ≡ Some left → 0 < left → IsFirstStep channels distances a (left - 1) n b → more ≡ way ++ (n ∷ [])
    → ((rest : List ℕ) → IsFirstDown channels start a left rest → IsFirstDown channels start from count (way ++ rest))
    → (distance_at distances b ≡ Some (left - 1))
    × ((rest : List ℕ) → IsFirstDown channels start b (left - 1) rest → IsFirstDown channels start from count (more ++ rest))
down_more channels start a from count left n b way more distances are at some step longer goes =
    let whole : left ≡ suc (left - 1) = omega arith in (
      step.0.1,
      λ rest down.
          (let here = down_on channels start a (left - 1) n b rest distances are (at ∙ ap Some whole) step down in
          let all = goes (n ∷ rest) (subst (λ d. IsFirstDown channels start a d (n ∷ rest)) (sym whole) here) in
          subst (IsFirstDown channels start from count) (sym (append_assoc way (n ∷ []) rest) ∙ ap (λ xs. xs ++ rest) (sym longer)) all),
    )

-- the channels before one
pub get_before : (channels : List Channel) (n m : ℕ) (c : Channel) → slice_get (take n channels) m ≡ Some c → slice_get channels m ≡ Some c
get_before channels zero m c is = absurd (none-some c is)
get_before [] (suc n) m c is = absurd (none-some c is)
get_before (x ∷ xs) (suc n) zero c is = is
get_before (x ∷ xs) (suc n) (suc m) c is = get_before xs n m c is

pub ends_before : (actors : ℕ) (channels before : List Channel) (n : ℕ) → before ≡ take n channels → EndsWithin actors channels → EndsWithin actors before
ends_before actors channels before n is ends m c at =
    ends m c (get_before channels n m c (ap (λ (xs : List Channel). slice_get xs m) (sym is) ∙ at))

-- ---- the circle that a channel closes

pub closes_by : (channels before : List Channel) (n count : ℕ) (c : Channel) (way : List ℕ) (distances seen again : List (Option ℕ)) (found : Option ℕ)
    → slice_get channels n ≡ Some c → before ≡ take n channels → AreDistances before c.from distances → seen ≡ distances → again ≡ distances
    → found ≡ distance_at seen c.to → found ≡ Some count
    → ((start : ℕ) → AreDistances before start again → distance_at again c.to ≡ Some count → IsFirstWay before c.to start way) → ClosesCircle channels n way
closes_by channels before n count c way distances seen again found at is are first second looked some all =
    let far : distance_at again c.to ≡ Some count = ap (λ (ds : List (Option ℕ)). distance_at ds c.to) (second ∙ sym first) ∙ sym looked ∙ some in
    let these : AreDistances before c.from again = subst (AreDistances before c.from) (sym second) are in
    (c, at, inl (subst (λ (cs : List Channel). IsFirstWay cs c.to c.from way) is (all c.from these far)))

pub closes_none : (channels before : List Channel) (n : ℕ) (c : Channel) (way : List ℕ) (distances seen : List (Option ℕ)) (found : Option ℕ)
    → slice_get channels n ≡ Some c → before ≡ take n channels → AreDistances before c.from distances → seen ≡ distances
    → found ≡ distance_at seen c.to → found ≡ None → way ≡ [] → ClosesCircle channels n way
closes_none channels before n c way distances seen found at is are first looked none empty =
    let far : distance_at distances c.to ≡ None = ap (λ (ds : List (Option ℕ)). distance_at ds c.to) (sym first) ∙ sym looked ∙ none in
    (c, at, inr (empty, subst (λ (cs : List Channel). AreApart cs c.to c.from) is (apart before c.from distances c.to are far)))

-- ---- there is one such way alone

one_order : (xs ys : List ℕ) → length xs ≡ length ys → IsNoLater xs ys → IsNoLater ys xs → xs ≡ ys
one_order [] [] same before after = refl
one_order [] (y ∷ ys) same before after = absurd (omega arith)
one_order (x ∷ xs) [] same before after = absurd (omega arith)
one_order (x ∷ xs) (y ∷ ys) same before after = elim before [
  | inl less ↦ elim after [ inl more ↦ absurd (omega arith) | inr other ↦ absurd (let e = other.0 in omega arith) ]
  | inr here ↦ elim after [
    | inl more ↦ absurd (let e = here.0 in omega arith)
    | inr other ↦
        let rest : xs ≡ ys = one_order xs ys (omega arith) here.1 other.1 in
        ap (λ z. z ∷ xs) here.0 ∙ ap (λ zs. y ∷ zs) rest
  ]
]

one_way : (channels : List Channel) (a b : ℕ) (way other : List ℕ) → IsFirstWay channels a b way → IsFirstWay channels a b other → way ≡ other
one_way channels a b way other one two = elim (one.1 other two.0) [
  | inl less ↦ elim (two.1 way one.0) [ inl more ↦ absurd (omega arith) | inr same ↦ absurd (let e = same.0 in omega arith) ]
  | inr same ↦ elim (two.1 way one.0) [
    | inl more ↦ absurd (let e = same.0 in omega arith)
    | inr back ↦ one_order way other same.0 same.1 back.1
  ]
]

circle_by : (before : List Channel) (c : Channel) (way other : List ℕ) → IsFirstWay before c.to c.from way ⊎ ((way ≡ []) × AreApart before c.to c.from)
    → IsFirstWay before c.to c.from other ⊎ ((other ≡ []) × AreApart before c.to c.from) → way ≡ other
circle_by before c way other (inl one) (inl two) = one_way before c.to c.from way other one two
circle_by before c way other (inl one) (inr two) = absurd (two.1 way one.0)
circle_by before c way other (inr one) (inl two) = absurd (one.1 other two.0)
circle_by before c way other (inr one) (inr two) = one.0 ∙ sym two.0

-- the channels of a circle are told by the graph alone
pub one_circle : (channels : List Channel) (n : ℕ) (way other : List ℕ) → ClosesCircle channels n way → ClosesCircle channels n other → way ≡ other
one_circle channels n way other one two =
    let same : two.0 ≡ one.0 = same_Some two.0 one.0 (sym two.1 ∙ one.1) in
    circle_by (take n channels) one.0 way other one.2
    (subst (λ (c : Channel). IsFirstWay (take n channels) c.to c.from other ⊎ ((other ≡ []) × AreApart (take n channels) c.to c.from)) same two.2)

-- ---- what is told

-- the ends of a graph's channels are among its actors
pub ends_within : (g : Graph) (actors : List ActorCode) (channels : List ChannelCode) → map actor_view actors ≡ g.actors → map channel_view channels ≡ g.channels
    → IsWellFormed g → EndsWithin (length actors) (map channel_view channels)
ends_within g actors channels those these whole n c at =
    let here : slice_get g.channels n ≡ Some c = ap (λ (cs : List Channel). slice_get cs n) (sym these) ∙ at in
    let is : IsChannel g.actors c = subst (IsChannel g.actors) (get_or_from_slice_get g.channels n c c here)
    (whole.fitting.channels n c (slice_get_within g.channels n c here)) in
    let count : length g.actors ≡ length actors = ap length (sym those) ∙ length-map actors actor_view in
    (subst (λ m. c.from < m) count is.from, subst (λ m. c.to < m) count is.to)

-- what a channel asks is told, and then its circle
pub unbalanced_told : (g : Graph) (n : ℕ) (front text way given : List ℕ) (channels : List Channel) → TellsDemand g n front
    → ClosesCircle channels n way → given ≡ way → channels ≡ g.channels → text ≡ front ++ way_text g n given → TellsUnbalanced g n text
unbalanced_told g n front text way given channels demand circle is these told = (
  front,
  way,
  demand,
  subst (λ (cs : List Channel). ClosesCircle cs n way) these circle,
  told ∙ ap (λ (xs : List ℕ). front ++ way_text g n xs) is,
)
