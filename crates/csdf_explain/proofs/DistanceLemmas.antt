-- Distances from an actor, as rounds over the channels find them.
use Rattle.std.proofs.Common.{◌≡◌, ℕ, zero, suc, ◌+◌, ◌<◌, ◌≤◌, ◌⊎◌, inl, inr, Bool, true, false, ◌||◌, cond, List, length, replicate, get_or, refl, sym, ap, subst, ◌∙◌, arith}
use Rattle.std.proofs.lemmas.Bool.{cases_Bool, eqb-true, eqb-false, ltb-true, ltb-false, eq-eqb, false≢true, and_parts, and_from, or_parts}
use Rattle.std.proofs.lemmas.List.{get_or-set_same, get_or-set_other, length-set, length-replicate}
use Rattle.std.proofs.lemmas.List.Sums.{sum_by-set, count_by-le-length}
use Rattle.std.proofs.lemmas.Option.{none-some, same_Some, slice_get_within, slice_get-map, slice_get_read}
use Rattle.std.specs.Prelude.{◌==◌, nat_lt, if◌then◌else◌, Option, Some, None, map, option_map, slice_get, slice_set}
use Rattle.csdf_model.specs.Graph.{Channel, channel_view}
use Rattle.csdf_model.specs.declared.parts.Channel.{Channel as ChannelCode}
use Rattle.csdf_explain.specs.Ways.{across}
use Rattle.csdf_explain.specs.Distances.{AreDistances, AreDistancesTo, Crosses, EndsWithin, IsNext, Spreads, distance_at, is_far, is_reached, is_unknown, reached, unknown_count}

pub same_or_not : (a b : ℕ) → (a ≡ b) ⊎ (a ≡ b → ⊥)
same_or_not a b = elim (cases_Bool (a == b)) [ inl y ↦ inl (eqb-true a b y) | inr n ↦ inr (eqb-false a b n) ]

pub less_or_not : (a b : ℕ) → (a < b) ⊎ (b ≤ a)
less_or_not a b = elim (cases_Bool (nat_lt a b)) [ inl y ↦ inl (ltb-true a b y) | inr n ↦ inr (ltb-false a b n) ]

-- ---- channels and their ends

-- the channel that stands at a number
pub channel_at : (channels : List ChannelCode) (i : ℕ) (d : ChannelCode)
    → i < length channels → d ≡ get_or channels i d → slice_get (map channel_view channels) i ≡ Some (channel_view d)
channel_at channels i d lt is =
    slice_get-map channel_view channels i ∙ ap (option_map channel_view) (slice_get_read channels (length channels) i d refl lt is)

-- the two ends of a channel that is crossed
abbrev pub AreEnds : Channel → ℕ → ℕ → Type 0
AreEnds c a b = ((a ≡ c.from) × (b ≡ c.to)) ⊎ ((a ≡ c.to) × (b ≡ c.from))

ends_by : (c : Channel) (a b : ℕ) (x y : Bool) → (c.from == a) ≡ x → (c.to == a) ≡ y
    → (if x then Some c.to else (if y then Some c.from else None)) ≡ Some b → AreEnds c a b
ends_by c a b true y from to is = inl (sym (eqb-true c.from a from), sym (same_Some c.to b is))
ends_by c a b false true from to is = inr (sym (eqb-true c.to a to), sym (same_Some c.from b is))
ends_by c a b false false from to is = absurd (none-some b is)

ends_of : (c : Channel) (a b : ℕ) → across (Some c) a ≡ Some b → AreEnds c a b
ends_of c a b is = ends_by c a b (c.from == a) (c.to == a) refl refl is

pub crossed : (o : Option Channel) (a b : ℕ) → across o a ≡ Some b → (c : Channel) × (o ≡ Some c) × AreEnds c a b
crossed None a b is = absurd (none-some b is)
crossed (Some c) a b is = (c, refl, ends_of c a b is)

across_from : (c : Channel) → across (Some c) c.from ≡ Some c.to
across_from c = ap (λ x. if x then Some c.to else (if c.to == c.from then Some c.from else None)) (eq-eqb c.from c.from refl)

across_to_by : (c : Channel) (x : Bool) → (c.from == c.to) ≡ x → (if x then Some c.to else (if c.to == c.to then Some c.from else None)) ≡ Some c.from
across_to_by c true is = ap Some (sym (eqb-true c.from c.to is))
across_to_by c false is = ap (λ x. if x then Some c.from else None) (eq-eqb c.to c.to refl)

across_to : (c : Channel) → across (Some c) c.to ≡ Some c.from
across_to c = across_to_by c (c.from == c.to) refl

pub crosses_there : (channels : List Channel) (n : ℕ) (c : Channel) → slice_get channels n ≡ Some c → Crosses channels n c.from c.to
crosses_there channels n c at = ap (λ (o : Option Channel). across o c.from) at ∙ across_from c

pub crosses_back : (channels : List Channel) (n : ℕ) (c : Channel) → slice_get channels n ≡ Some c → Crosses channels n c.to c.from
crosses_back channels n c at = ap (λ (o : Option Channel). across o c.to) at ∙ across_to c

pub crosses_within : (channels : List Channel) (n a b : ℕ) → Crosses channels n a b → n < length channels
crosses_within channels n a b cross = let c = crossed (slice_get channels n) a b cross in slice_get_within channels n c.0 c.1

-- ---- one step

pub far_known : (o : Option ℕ) (k : ℕ) → is_far o k ≡ true → o ≡ Some k
far_known None k h = absurd (false≢true h)
far_known (Some d) k h = ap Some (eqb-true d k h)

pub known_far : (o : Option ℕ) (k : ℕ) → o ≡ Some k → is_far o k ≡ true
known_far o k h = ap (λ (x : Option ℕ). is_far x k) h ∙ eq-eqb k k refl

unknown_none : (o : Option ℕ) → is_unknown o ≡ true → o ≡ None
unknown_none None h = refl
unknown_none (Some d) h = absurd (false≢true h)

known_some : (o : Option ℕ) → (o ≡ None → ⊥) → (d : ℕ) × (o ≡ Some d)
known_some None h = absurd (h refl)
known_some (Some d) h = (d, refl)

abbrev one_if_unknown : Option ℕ → ℕ
one_if_unknown o = cond (is_unknown o) 1 0

-- what is known after an actor was looked at, next to another one
pub record Reaches (near far k : ℕ) (old new : List (Option ℕ)) (told : Bool) : Type 0 where
  pub kept : (a d : ℕ) → distance_at old a ≡ Some d → distance_at new a ≡ Some d
  pub only : (a d : ℕ) → distance_at new a ≡ Some d
      → (distance_at old a ≡ Some d) ⊎ ((a ≡ far) × (d ≡ suc k) × (distance_at old near ≡ Some k))
  pub noted : distance_at old near ≡ Some k → (d : ℕ) × (distance_at new far ≡ Some d)
  pub long : length new ≡ length old
  pub fewer : unknown_count new + cond told 1 0 ≤ unknown_count old
  pub same : told ≡ false → new ≡ old

reaches_new : (near far k : ℕ) (old : List (Option ℕ)) → far < length old → distance_at old near ≡ Some k → distance_at old far ≡ None
    → Reaches near far k old (slice_set old far (Some (k + 1))) true
reaches_new near far k old lt at free = record {
  kept = λ a d is. get_or-set_other old far a (Some (k + 1)) None
      (λ same. none-some d (sym free ∙ ap (λ x. get_or old x None) (sym same) ∙ is)) ∙ is;
  only = λ a d is. elim (same_or_not a far) [
    | inl same ↦
        let e : k + 1 ≡ d = same_Some (k + 1) d (sym (get_or-set_same old far (Some (k + 1)) None lt)
        ∙ ap (λ x. get_or (slice_set old far (Some (k + 1))) x None) (sym same) ∙ is) in
        inr (same, omega arith, at)
    | inr other ↦ inl (sym (get_or-set_other old far a (Some (k + 1)) None other) ∙ is)
  ];
  noted = λ is. (k + 1, get_or-set_same old far (Some (k + 1)) None lt);
  long = length-set old far (Some (k + 1));
  fewer =
      let one = sum_by-set one_if_unknown old far (Some (k + 1)) None lt in
      let two = ap one_if_unknown free in
      omega (arith, one, two);
  same = λ h. absurd (false≢true (sym h));
}

reaches_none : (near far k : ℕ) (old : List (Option ℕ)) → (distance_at old near ≡ Some k → distance_at old far ≡ None → ⊥)
    → Reaches near far k old old false
reaches_none near far k old none = record {
  kept = λ a d is. is;
  only = λ a d is. inl is;
  noted = λ is. known_some (distance_at old far) (none is);
  long = refl;
  fewer = omega arith;
  same = λ h. refl;
}

reaches_by : (b : Bool) (near far k : ℕ) (old : List (Option ℕ)) → far < length old → is_reached old near far k ≡ b
    → Reaches near far k old (if b then slice_set old far (Some (k + 1)) else old) b
reaches_by true near far k old lt is =
    let both = and_parts (is_far (distance_at old near) k) (is_unknown (distance_at old far)) is in
    reaches_new near far k old lt (far_known (distance_at old near) k both.0) (unknown_none (distance_at old far) both.1)
reaches_by false near far k old lt is =
    reaches_none near far k old (λ at free. false≢true (sym is
    ∙ and_from (is_far (distance_at old near) k) (is_unknown (distance_at old far)) (known_far (distance_at old near) k at) (ap is_unknown free)))

pub reaches : (near far k : ℕ) (old new : List (Option ℕ)) (told : Bool) → far < length old → new ≡ reached old near far k
    → told ≡ is_reached old near far k → Reaches near far k old new told
reaches near far k old new told lt is tells =
    subst (λ (x : List (Option ℕ)). Reaches near far k old x told) (sym is)
    (subst (λ (b : Bool). Reaches near far k old (reached old near far k) b) (sym tells)
    (reaches_by (is_reached old near far k) near far k old lt refl))

-- ---- a round

-- what a round has come to with the channels before one, and whether it was something
pub record SpreadSoFar (channels : List Channel) (i k : ℕ) (old new : List (Option ℕ)) (told : Bool) : Type 0 where
  pub spreads : Spreads channels i k old new
  pub long : length new ≡ length old
  pub fewer : unknown_count new + cond told 1 0 ≤ unknown_count old
  pub same : told ≡ false → new ≡ old

pub spread_none : (channels : List Channel) (k : ℕ) (old : List (Option ℕ)) → SpreadSoFar channels 0 k old old false
spread_none channels k old = record {
  spreads = record {
    kept = λ a d is. is;
    only = λ a d is. inl is;
    all = λ n a b lt cross is. absurd (omega arith);
  };
  long = refl;
  fewer = omega arith;
  same = λ h. refl;
}

or_count : (a b c : Bool) → cond ((a || b) || c) 1 0 ≤ (cond a 1 0 + cond b 1 0) + cond c 1 0
or_count true b c = omega arith
or_count false true c = omega arith
or_count false false c = omega arith

-- one that is k channels away was so before the step
was_far : (near far k a : ℕ) (old new : List (Option ℕ)) (told : Bool) → Reaches near far k old new told
    → distance_at new a ≡ Some k → distance_at old a ≡ Some k
was_far near far k a old new told r is = elim (r.only a k is) [ inl was ↦ was | inr new ↦ absurd (let e = new.1 in omega arith) ]

far_before : (channels : List Channel) (i k a : ℕ) (old new : List (Option ℕ)) → Spreads channels i k old new
    → distance_at new a ≡ Some k → distance_at old a ≡ Some k
far_before channels i k a old new s is = elim (s.only a k is) [ inl was ↦ was | inr new ↦ absurd (let e = new.0 in omega arith) ]

-- the end that is next to one k channels away is come to
both_noted : (k : ℕ) (c : Channel) (a b : ℕ) (mid one two : List (Option ℕ)) (there back : Bool)
    → Reaches c.from c.to k mid one there → Reaches c.to c.from k one two back → AreEnds c a b
    → distance_at mid b ≡ Some k → (d : ℕ) × (distance_at two a ≡ Some d)
both_noted k c a b mid one two there back r t (inl ends) is =
    let e = t.noted (ap (distance_at one) (sym ends.1) ∙ r.kept b k is) in
    (e.0, ap (distance_at two) ends.0 ∙ e.1)
both_noted k c a b mid one two there back r t (inr ends) is =
    let e = r.noted (ap (distance_at mid) (sym ends.1) ∙ is) in
    (e.0, ap (distance_at two) ends.0 ∙ t.kept c.to e.0 e.1)

-- both ends of one channel more
spreads_on : (channels : List Channel) (i k : ℕ) (c : Channel) (old mid one two : List (Option ℕ)) (there back : Bool)
    → slice_get channels i ≡ Some c → Spreads channels i k old mid
    → Reaches c.from c.to k mid one there → Reaches c.to c.from k one two back → Spreads channels (i + 1) k old two
spreads_on channels i k c old mid one two there back at s r t = record {
  kept = λ a d is. t.kept a d (r.kept a d (s.kept a d is));
  only = λ a d is. elim (t.only a d is) [
    | inl was ↦ elim (r.only a d was) [
      | inl first ↦ s.only a d first
      | inr new ↦ inr (
        new.1,
        (
          i,
          c.from,
          ap (across (slice_get channels i)) new.0 ∙ crosses_back channels i c at,
          far_before channels i k c.from old mid s new.2,
        ),
      )
    ]
    | inr new ↦ inr (
      new.1,
      (
        i,
        c.to,
        ap (across (slice_get channels i)) new.0 ∙ crosses_there channels i c at,
        far_before channels i k c.to old mid s (was_far c.from c.to k c.to mid one there r new.2),
      ),
    )
  ];
  all = λ n a b lt cross is. elim (less_or_not n i) [
    | inl less ↦
        let e = s.all n a b less cross is in
        (e.0, t.kept a e.0 (r.kept a e.0 e.1))
    | inr ge ↦
        let this : n ≡ i = omega arith in
        let here : Crosses channels i a b = ap (λ m. across (slice_get channels m) a) (sym this) ∙ cross in
        let over : across (Some c) a ≡ Some b = ap (λ (o : Option Channel). across o a) (sym at) ∙ here in
        both_noted k c a b mid one two there back r t (ends_of c a b over) (s.kept b k is)
  ];
}

pub spread_on : (channels : List Channel) (i k : ℕ) (c : Channel) (old mid one two : List (Option ℕ)) (told there back : Bool)
    → slice_get channels i ≡ Some c → SpreadSoFar channels i k old mid told
    → Reaches c.from c.to k mid one there → Reaches c.to c.from k one two back
    → SpreadSoFar channels (i + 1) k old two ((told || there) || back)
spread_on channels i k c old mid one two told there back at s r t = record {
  spreads = spreads_on channels i k c old mid one two there back at s.spreads r t;
  long = t.long ∙ r.long ∙ s.long;
  fewer =
      let a = s.fewer in
      let b = r.fewer in
      let d = t.fewer in
      let e = or_count told there back in
      omega (arith, a, b, d, e);
  same = λ none.
      (let two = or_parts (told || there) back none in
      let one = or_parts told there two.0 in
      t.same two.1 ∙ r.same one.1 ∙ s.same one.0);
}

-- ---- rounds

none_at : (n a : ℕ) → distance_at (replicate n None) a ≡ None
none_at zero a = refl
none_at (suc n) zero = refl
none_at (suc n) (suc a) = none_at n a

-- what is known at the beginning of a round
pub record Found (channels : List Channel) (actors start k : ℕ) (distances : List (Option ℕ)) : Type 0 where
  pub near : AreDistancesTo channels start k distances
  pub long : length distances ≡ actors
  pub few : k + unknown_count distances < actors

at_start : (n start a d : ℕ) → start < n → get_or (slice_set (replicate n None) start (Some 0)) a None ≡ Some d → (d ≡ 0) × (a ≡ start)
at_start n start a d lt is =
    let none : List (Option ℕ) = replicate n None in
    let within : start < length none = subst (λ m. start < m) (sym (length-replicate n None)) lt in
    elim (same_or_not a start) [
      | inl same ↦ (
        same_Some d 0 (sym is ∙ ap (λ x. get_or (slice_set none start (Some 0)) x None) same ∙ get_or-set_same none start (Some 0) None within),
        same,
      )
      | inr other ↦ absurd (none-some d (sym (none_at n a) ∙ sym (get_or-set_other none start a (Some 0) None other) ∙ is))
    ]

pub found_none : (channels : List Channel) (actors start : ℕ) (distances : List (Option ℕ)) → start < actors
    → distances ≡ slice_set (replicate actors None) start (Some 0) → Found channels actors start 0 distances
found_none channels actors start distances lt is =
    let none : List (Option ℕ) = replicate actors None in
    let within : start < length none = subst (λ m. start < m) (sym (length-replicate actors None)) lt in
    let begun : (a d : ℕ) → distance_at distances a ≡ Some d → (d ≡ 0) × (a ≡ start) =
    λ a d at. at_start actors start a d lt (ap (λ (x : List (Option ℕ)). get_or x a None) (sym is) ∙ at) in
    record {
      near = record {
        begins = ap (λ (x : List (Option ℕ)). get_or x start None) is ∙ get_or-set_same none start (Some 0) None within;
        within = λ a d at. (let e = (begun a d at).0 in omega arith);
        next = λ a d at. inl (begun a d at);
        all = λ n a b d less cross at. absurd (omega arith);
      };
      long = ap length is ∙ length-set none start (Some 0) ∙ length-replicate actors None;
      few =
          let one = sum_by-set one_if_unknown none start (Some 0) None within in
          let two = ap one_if_unknown (none_at actors start) in
          let all = count_by-le-length is_unknown none in
          let size : length none ≡ actors = length-replicate actors None in
          let here : unknown_count distances ≡ unknown_count (slice_set none start (Some 0)) = ap unknown_count is in
          omega (arith, one, two, all, size, here);
    }

next_kept : (channels : List Channel) (start m k a d : ℕ) (old new : List (Option ℕ)) → Spreads channels m k old new
    → IsNext channels start old a d → IsNext channels start new a d
next_kept channels start m k a d old new s next = elim next [
  | inl here ↦ inl here
  | inr step ↦ inr (step.0, step.1, step.2, step.3, s.kept step.1 step.2 step.4, step.5)
]

-- one round more
round_on : (channels : List Channel) (start k : ℕ) (old new : List (Option ℕ)) → AreDistancesTo channels start k old
    → Spreads channels (length channels) k old new → AreDistancesTo channels start (suc k) new
round_on channels start k old new d s =
    let within : (a e : ℕ) → distance_at new a ≡ Some e → e ≤ suc k =
    λ a e at. (elim (s.only a e at) [ inl was ↦ (let le = d.within a e was in omega arith) | inr new ↦ (let is = new.0 in omega arith) ]) in
    record {
      begins = s.kept start 0 d.begins;
      within = within;
      next = λ a e at. elim (s.only a e at) [
        | inl was ↦ next_kept channels start (length channels) k a e old new s (d.next a e was)
        | inr new ↦ inr (new.1.0, new.1.1, k, new.1.2, s.kept new.1.1 k new.1.3, new.0)
      ];
      all = λ n a b e less cross at. elim (s.only b e at) [
        | inr new ↦ absurd (let is = new.0 in omega arith)
        | inl was ↦ elim (less_or_not e k) [
          | inl lt ↦
              let f = d.all n a b e lt cross was in
              (f.0, f.1, s.kept a f.0 f.2)
          | inr ge ↦
              let this : e ≡ k = omega arith in
              let f = s.all n a b (crosses_within channels n a b cross) cross (was ∙ ap Some this) in
              let le = within a f.0 f.1 in
              (f.0, omega (arith, le, this), f.1)
        ]
      ];
    }

pub found_on : (channels : List Channel) (actors start k : ℕ) (old new : List (Option ℕ)) → Found channels actors start k old
    → length new ≡ length old → Spreads channels (length channels) k old new → unknown_count new < unknown_count old
    → Found channels actors start (k + 1) new
found_on channels actors start k old new f same s fewer = record {
  near =
      let one : suc k ≡ k + 1 = omega arith in
      subst (λ m. AreDistancesTo channels start m new) one (round_on channels start k old new f.near s);
  long = same ∙ f.long;
  few = let few = f.few in omega (arith, few, fewer);
}

-- a round that came to nobody
pub found_all : (channels : List Channel) (actors start k : ℕ) (old new : List (Option ℕ)) → Found channels actors start k old
    → Spreads channels (length channels) k old new → new ≡ old → AreDistances channels start new
found_all channels actors start k old new f s same = subst (λ (x : List (Option ℕ)). AreDistances channels start x) (sym same) (record {
  begins = f.near.begins;
  next = f.near.next;
  all = λ n a b e cross at. elim (less_or_not e k) [
    | inl lt ↦ f.near.all n a b e lt cross at
    | inr ge ↦
        let most = f.near.within b e at in
        let this : e ≡ k = omega (arith, most, ge) in
        let g = s.all n a b (crosses_within channels n a b cross) cross (at ∙ ap Some this) in
        let here : distance_at old a ≡ Some g.0 = ap (λ (x : List (Option ℕ)). distance_at x a) (sym same) ∙ g.1 in
        let le = f.near.within a g.0 here in
        (g.0, omega (arith, le, ge), here)
  ];
})

-- ---- the code's turns

pub to_within : (channels : List ChannelCode) (actors i : ℕ) (d : ChannelCode) (distances : List (Option ℕ)) → EndsWithin actors (map channel_view channels)
    → length distances ≡ actors → i < length channels → d ≡ get_or channels i d → d.to < length distances
to_within channels actors i d distances ends same lt is = subst (λ n. d.to < n) (sym same) (ends i (channel_view d) (channel_at channels i d lt is)).1

pub from_within : (channels : List ChannelCode) (actors i : ℕ) (d : ChannelCode) (distances : List (Option ℕ)) → EndsWithin actors (map channel_view channels)
    → length distances ≡ actors → i < length channels → d ≡ get_or channels i d → d.from < length distances
from_within channels actors i d distances ends same lt is = subst (λ n. d.from < n) (sym same) (ends i (channel_view d) (channel_at channels i d lt is)).0
