-- Where runs stand still: all at the same counts, and at these each actor with firings left lacks tokens or room.
use Rattle.std.proofs.Common.{◌≡◌, ℕ, ◌+◌, ◌<◌, ◌≤◌, inl, inr, List, [], ◌∷◌, ◌++◌, length, get_or, refl, sym, ap, subst, ◌∙◌, ◌==◌, nat_lt, true, arith}
use Rattle.std.proofs.Common.{length-append, Option, None, Some}
use Rattle.std.specs.Prelude.{slice_get, slice_index_or, EachIndex}
use Rattle.std.proofs.Math.Seq.{get_or-append_seam}
use Rattle.std.proofs.lemmas.Bool.{cases_Bool, eqb-true, eqb-false, ltb-true, lt-ltb}
use Rattle.std.proofs.lemmas.List.{length-replicate, get_or_append_left}
use Rattle.std.proofs.lemmas.Option.{slice_get_within}
use Rattle.csdf_model.specs.Graph.{Channel}
use Rattle.csdf_model.specs.Rates.{consumption}
use Rattle.csdf_analysis.specs.declared.stall.Stall.{Stall}
use Rattle.csdf_analysis.specs.declared.stall.Wait.{Wait}
use Rattle.csdf_analysis.specs.Laws.{IsWithinAll}
use Rattle.csdf_analysis.specs.Period.{held, held_after, no_firings, IsReached, CanGo}
use Rattle.csdf_analysis.specs.Running.{IsAt, IsStalled}
use Rattle.csdf_analysis.specs.Stalling.{AreWaits, IsEnd, IsStall, IsFull, IsShort, SaysOf}
use Rattle.csdf_analysis.proofs.CountLemmas.{less_or_not, sum_within, all_same}
use Rattle.csdf_analysis.proofs.PeriodLemmas.{after_length, fed_first, from_none, reached_fed, some_can_go}

-- ---- the counts at a stall

reached_length : (channels : List Channel) (q bounds n : List ℕ) → IsReached channels q bounds n → length n ≡ length q
reached_length channels q bounds n r = sym (ap length r.leads) ∙ after_length channels bounds (no_firings q) r.schedule ∙ length-replicate (length q) 0

-- a run that stands still at n went as far as any other
end_within : (channels : List Channel) (q bounds m n : List ℕ) → IsEnd channels q bounds m → IsEnd channels q bounds n → IsWithinAll m n
end_within channels q bounds m n me ne b = elim (less_or_not (get_or n b 0) (get_or m b 0)) [
  | inl less ↦
      let r = me.reached in
      let go = some_can_go channels m bounds bounds r.schedule (no_firings q) n (length-replicate (length q) 0
      ∙ sym (reached_length channels q bounds n ne.reached)) (λ i. omega arith) (fed_first channels (length q)) (reached_fed channels q bounds n ne.reached)
      (from_none q n) r.able r.leads b less in
      absurd (ne.stalled (go.0) (record { able = go.1.able; left = (let below = me.within (go.0) in let left = go.1.left in omega arith) }))
  | inr ge ↦ ge
]

pub end_only : (channels : List Channel) (q bounds n m : List ℕ) → IsEnd channels q bounds n → IsEnd channels q bounds m → m ≡ n
end_only channels q bounds n m ne me =
    let len : length m ≡ length n = reached_length channels q bounds m me.reached ∙ sym (reached_length channels q bounds n ne.reached) in
    let up = end_within channels q bounds m n me ne in
    let down = end_within channels q bounds n m ne me in
    let one = sum_within m n len up in
    let two = sum_within n m (sym len) down in
    all_same m n len up (omega arith)

pub stall_is : (channels seen : List Channel) (q firings capacities : List ℕ) (s : Stall) (made : ℕ) → seen ≡ channels → firings ≡ q
    → s.bounds.items ≡ capacities → IsAt seen firings s.bounds.items s.counts.items s.held.items made
    → IsStalled seen firings s.bounds.items s.counts.items → AreWaits seen firings s.bounds.items s.counts.items s.waits.items
    → IsStall channels q capacities s
stall_is channels seen q firings capacities s made same_channels same_firings same_bounds at stalled waits =
    let end : IsEnd seen firings s.bounds.items s.counts.items = record { reached = at.reached; within = at.within; stalled = stalled } in
    let there : IsStall seen firings s.bounds.items s = record {
      bounds = refl;
      end = end;
      only = λ n other. end_only seen firings s.bounds.items s.counts.items n end other;
      each_channel = at.each_length;
      held = at.held;
      waits = waits;
    } in
    subst (λ cs. IsStall cs q capacities s) same_channels
    (subst (λ ks. IsStall seen ks capacities s) same_firings (subst (λ ks. IsStall seen firings ks s) same_bounds there))

-- ---- what an actor waits for

-- no channel is short or full where none of the first k is, and there are no more
pub none_short : (channels : List Channel) (n : List ℕ) (a k : ℕ) → length channels ≤ k → ((i : ℕ) → i < k → IsShort channels n a i → ⊥) → (i : ℕ)
    → IsShort channels n a i → ⊥
none_short channels n a k all none i short = none i (let lt = slice_get_within channels i short.channel short.place in omega arith) short

pub none_full : (channels : List Channel) (bounds n : List ℕ) (a k : ℕ) → length channels ≤ k → ((i : ℕ) → i < k → IsFull channels bounds n a i → ⊥)
    → (i : ℕ) → IsFull channels bounds n a i → ⊥
none_full channels bounds n a k all none i full = none i (let lt = slice_get_within channels i full.channel full.place in omega arith) full

pub is_full : (channels : List Channel) (bounds n : List ℕ) (a i bound filled : ℕ) (v : Channel) → slice_get channels i ≡ Some v → v.from ≡ a
    → bound ≡ get_or bounds i 0 → ((c : Channel) → slice_get channels i ≡ Some c → filled ≡ held_after c.from n c)
    → (nat_lt bound filled ≡ true → IsFull channels bounds n a i) × (IsFull channels bounds n a i → nat_lt bound filled ≡ true)
is_full channels bounds n a i bound filled v at from bound_is filled_is = (
  λ yes.
      (let lt = ltb-true bound filled yes in
      let whole = filled_is v at in
      let there : held_after v.from n v ≡ held_after a n v = ap (λ b. held_after b n v) from in
      record { channel = v; place = at; output = from; many = omega arith }),
  λ full.
      (let whole = filled_is full.channel full.place in
      let there : held_after full.channel.from n full.channel ≡ held_after a n full.channel = ap (λ b. held_after b n full.channel) full.output in
      let many = full.many in
      lt-ltb bound filled (omega arith)),
)

-- an actor with firings left, with no short input and no full output, is able to fire
pub neither_short_nor_full : (channels : List Channel) (q bounds n : List ℕ) (a : ℕ) → a < length n → get_or n a 0 < get_or q a 0
    → ((i : ℕ) → IsShort channels n a i → ⊥) → ((i : ℕ) → IsFull channels bounds n a i → ⊥) → CanGo channels q bounds n a
neither_short_nor_full channels q bounds n a exists left short full = record {
  able = record {
    exists = exists;
    tokens = λ i c at to. elim (less_or_not (held c n) (consumption c (get_or n a 0))) [
      | inl less ↦ absurd (short i (record { channel = c; place = at; input = to; few = less }))
      | inr ge ↦ ge
    ];
    room = λ i c at from. elim (less_or_not (get_or bounds i 0) (held_after a n c)) [
      | inl less ↦ absurd (full i (record { channel = c; place = at; output = from; many = less }))
      | inr ge ↦ ge
    ];
  };
  left = left;
}

-- what is said of one actor more
pub says_next : (channels : List Channel) (q bounds n : List ℕ) (waits next : List (Option Wait)) (w : Option Wait) (a : ℕ) → length waits ≡ a
    → next ≡ waits ++ w ∷ [] → SaysOf channels q bounds n a w → EachIndex waits (λ b. SaysOf channels q bounds n b (slice_index_or waits b None))
    → EachIndex next (λ b. SaysOf channels q bounds n b (slice_index_or next b None))
says_next channels q bounds n waits next w a len pushed says each b here =
    let more : length next ≡ length waits + 1 = ap length pushed ∙ length-append waits (w ∷ []) in
    elim (cases_Bool (b == a)) [
      | inl y ↦
          let last : b ≡ a = eqb-true b a y in
          let read : slice_index_or next b None ≡ w = ap (λ ws. slice_index_or ws b None) pushed
          ∙ ap (λ k. slice_index_or (waits ++ w ∷ []) k None) (last ∙ sym len) ∙ get_or-append_seam waits w [] None in
          subst (λ v. SaysOf channels q bounds n b v) (sym read) (subst (λ k. SaysOf channels q bounds n k w) (sym last) says)
      | inr m ↦
          let differ = eqb-false b a m in
          let before : b < length waits = omega (arith, differ) in
          let read : slice_index_or next b None ≡ slice_index_or waits b None = ap (λ ws. slice_index_or ws b None) pushed
          ∙ get_or_append_left waits (w ∷ []) None b before in
          subst (λ v. SaysOf channels q bounds n b v) (sym read) (each b before)
    ]
