-- Where there are as many cells as the capacities add up to, none is lacking.
use Rattle.std.proofs.Common.{◌≡◌, ◌≢◌, ℕ, zero, suc, ◌+◌, ◌-◌, ◌<◌, ◌≤◌, List, [], ◌∷◌, inl, inr, length, get_or, set, refl, ap, sym, arith, Bool, true, false}
use Rattle.std.proofs.Common.{cond, Option, Some, None}
use Rattle.std.specs.Prelude.{ℤ, sum_by, nat_lt, ◌&&◌, not, option_map}
use Rattle.std.specs.List.{zip, range_with_len}
use Rattle.std.proofs.lemmas.List.Sums.{sum_by-cons}
use Rattle.std.proofs.lemmas.Bool.{ltb-true}
use Rattle.std.proofs.lemmas.Bool.Decides.{eqb_tells}
use Rattle.csdf_model.specs.Rates.{rate}
use Rattle.csdf_core.specs.declared.stage.Stage.{Stage}
use Rattle.csdf_core.specs.declared.stage.Stage.TheVariants.{Idle, Begun, Fetched, Written}
use Rattle.csdf_core.specs.declared.refusal.Refusal.{Refusal}
use Rattle.csdf_core.specs.declared.refusal.Refusal.TheVariants.{Busy, Spent, Closed, Dry, Short, Full, Stopped, NoCells}
use Rattle.csdf_core.specs.Plan.{Channel, Plan, takes_of, gives_of, HasAmpleCells}
use Rattle.csdf_core.specs.Rows.{is_closed, is_short, is_full, first, need, gift}
use Rattle.csdf_core.specs.State.{Present}
use Rattle.csdf_core.specs.Step.{count, stage, held, reserved, reserved_by, reserved_at, is_stage, is_spent, is_dry, is_stopped, lacks_cells, first_of, when}
use Rattle.csdf_core.specs.Step.{firing_table}
use Rattle.csdf_core.specs.Ready.{IsReady, IsFit}
use Rattle.csdf_core.proofs.Ready.{AreReady, begin_all}
use Rattle.csdf_core.proofs.RoomLemmas.{reserved_begun}
use Rattle.csdf_core.specs.Next.{begun}
use Rattle.csdf_core.proofs.Kept.{when_none, map_none, position_none, not_false, is_stage_true}

module _ (counts : List ℕ) (stages : List Stage) where
  -- what an actor is about to put into a channel beyond what it takes out of it
  abbrev share : ℕ → Channel → ℕ
  share a c = reserved_at (get_or stages a Idle) (takes_of a (get_or counts a 0) c) (gives_of a (get_or counts a 0) c)

  abbrev extra : Channel → ℕ
  extra c = share c.from c

  fits : (c : Channel) (t : List ℤ) → IsReady counts stages c t → length t + extra c ≤ c.capacity
  fits c t r = by (get_or stages c.from Idle) refl
    where
      by : (s : Stage) → get_or stages c.from Idle ≡ s
          → length t + reserved_at s (takes_of c.from (get_or counts c.from 0) c) (gives_of c.from (get_or counts c.from 0) c) ≤ c.capacity
      by Idle e = let h = r.fits in omega arith
      by Begun e = let h = r.fits in let g = r.begun e in omega arith
      by Fetched e = r.fetched e
      by Written e = let h = r.fits in omega arith

  all_fit : (cs : List Channel) (ts : List (List ℤ)) → length ts ≡ length cs → AreReady counts stages cs ts
      → sum_by length ts + sum_by extra cs ≤ sum_by (λ (c : Channel). c.capacity) cs
  all_fit [] [] e r = omega arith
  all_fit [] (t ∷ ts) e r = absurd (omega arith)
  all_fit (c ∷ cs) [] e r = absurd (omega arith)
  all_fit (c ∷ cs) (t ∷ ts) e r =
      omega (
        arith,
        sum_by-cons length t ts,
        sum_by-cons extra c cs,
        sum_by-cons (λ (d : Channel). d.capacity) c cs,
        fits c t r.0,
        all_fit cs ts (omega arith) r.1,
      )

  -- an actor reserves no more than its shares add up to
  shares_cover : (a : ℕ) (cs : List Channel)
      → reserved_at (get_or stages a Idle) (need a (get_or counts a 0) cs) (gift a (get_or counts a 0) cs) ≤ sum_by (share a) cs
  shares_cover a cs = by (get_or stages a Idle) cs
    where
      by : (s : Stage) (l : List Channel)
          → reserved_at s (need a (get_or counts a 0) l) (gift a (get_or counts a 0) l) ≤ sum_by
          (λ c. reserved_at s (takes_of a (get_or counts a 0) c) (gives_of a (get_or counts a 0) c)) l
      by Idle [] = omega arith
      by Begun [] = omega arith
      by Fetched [] = omega arith
      by Written [] = omega arith
      by Idle (c ∷ l) = omega arith
      by Written (c ∷ l) = omega arith
      by Begun (c ∷ l) =
          let k : ℕ = get_or counts a 0 in
          omega (
            arith,
            sum_by-cons (takes_of a k) c l,
            sum_by-cons (gives_of a k) c l,
            sum_by-cons (λ (d : Channel). gives_of a k d - takes_of a k d) c l,
            by Begun l,
          )
      by Fetched (c ∷ l) =
          let k : ℕ = get_or counts a 0 in
          omega (arith, sum_by-cons (gives_of a k) c l, by Fetched l)

  -- only its producer has a share in a channel
  no_share : (a : ℕ) (c : Channel) → c.from ≢ a → share a c ≡ 0
  no_share a c ne =
      let none : gives_of a (get_or counts a 0) c ≡ 0 =
      elim (eqb_tells c.from a) [ inl e ↦ absurd (ne e.1) | inr e ↦ ap (λ b. cond b (rate c.produce (get_or counts a 0)) 0) e.0 ] in
      by (get_or stages a Idle) none
    where
      by : (s : Stage) → gives_of a (get_or counts a 0) c ≡ 0 → reserved_at s (takes_of a (get_or counts a 0) c) (gives_of a (get_or counts a 0) c) ≡ 0
      by Idle e = refl
      by Begun e = omega arith
      by Fetched e = e
      by Written e = refl

  past : (c : Channel) (k n : ℕ) → c.from < k → sum_by (λ a. share a c) (range_with_len k n) ≡ 0
  past c k zero lt = refl
  past c k (suc n) lt = omega (
    arith,
    sum_by-cons (λ a. share a c) k (range_with_len (k + 1) n),
    no_share k c (λ e. omega arith),
    past c (k + 1) n (omega arith),
  )

  one_share : (c : Channel) (k n : ℕ) → sum_by (λ a. share a c) (range_with_len k n) ≤ extra c
  one_share c k zero = omega arith
  one_share c k (suc n) = elim (eqb_tells c.from k) [
    | inl e ↦ let same : share k c ≡ extra c = ap (λ a. share a c) (sym e.1) in
        omega (arith, sum_by-cons (λ a. share a c) k (range_with_len (k + 1) n), same, past c (k + 1) n (let f = e.1 in omega arith))
    | inr e ↦ omega (arith, sum_by-cons (λ a. share a c) k (range_with_len (k + 1) n), no_share k c e.1, one_share c (k + 1) n)
  ]

  none_over : (ns : List ℕ) → sum_by (λ a. sum_by (share a) []) ns ≡ 0
  none_over [] = refl
  none_over (a ∷ ns) = omega (arith, sum_by-cons (λ b. sum_by (share b) []) a ns, none_over ns)

  split : (c : Channel) (cs : List Channel) (ns : List ℕ)
      → sum_by (λ a. sum_by (share a) (c ∷ cs)) ns ≡ sum_by (λ a. share a c) ns + sum_by (λ a. sum_by (share a) cs) ns
  split c cs [] = refl
  split c cs (a ∷ ns) =
      omega (
        arith,
        sum_by-cons (λ b. sum_by (share b) (c ∷ cs)) a ns,
        sum_by-cons (λ b. share b c) a ns,
        sum_by-cons (λ b. sum_by (share b) cs) a ns,
        sum_by-cons (share a) c cs,
        split c cs ns,
      )

  all_shares : (cs : List Channel) (n : ℕ) → sum_by (λ a. sum_by (share a) cs) (range_with_len 0 n) ≤ sum_by extra cs
  all_shares [] n = let e = none_over (range_with_len 0 n) in omega arith
  all_shares (c ∷ cs) n = omega (arith, split c cs (range_with_len 0 n), sum_by-cons extra c cs, one_share c 0 n, all_shares cs n)

  covered : (f : ℕ → ℕ) (g : ℕ → ℕ) (ns : List ℕ) → ((a : ℕ) → f a ≤ g a) → sum_by f ns ≤ sum_by g ns
  covered f g [] le = omega arith
  covered f g (a ∷ ns) le = omega (arith, sum_by-cons f a ns, sum_by-cons g a ns, le a, covered f g ns le)

-- no more is held and reserved than the capacities add up to
pub within_capacities : (plan : Plan) (p : Present) → length p.tokens ≡ length plan.channels → AreReady p.counts p.stages plan.channels p.tokens
    → held p + reserved plan p ≤ sum_by (λ (c : Channel). c.capacity) plan.channels
within_capacities plan p len ready =
    let ns : List ℕ = range_with_len 0 (length plan.sources) in
    let here = all_fit p.counts p.stages plan.channels p.tokens len ready in
    let more = covered p.counts p.stages (reserved_by plan p) (λ a. sum_by (share p.counts p.stages a) plan.channels) ns
    (λ a. shares_cover p.counts p.stages a plan.channels) in
    let all = all_shares p.counts p.stages plan.channels (length plan.sources) in
    omega arith

-- a table whose only entry for want of cells is its last
skip : (o : Option Refusal) (table : List (Option Refusal)) → (o ≡ Some NoCells → ⊥) → first_of (o ∷ table) ≡ Some NoCells → (o ≡ None)
    × (first_of table ≡ Some NoCells)
skip None table ne e = (refl, e)
skip (Some r) table ne e = absurd (ne e)

not_when : (b : Bool) (r : Refusal) → r ≢ NoCells → when b r ≡ Some NoCells → ⊥
not_when true r ne e = ne (inside e)
  where
    inside : Some r ≡ Some NoCells → r ≡ NoCells
    inside same = cc
not_when false r ne e = absurd (cc)

not_map : (f : ℕ → Refusal) (o : Option ℕ) → ((n : ℕ) → f n ≢ NoCells) → option_map f o ≡ Some NoCells → ⊥
not_map f None ne e = absurd (cc)
not_map f (Some n) ne e = ne n (inside e)
  where
    inside : Some (f n) ≡ Some NoCells → f n ≡ NoCells
    inside same = cc

last_when : (b : Bool) → first_of (when b NoCells ∷ []) ≡ Some NoCells → b ≡ true
last_when true e = refl
last_when false e = absurd (cc)

both_true : (b c : Bool) → (b && c) ≡ true → (b ≡ true) × (c ≡ true)
both_true true true e = (refl, refl)
both_true true false e = absurd (cc)
both_true false c e = absurd (cc)

pub none_lacking : (plan : Plan) (p : Present) (a : ℕ) → a < length plan.sources → IsFit plan p → HasAmpleCells plan
    → first_of (firing_table plan p a) ≢ Some NoCells
none_lacking plan p a there fit ample e =
    let y : ℕ = need a (count p a) plan.channels in
    let x : ℕ = gift a (count p a) plan.channels in
    let busy : Option Refusal = when (not (is_stage (stage p a) Idle)) Busy in
    let spent : Option Refusal = when (is_spent plan p a) Spent in
    let closed : Option Refusal = option_map Closed (first (is_closed a) plan.channels p.opens) in
    let dry : Option Refusal = when (is_dry plan p a) Dry in
    let short : Option Refusal = option_map Short (first (is_short a (count p a)) plan.channels p.tokens) in
    let full : Option Refusal = option_map Full (first (is_full a (count p a)) plan.channels p.tokens) in
    let stopped : Option Refusal = when (is_stopped plan p) Stopped in
    let last : List (Option Refusal) = when (lacks_cells plan p a) NoCells ∷ [] in
    let s2 = skip busy (spent ∷ closed ∷ dry ∷ short ∷ full ∷ stopped ∷ last) (not_when _ Busy (λ q. absurd (cc))) e in
    let s3 = skip spent (closed ∷ dry ∷ short ∷ full ∷ stopped ∷ last) (not_when _ Spent (λ q. absurd (cc))) s2.1 in
    let s4 = skip closed (dry ∷ short ∷ full ∷ stopped ∷ last) (not_map Closed _ (λ n q. absurd (cc))) s3.1 in
    let s5 = skip dry (short ∷ full ∷ stopped ∷ last) (not_when _ Dry (λ q. absurd (cc))) s4.1 in
    let s6 = skip short (full ∷ stopped ∷ last) (not_map Short _ (λ n q. absurd (cc))) s5.1 in
    let s7 = skip full (stopped ∷ last) (not_map Full _ (λ n q. absurd (cc))) s6.1 in
    let s8 = skip stopped last (not_when _ Stopped (λ q. absurd (cc))) s7.1 in
    let lacks : lacks_cells plan p a ≡ true = last_when _ s8.1 in
    let idle : stage p a ≡ Idle = is_stage_true (stage p a) Idle (not_false _ (when_none _ Busy s2.0)) in
    let enough = position_none (is_short a (count p a)) 0 (zip plan.channels p.tokens) (map_none Short _ s6.0) in
    let room = position_none (is_full a (count p a)) 0 (zip plan.channels p.tokens) (map_none Full _ s7.0) in
    let lt : a < length p.stages = let staged = fit.staged in omega arith in
    let ready : AreReady p.counts (set p.stages a Begun) plan.channels p.tokens = begin_all p a plan.channels p.tokens lt enough room fit.ready in
    let within = within_capacities plan (begun p a) fit.queued ready in
    let more = reserved_begun plan p a there lt idle in
    let parts = both_true (nat_lt y x) (nat_lt plan.cells (held p + reserved plan p + (x - y))) lacks in
    let less = ltb-true plan.cells (held p + reserved plan p + (x - y)) parts.1 in
    omega (arith, within, more, less, ample)
