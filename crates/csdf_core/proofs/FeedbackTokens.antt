-- A channel from an actor to itself, through one firing.
use Rattle.std.proofs.Common.{◌≡◌, ◌≢◌, ℕ, zero, suc, ◌+◌, ◌-◌, ◌*◌, ◌<◌, ◌≤◌, ◌==◌, cond, Bool, false, inl, inr, List, [], ◌∷◌, ◌++◌, length}
use Rattle.std.proofs.Common.{get_or, take, drop, map, refl, ap, ◌∙◌, sym, arith, le-ltb, None}
use Rattle.std.specs.Prelude.{ℤ}
use Rattle.std.specs.List.{AllByRecursion}
use Rattle.std.proofs.lemmas.Bool.{eq-eqb, ne_eqb}
use Rattle.std.proofs.lemmas.Bool.Decides.{eqb_tells}
use Rattle.std.proofs.lemmas.List.{drop_all, length-drop, length-take-le}
use Rattle.std.proofs.lemmas.List.Sums.{sum_by-cons}
use Rattle.csdf_model.specs.Graph.{numbers_from}
use Rattle.csdf_model.specs.Rates.{rate}
use Rattle.csdf_core.specs.Blocks.{takes_at, gives_at, HoldAll, capacity_at}
use Rattle.csdf_core.specs.Feedback.{HaveRoomFor}
use Rattle.csdf_core.specs.Feedback.{KeepsState, GoesOn, asks_at, fills_at, before_of}
use Rattle.csdf_core.specs.Going.{CanGo}
use Rattle.csdf_core.specs.Moves.{Begin}
use Rattle.csdf_core.specs.Plan.{Channel, Plan, from_at, to_at, produce_at, consume_at, takes_of, gives_of}
use Rattle.csdf_core.specs.Ports.{inputs_at, outputs_at, take_at, give_at, own_take_at, tokens_at, short_at, full_at}
use Rattle.csdf_core.specs.Ready.{IsFit}
use Rattle.csdf_core.specs.Rows.{left, joined, shares, need, gift, is_short, is_full, first}
use Rattle.csdf_core.specs.State.{Present}
use Rattle.csdf_core.specs.Step.{count, lacks_cells, refusal, first_of, when, begun_count, held, reserved}
use Rattle.csdf_core.specs.declared.refusal.Refusal.TheVariants.{Stopped, NoCells}
use Rattle.csdf_core.proofs.Accepting.{begin_is}
use Rattle.csdf_core.proofs.BlockBegins.{none_found, above, not_reached, dry_free, and_none}
use Rattle.csdf_core.proofs.BlockPorts.{both, each}
use Rattle.csdf_core.proofs.BlockTokens.{left_at, length-left}
use Rattle.csdf_core.proofs.Joined.{joined_other}
use Rattle.csdf_core.proofs.Lanes.{own_give_at, given_before, joined_part, part_within, own_give}
use Rattle.csdf_core.proofs.OnePhase.{rate_one, take_is, give_is}
use Rattle.csdf_core.proofs.OwnChannels.{ins_own, ins_there}
use Rattle.csdf_core.proofs.PortLemmas.{first_short, first_full, own_take}

-- ---- what is asked of the channel to itself, and of the others
asks_own : (cs : List Channel) (own k n : ℕ) → asks_at cs own k n own ≡ take_at cs k own
asks_own cs own k n = ap (λ (b : Bool). cond b (take_at cs k own) (takes_at cs k n own)) (eq-eqb own own refl)

pub asks_other : (cs : List Channel) (own k n c : ℕ) → (c == own) ≡ false → asks_at cs own k n c ≡ takes_at cs k n c
asks_other cs own k n c e = ap (λ (b : Bool). cond b (take_at cs k c) (takes_at cs k n c)) e

fills_own : (cs : List Channel) (own k n : ℕ) → fills_at cs own k n own ≡ 0
fills_own cs own k n = ap (λ (b : Bool). cond b 0 (gives_at cs k n own)) (eq-eqb own own refl)

fills_other : (cs : List Channel) (own k n c : ℕ) → (c == own) ≡ false → fills_at cs own k n c ≡ gives_at cs k n c
fills_other cs own k n c e = ap (λ (b : Bool). cond b 0 (gives_at cs k n c)) e

-- ---- what comes before the channel in a firing's tokens, by the numbers of the outputs
before_is : (a k : ℕ) (cs : List Channel) (i c : ℕ) (amount : ℕ → ℕ)
    → ((j : ℕ) → j < length cs → amount (i + j) ≡ get_or (map (λ (x : Channel). rate x.produce k) cs) j 0)
    → c < length cs → from_at cs c ≡ a → before_of amount (numbers_from i (λ x. x.from == a) cs) (i + c) ≡ given_before cs a k c
before_is a k [] i c amount same lt is = absurd (omega arith)
before_is a k (x ∷ cs) i zero amount same lt is =
    let here : numbers_from i (λ y. y.from == a) (x ∷ cs) ≡ i ∷ numbers_from (suc i) (λ y. y.from == a) cs =
    ap (λ (b : Bool). cond b (i ∷ numbers_from (suc i) (λ y. y.from == a) cs) (numbers_from (suc i) (λ y. y.from == a) cs)) (eq-eqb x.from a is) in
    ap (λ (ns : List ℕ). before_of amount ns (i + zero)) here
    ∙ ap (λ (b : Bool). cond b 0 (amount i + before_of amount (numbers_from (suc i) (λ y. y.from == a) cs) (i + zero)))
    (eq-eqb i (i + zero) (let e : i ≡ i + zero = omega arith in e))
before_is a k (x ∷ cs) i (suc c) amount same lt is =
    let later : List ℕ = numbers_from (suc i) (λ y. y.from == a) cs in
    let e : i + suc c ≡ suc i + c = omega arith in
    let rest : before_of amount later (suc i + c) ≡ given_before cs a k c = before_is a k cs (suc i) c amount
    (λ j l. ap amount (let z : suc i + j ≡ i + suc j = omega arith in z) ∙ same (suc j) (omega (arith, l))) (omega (arith, lt)) is in
    let mine : amount i ≡ rate x.produce k = ap amount (let z : i ≡ i + 0 = omega arith in z) ∙ same 0 (omega arith) in
    let all = sum_by-cons (gives_of a k) x (take c cs) in
    let g : before_of amount (cond (x.from == a) (i ∷ later) later) (i + suc c) ≡ given_before (x ∷ cs) a k (suc c) = elim (eqb_tells x.from a) [
      | inl o ↦
          let gives : gives_of a k x ≡ rate x.produce k = ap (λ (b : Bool). cond b (rate x.produce k) 0) o.0 in
          let other : (i == (i + suc c)) ≡ false = ne_eqb i (i + suc c) (λ same_number. absurd (omega (arith, same_number))) in
          let unfolded : before_of amount (cond (x.from == a) (i ∷ later) later) (i + suc c) ≡ amount i + before_of amount later (suc i + c) =
          ap (λ (b : Bool). before_of amount (cond b (i ∷ later) later) (i + suc c)) o.0
          ∙ ap (λ (b : Bool). cond b 0 (amount i + before_of amount later (i + suc c))) other
          ∙ ap (λ (d : ℕ). amount i + before_of amount later d) e in
          let r : before_of amount (cond (x.from == a) (i ∷ later) later) (i + suc c) ≡ given_before (x ∷ cs) a k (suc c) =
          omega (arith, unfolded, rest, mine, all, gives) in
          r
      | inr o ↦
          let gives : gives_of a k x ≡ 0 = ap (λ (b : Bool). cond b (rate x.produce k) 0) o.0 in
          let unfolded : before_of amount (cond (x.from == a) (i ∷ later) later) (i + suc c) ≡ before_of amount later (suc i + c) =
          ap (λ (b : Bool). before_of amount (cond b (i ∷ later) later) (i + suc c)) o.0
          ∙ ap (before_of amount later) e in
          let r : before_of amount (cond (x.from == a) (i ∷ later) later) (i + suc c) ≡ given_before (x ∷ cs) a k (suc c) =
          omega (arith, unfolded, rest, all, gives) in
          r
    ] in
    g

-- ---- the same, added up output by output
pub before_given : (cs : List Channel) (a k c : ℕ) → c < length cs → from_at cs c ≡ a → before_of (give_at cs k) (outputs_at cs a) c ≡ given_before cs a k c
before_given cs a k c lt from =
    ap (before_of (give_at cs k) (outputs_at cs a)) (let z : c ≡ 0 + c = omega arith in z)
    ∙ before_is a k cs 0 c (give_at cs k) (λ j lt'. ap (give_at cs k) (let z : 0 + j ≡ j = omega arith in z)) lt from

pub before_step : (f : ℕ → ℕ) (xs : List ℕ) (i own s total : ℕ) → i < length xs → (get_or xs i 0 ≡ own → ⊥) → s + before_of f (drop i xs) own ≡ total
    → s + f (get_or xs i 0) + before_of f (drop (i + 1) xs) own ≡ total
before_step f [] i own s total lt ne e = absurd (omega arith)
before_step f (x ∷ xs) zero own s total lt ne e =
    let u : before_of f (x ∷ xs) own ≡ f x + before_of f xs own = ap (λ (b : Bool). cond b 0 (f x + before_of f xs own)) (ne_eqb x own ne) in
    omega (arith, e, u)
before_step f (x ∷ xs) (suc i) own s total lt ne e =
    ap (λ (j : ℕ). s + f (get_or xs i 0) + before_of f (drop j (x ∷ xs)) own) (let z : suc i + 1 ≡ suc (i + 1) = omega arith in z)
    ∙ before_step f xs i own s total (omega (arith, lt)) ne e

pub before_here : (f : ℕ → ℕ) (xs : List ℕ) (i own s total : ℕ) → i < length xs → get_or xs i 0 ≡ own → s + before_of f (drop i xs) own ≡ total → s ≡ total
before_here f [] i own s total lt is e = absurd (omega arith)
before_here f (x ∷ xs) zero own s total lt is e =
    let u : before_of f (x ∷ xs) own ≡ 0 = ap (λ (b : Bool). cond b 0 (f x + before_of f xs own)) (eq-eqb x own is) in
    omega (arith, e, u)
before_here f (x ∷ xs) (suc i) own s total lt is e = before_here f xs i own s total (omega (arith, lt)) is e

pub before_done : (f : ℕ → ℕ) (xs : List ℕ) (i own s total : ℕ) → length xs ≤ i → s + before_of f (drop i xs) own ≡ total → s ≡ total
before_done f xs i own s total le e =
    let none : before_of f (drop i xs) own ≡ 0 = ap (λ (ys : List ℕ). before_of f ys own) (drop_all i xs le) in
    omega (arith, none, e)

module _ (plan : Plan) (a own : ℕ) (keeps : KeepsState plan a own) where
  abbrev cs : List Channel
  cs = plan.channels

  abbrev ins : List ℕ
  ins = inputs_at cs a

  abbrev outs : List ℕ
  outs = outputs_at cs a

  -- the channel to itself moves the same at each firing
  pub state_takes : (j k : ℕ) → take_at cs j own ≡ take_at cs k own
  state_takes j k =
      take_is cs j own keeps.there ∙ rate_one (consume_at cs own) j k (keeps.phases.takes own keeps.there keeps.to_it) ∙ sym (take_is cs k own keeps.there)

  pub state_gives : (k : ℕ) → give_at cs k own ≡ take_at cs k own
  state_gives k =
      give_is cs k own keeps.there ∙ rate_one (produce_at cs own) k 0 (keeps.phases.gives own keeps.there keeps.from_it) ∙ sym (give_is cs 0 own keeps.there)
      ∙ keeps.even ∙ state_takes 0 k

  -- it is a part of all that a firing takes, and of all that it gives
  pub state_needed : (k : ℕ) → take_at cs k own ≤ need a k cs
  state_needed k =
      let e : take_at cs k own ≡ own_take_at cs a k own = own_take a k cs own keeps.to_it keeps.there in
      let w = part_within (takes_of a k) cs own keeps.there in
      omega (arith, e, w)

  pub state_given : (k : ℕ) → given_before cs a k own + take_at cs k own ≤ gift a k cs
  state_given k =
      let e = own_give a k cs own keeps.from_it keeps.there in
      let s = state_gives k in
      let w = part_within (gives_of a k) cs own keeps.there in
      omega (arith, e, s, w)

  -- what the firing gives to others before it
  pub state_before : (k : ℕ) → before_of (give_at cs k) outs own ≡ given_before cs a k own
  state_before k = before_given cs a k own keeps.there keeps.from_it

  pub ins_all : AllByRecursion (λ c. (c < length cs) × (to_at cs c ≡ a)) ins
  ins_all = both ins (λ c (lt : c < length cs) (e : to_at cs c ≡ a). (lt, e)) (ins_there cs a) (ins_own cs a)

  -- each input holds what the next firing takes
  pub all_there : (k n : ℕ) (ts : List (List ℤ)) → HoldAll ts (asks_at cs own k (suc n)) ins
      → AllByRecursion (λ c. take_at cs k c ≤ length (tokens_at ts c)) ins
  all_there k n ts hold =
      each ins
      (λ c (x : asks_at cs own k (suc n) c ≤ length (tokens_at ts c)).
      (let r : take_at cs k c ≤ length (tokens_at ts c) = elim (eqb_tells c own) [
        | inl e ↦ (let s = ap (asks_at cs own k (suc n)) e.1 ∙ asks_own cs own k (suc n) in let t = ap (take_at cs k) e.1 in omega (arith, x, s, t))
        | inr e ↦ (let s = asks_other cs own k (suc n) c e.0 in omega (arith, x, s))
      ] in r)) hold

  -- ---- the next firing begins
  module _ (p : Present) (n : ℕ) (fit : IsFit plan p) (h : GoesOn plan p a own (count p a) (suc n)) where
    abbrev k : ℕ
    k = count p a

    not_short : first (is_short a k) cs p.tokens ≡ None
    not_short =
        let none : AllByRecursion (λ c. short_at cs k p.tokens c ≡ false) ins = each ins
        (λ c (x : take_at cs k c ≤ length (tokens_at p.tokens c)). le-ltb (length (tokens_at p.tokens c)) (take_at cs k c) x)
        (all_there k n p.tokens h.tokens) in
        sym (first_short a k cs p.tokens fit.queued) ∙ none_found (short_at cs k p.tokens) ins none

    not_full : first (is_full a k) cs p.tokens ≡ None
    not_full =
        let taken : own_take_at cs a k own ≡ take_at cs k own = sym (own_take a k cs own keeps.to_it keeps.there) in
        let none : AllByRecursion (λ c. full_at cs a k p.tokens c ≡ false) outs = each outs
        (λ c (x : length (tokens_at p.tokens c) + fills_at cs own k (suc n) c ≤ capacity_at cs c).
        le-ltb (capacity_at cs c) (length (tokens_at p.tokens c) - own_take_at cs a k c + give_at cs k c) (elim (eqb_tells c own) [
          | inl e ↦
              (let s = ap (own_take_at cs a k) e.1 in let t = ap (give_at cs k) e.1 in let l = ap (λ (d : ℕ). length (tokens_at p.tokens d)) e.1 in
              let g = state_gives k in let st = h.state in omega (arith, x, s, t, l, g, st, taken))
          | inr e ↦ (let s = fills_other cs own k (suc n) c e.0 in omega (arith, x, s))
        ])) h.room in
        sym (first_full a k cs p.tokens fit.queued) ∙ none_found (full_at cs a k p.tokens) outs none

    can_go : CanGo plan p a
    can_go = record {
      exists = h.there;
      idle = h.idle;
      not_spent = above _ _ (let l = h.limit in omega (arith, l));
      not_dry = dry_free _ _ _ (λ source. absurd (let e = sym source ∙ keeps.no_source in cc));
      not_short = not_short;
      not_full = not_full;
    }

    enough_cells : lacks_cells plan p a ≡ false
    enough_cells =
        and_none _ _
        (le-ltb plan.cells (held p + reserved plan p + (gift a k cs - need a k cs))
        (let c = h.cells in let s = state_needed k in
        let m : (gift a k cs - take_at cs k own) ≤ suc n * (gift a k cs - take_at cs k own) = omega arith in
        omega (arith, c, s, m)))

    pub goes_next : refusal plan p (Begin a) ≡ None
    goes_next =
        begin_is plan p a h.opens can_go
        ∙ ap (λ (b : Bool). first_of (when b Stopped ∷ when (lacks_cells plan p a) NoCells ∷ [])) (not_reached plan.firings (begun_count p) n h.firings)
        ∙ ap (λ (b : Bool). first_of (when false Stopped ∷ when b NoCells ∷ [])) enough_cells

  -- ---- the channels after a firing
  module _ (k n : ℕ) (ts : List (List ℤ)) (v : List ℤ) (queued : length ts ≡ length cs) (whole : length v ≡ gift a k cs)
      (state : length (tokens_at ts own) ≡ take_at cs k own) where
    abbrev pub later : List (List ℤ)
    later = joined (left a k cs ts) (shares a k cs v)

    -- the channel to itself holds what the firing gave back
    pub state_after : tokens_at later own ≡ take (take_at cs k own) (drop (given_before cs a k own) v)
    state_after =
        let taken : own_take_at cs a k own ≡ take_at cs k own = sym (own_take a k cs own keeps.to_it keeps.there) in
        joined_part a k cs (left a k cs ts) v own (length-left a k cs ts queued) keeps.there
        ∙ ap (λ (u : List ℤ). u ++ take (own_give_at cs a k own) (drop (given_before cs a k own) v))
        (left_at a k cs ts own queued keeps.there ∙ drop_all (own_take_at cs a k own) (tokens_at ts own) (omega (arith, taken, state)))
        ∙ ap (λ (m : ℕ). take m (drop (given_before cs a k own) v)) (sym (own_give a k cs own keeps.from_it keeps.there) ∙ state_gives k)

    pub state_length : length (tokens_at later own) ≡ take_at cs k own
    state_length =
        ap length state_after
        ∙ length-take-le (take_at cs k own) (drop (given_before cs a k own) v)
        (let d = length-drop (given_before cs a k own) v in let w = state_given k in omega (arith, d, w, whole))

    -- any other input has lost what the firing took
    pub other_after : (c : ℕ) → c < length cs → to_at cs c ≡ a → from_at cs c ≢ a → tokens_at later c ≡ drop (take_at cs k c) (tokens_at ts c)
    other_after c lt to ne =
        joined_other a k cs (left a k cs ts) v c (length-left a k cs ts queued) lt ne ∙ left_at a k cs ts c queued lt
        ∙ ap (λ (m : ℕ). drop m (tokens_at ts c)) (sym (own_take a k cs c to lt))

    pub tokens_after : HoldAll ts (asks_at cs own k (suc n)) ins → HoldAll later (asks_at cs own (suc k) n) ins
    tokens_after hold =
        both ins
        (λ c (x : (c < length cs) × (to_at cs c ≡ a)) (y : (c ≢ own → from_at cs c ≢ a) × (asks_at cs own k (suc n) c ≤ length (tokens_at ts c))).
        (let r : asks_at cs own (suc k) n c ≤ length (tokens_at later c) = elim (eqb_tells c own) [
          | inl e ↦
              (let s = ap (asks_at cs own (suc k) n) e.1 ∙ asks_own cs own (suc k) n ∙ state_takes (suc k) k in
              let l = ap (λ (d : ℕ). length (tokens_at later d)) e.1 ∙ state_length in omega (arith, s, l))
          | inr e ↦
              (let s = asks_other cs own (suc k) n c e.0 in let t = asks_other cs own k (suc n) c e.0 in
              let l = ap length (other_after c x.0 x.1 (y.0 e.1)) in let d = length-drop (take_at cs k c) (tokens_at ts c) in
              let h = y.1 in omega (arith, s, t, l, d, h))
        ] in r))
        ins_all
        (both ins (λ c (ne : c ≢ own → from_at cs c ≢ a) (h : asks_at cs own k (suc n) c ≤ length (tokens_at ts c)). (ne, h)) keeps.alone hold)

    pub room_after : AllByRecursion (λ d. length (tokens_at later d) ≤ length (tokens_at ts d) + give_at cs k d) outs
        → HaveRoomFor cs ts (fills_at cs own k (suc n)) outs → HaveRoomFor cs later (fills_at cs own (suc k) n) outs
    room_after grown room =
        both outs
        (λ c (x : length (tokens_at later c) ≤ length (tokens_at ts c) + give_at cs k c)
        (y : length (tokens_at ts c) + fills_at cs own k (suc n) c ≤ capacity_at cs c).
        (let r : length (tokens_at later c) + fills_at cs own (suc k) n c ≤ capacity_at cs c = elim (eqb_tells c own) [
          | inl e ↦
              (let s = ap (fills_at cs own (suc k) n) e.1 ∙ fills_own cs own (suc k) n in
              let l = ap (λ (d : ℕ). length (tokens_at later d)) e.1 ∙ state_length ∙ sym state ∙ ap (λ (d : ℕ). length (tokens_at ts d)) (sym e.1) in
              omega (arith, s, l, y))
          | inr e ↦
              (let s = fills_other cs own (suc k) n c e.0 in let t = fills_other cs own k (suc n) c e.0 in omega (arith, s, t, x, y))
        ] in r)) grown room

-- an actor that can go on with some firings begins the first of them
pub goes_some : (plan : Plan) (p : Present) (a own n : ℕ) → IsFit plan p → 0 < n → KeepsState plan a own → GoesOn plan p a own (count p a) n
    → refusal plan p (Begin a) ≡ None
goes_some plan p a own zero fit some keeps h = absurd (omega arith)
goes_some plan p a own (suc n) fit some keeps h = goes_next plan a own keeps p n fit h
