-- What whole cycles of an actor's phases move.
use Rattle.std.proofs.Common.{◌≡◌, ◌≢◌, ℕ, zero, suc, ◌+◌, ◌-◌, ◌*◌, ◌/◌, ◌%◌, ◌<◌, ◌≤◌, List, [], ◌∷◌, length, get_or, inl, inr, ◌⊎◌, ap, ap₂, ◌∙◌, sym, refl, arith, Option, Some, None}
use Rattle.std.specs.Prelude.{ℤ, IfSome}
use Rattle.std.specs.List.{zip, AllByRecursion}
use Rattle.std.proofs.Math.Nat.{suc-mul, mul-add, mul-le-mul_right, mul-le-mul_left, add-mod_right, mod-add-div'}
use Rattle.std.proofs.lemmas.Bool.Decides.{eqb_tells}
use Rattle.csdf_model.specs.Rates.{rate}
use Rattle.csdf_core.specs.declared.side.Side.TheVariants.{Input, Output}
use Rattle.csdf_core.specs.Blocks.{gifts_of, needs_of, takes_at, gives_at, capacity_at}
use Rattle.csdf_core.specs.Engine.{FindsIn, FindsOut, FindsNext, GoesRound, IsHeld, HasRoom}
use Rattle.csdf_core.specs.Phases.{HasPhases}
use Rattle.csdf_core.specs.Plan.{Plan, Channel, from_at, to_at, produce_at, consume_at}
use Rattle.csdf_core.specs.Ports.{inputs_at, outputs_at, take_at, give_at, own_take_at, tokens_at}
use Rattle.csdf_core.specs.Ready.{IsReady, IsFit}
use Rattle.csdf_core.specs.Rows.{Row, need, gift}
use Rattle.csdf_core.specs.State.{Present}
use Rattle.csdf_core.specs.Step.{count, held, reserved}
use Rattle.csdf_core.specs.declared.stage.Stage.{Stage}
use Rattle.csdf_core.proofs.BlockPorts.{by_places}
use Rattle.csdf_core.proofs.Lanes.{own_give_at, own_give}
use Rattle.csdf_core.proofs.Finds.{sums, took, gave, FindsFor}
use Rattle.csdf_core.proofs.OnePhase.{take_is, give_is}
use Rattle.csdf_core.proofs.OwnChannels.{moved_alike}
use Rattle.csdf_core.proofs.PhaseLemmas.{of_own}
use Rattle.csdf_core.proofs.PortLemmas.{own_take, own_take_none}

-- ---- sums of a function
module _ (f : ℕ → ℕ) where
  pub sums_more : (k n : ℕ) → sums f k (suc n) ≡ sums f k n + f (k + n)
  sums_more k zero = let e = ap f (let z : k + 0 ≡ k = omega arith in z) in omega (arith, e)
  sums_more k (suc n) = let e = ap f (let z : suc k + n ≡ k + suc n = omega arith in z) in omega (arith, e, sums_more (suc k) n)

  pub sums_add : (k m n : ℕ) → sums f k (m + n) ≡ sums f k m + sums f (k + m) n
  sums_add k zero n =
      let e = ap (sums f k) (let z : 0 + n ≡ n = omega arith in z) in
      let d = ap (λ j. sums f j n) (let z : k + 0 ≡ k = omega arith in z) in
      omega (arith, e, d)
  sums_add k (suc m) n =
      let e = ap (sums f k) (let z : suc m + n ≡ suc (m + n) = omega arith in z) in
      let d = ap (λ j. sums f j n) (let z : suc k + m ≡ k + suc m = omega arith in z) in
      omega (arith, e, d, sums_add (suc k) m n)

  pub sums_fewer : (k m n : ℕ) → m ≤ n → sums f k m ≤ sums f k n
  sums_fewer k zero n le = omega arith
  sums_fewer k (suc m) zero le = absurd (omega arith)
  sums_fewer k (suc m) (suc n) le = omega (arith, sums_fewer (suc k) m n (omega (arith, le)))

  -- of a function that comes round
  module _ (p : ℕ) (round : (j : ℕ) → f (j + p) ≡ f j) where
    shift : (k : ℕ) → sums f (suc k) p ≡ sums f k p
    shift k = omega (arith, sums_more k p, round k)

    pub shifts : (k i : ℕ) → sums f (k + i) p ≡ sums f k p
    shifts k zero = ap (λ j. sums f j p) (let z : k + 0 ≡ k = omega arith in z)
    shifts k (suc i) = ap (λ j. sums f j p) (let z : k + suc i ≡ suc (k + i) = omega arith in z) ∙ shift (k + i) ∙ shifts k i

    pub cycles : (k m : ℕ) → sums f k (m * p) ≡ m * sums f k p
    cycles k zero =
        let e = ap (sums f k) (let z : 0 * p ≡ 0 = omega arith in z) in
        let z : 0 * sums f k p ≡ 0 = omega arith in
        omega (arith, e, z)
    cycles k (suc m) =
        let e = ap (sums f k) (let z : suc m * p ≡ p + m * p = omega (arith, suc-mul m p) in z) in
        let rest : sums f (k + p) (m * p) ≡ m * sums f k p = cycles (k + p) m ∙ ap (λ x. m * x) (shifts k p) in
        let t = suc-mul m (sums f k p) in
        omega (arith, e, sums_add k p (m * p), rest, t)

    round_many : (j q : ℕ) → f (j + q * p) ≡ f j
    round_many j zero = ap f (let z : j + 0 * p ≡ j = omega arith in z)
    round_many j (suc q) = ap f (let z : j + suc q * p ≡ (j + q * p) + p = omega (arith, suc-mul q p) in z) ∙ round (j + q * p) ∙ round_many j q

    later : (k q n : ℕ) → sums f (k + q * p) n ≡ sums f k n
    later k q zero = refl
    later k q (suc n) =
        let e = ap (λ j. sums f j n) (let z : suc (k + q * p) ≡ suc k + q * p = omega arith in z) in
        omega (arith, e, round_many k q, later (suc k) q n)

    -- some cycles, and a part of the next
    pub cycles_part : (k q n : ℕ) → sums f k (q * p + n) ≡ q * sums f k p + sums f k n
    cycles_part k q n = omega (arith, sums_add k (q * p) n, cycles k q, later k q n)

pub sums_same : (f g : ℕ → ℕ) → ((j : ℕ) → f j ≡ g j) → (k n : ℕ) → sums f k n ≡ sums g k n
sums_same f g same k zero = refl
sums_same f g same k (suc n) = omega (arith, same k, sums_same f g same (suc k) n)

pub sums_none : (f : ℕ → ℕ) → ((j : ℕ) → f j ≡ 0) → (k n : ℕ) → sums f k n ≡ 0
sums_none f none k zero = refl
sums_none f none k (suc n) = omega (arith, none k, sums_none f none (suc k) n)

-- ---- the sums that specs speak of
takes_sums : (cs : List Channel) (k n c : ℕ) → takes_at cs k n c ≡ sums (λ j. take_at cs j c) k n
takes_sums cs k zero c = refl
takes_sums cs k (suc n) c = ap (λ x. take_at cs k c + x) (takes_sums cs (suc k) n c)

pub gives_sums : (cs : List Channel) (k n c : ℕ) → gives_at cs k n c ≡ sums (λ j. give_at cs j c) k n
gives_sums cs k zero c = refl
gives_sums cs k (suc n) c = ap (λ x. give_at cs k c + x) (gives_sums cs (suc k) n c)

pub gifts_sums : (cs : List Channel) (a k n : ℕ) → gifts_of cs a k n ≡ sums (λ j. gift a j cs) k n
gifts_sums cs a k zero = refl
gifts_sums cs a k (suc n) = ap (λ x. gift a k cs + x) (gifts_sums cs a (suc k) n)

pub needs_sums : (cs : List Channel) (a k n : ℕ) → needs_of cs a k n ≡ sums (λ j. need a j cs) k n
needs_sums cs a k zero = refl
needs_sums cs a k (suc n) = ap (λ x. need a k cs + x) (needs_sums cs a (suc k) n)

rate_round : (rates : List ℕ) (p j : ℕ) → length rates ≡ p → rate rates (j + p) ≡ rate rates j
rate_round rates p j e =
    ap (λ i. get_or rates i 0) (ap (λ l. (j + l) % length rates) (sym e) ∙ add-mod_right j (length rates))

module _ (cs : List Channel) (a p : ℕ) (has : HasPhases cs a p) where
  take_round : (c : ℕ) → c < length cs → to_at cs c ≡ a → (j : ℕ) → take_at cs (j + p) c ≡ take_at cs j c
  take_round c lt to j = take_is cs (j + p) c lt ∙ rate_round (consume_at cs c) p j (has.takes c lt to) ∙ sym (take_is cs j c lt)

  give_round : (c : ℕ) → c < length cs → from_at cs c ≡ a → (j : ℕ) → give_at cs (j + p) c ≡ give_at cs j c
  give_round c lt from j = give_is cs (j + p) c lt ∙ rate_round (produce_at cs c) p j (has.gives c lt from) ∙ sym (give_is cs j c lt)

  need_round : (j : ℕ) → need a (j + p) cs ≡ need a j cs
  need_round j = moved_alike Input cs a (j + p) j (λ c lt to. rate_round (consume_at cs c) p j (has.takes c lt to))

  gift_round : (j : ℕ) → gift a (j + p) cs ≡ gift a j cs
  gift_round j = moved_alike Output cs a (j + p) j (λ c lt from. rate_round (produce_at cs c) p j (has.gives c lt from))

  pub gifts_cycles : (k m : ℕ) → gifts_of cs a k (m * p) ≡ m * gifts_of cs a k p
  gifts_cycles k m = gifts_sums cs a k (m * p) ∙ cycles (λ j. gift a j cs) p gift_round k m ∙ ap (λ x. m * x) (sym (gifts_sums cs a k p))

  -- ---- of one channel
  module _ (c : ℕ) (lt : c < length cs) where
    took_is : to_at cs c ≡ a → (k n : ℕ) → took cs a k n c ≡ sums (λ j. take_at cs j c) k n
    took_is to = sums_same (λ j. own_take_at cs a j c) (λ j. take_at cs j c) (λ j. sym (own_take a j cs c to lt))

    took_none : to_at cs c ≢ a → (k n : ℕ) → took cs a k n c ≡ 0
    took_none other = sums_none (λ j. own_take_at cs a j c) (λ j. sym (own_take_none a j cs c other))

    gave_is : from_at cs c ≡ a → (k n : ℕ) → gave cs a k n c ≡ sums (λ j. give_at cs j c) k n
    gave_is from = sums_same (λ j. own_give_at cs a j c) (λ j. give_at cs j c) (λ j. sym (own_give a j cs c from lt))

    -- through a channel to the actor itself each firing goes as the one of its phase in the first cycle
    module _ (from : from_at cs c ≡ a) (to : to_at cs c ≡ a) (ts : List (List ℤ)) (k : ℕ) (some : 1 ≤ p) (h : GoesRound cs ts a k p c) (i : ℕ) where
      abbrev q : ℕ
      q = i / p

      abbrev r : ℕ
      r = i % p

      low : r < p
      low = omega (arith, some)

      parts : i ≡ q * p + r
      parts = let e = mod-add-div' i p in omega (arith, e)

      took_part : took cs a k (suc i) c ≡ q * takes_at cs k p c + takes_at cs k (suc r) c
      took_part =
          took_is to k (suc i) ∙ ap (sums (λ j. take_at cs j c) k) (let z : suc i ≡ q * p + suc r = omega (arith, parts) in z)
          ∙ cycles_part (λ j. take_at cs j c) p (take_round c lt to) k q (suc r)
          ∙ ap₂ (λ x y. q * x + y) (sym (takes_sums cs k p c)) (sym (takes_sums cs k (suc r) c))

      gave_part : (n s : ℕ) → n ≡ q * p + s → gave cs a k n c ≡ q * gives_at cs k p c + gives_at cs k s c
      gave_part n s e =
          gave_is from k n ∙ ap (sums (λ j. give_at cs j c) k) e
          ∙ cycles_part (λ j. give_at cs j c) p (give_round c lt from) k q s
          ∙ ap₂ (λ x y. q * x + y) (sym (gives_sums cs k p c)) (sym (gives_sums cs k s c))

      same : q * gives_at cs k p c ≡ q * takes_at cs k p c
      same = ap (λ x. q * x) h.back

      pub own_held : took cs a k (suc i) c ≤ length (tokens_at ts c) + gave cs a k i c
      own_held = let f = (h.each_in r low).own from in omega (arith, f, took_part, gave_part i r parts, same)

      pub own_room : length (tokens_at ts c) + gave cs a k (suc i) c ≤ capacity_at cs c + took cs a k (suc i) c
      own_room =
          let f = (h.each_out r low).own to in
          let g = gave_part (suc i) (suc r) (let z : suc i ≡ q * p + suc r = omega (arith, parts) in z) in
          omega (arith, f, took_part, g, same)

    module _ (ts : List (List ℤ)) (k m i : ℕ) (some : 1 ≤ p) (below : suc i ≤ m * p) (cycled : 0 < m) where
      pub held_for : (to_at cs c ≡ a → IsHeld cs ts a k p m c) → took cs a k (suc i) c ≤ length (tokens_at ts c) + gave cs a k i c
      held_for h = elim (eqb_tells (to_at cs c) a) [
        | inl to ↦ elim (eqb_tells (from_at cs c) a) [
          | inl from ↦ own_held from.1 to.1 ts k some ((h to.1).own from.1 cycled) i
          | inr from ↦
              (let is = (h to.1).others from.1 in
              let all = cycles (λ j. take_at cs j c) p (take_round c lt to.1) k m in
              let few = sums_fewer (λ j. take_at cs j c) k (suc i) (m * p) below in
              let same = ap (λ x. m * x) (takes_sums cs k p c) in
              omega (arith, is, all, few, same, took_is to.1 k (suc i)))
        ]
        | inr to ↦ omega (arith, took_none to.1 k (suc i))
      ]

      pub room_for : from_at cs c ≡ a → (to_at cs c ≡ a → IsHeld cs ts a k p m c) → HasRoom cs ts a k p m c → length (tokens_at ts c) ≤ capacity_at cs c
          → length (tokens_at ts c) + gave cs a k (suc i) c ≤ capacity_at cs c + took cs a k (suc i) c
      room_for from h r fits = elim (eqb_tells (to_at cs c) a) [
        | inl to ↦ own_room from to.1 ts k some ((h to.1).own from cycled) i
        | inr to ↦
            (let is = r.others to.1 in
            let all = cycles (λ j. give_at cs j c) p (give_round c lt from) k m in
            let few = sums_fewer (λ j. give_at cs j c) k (suc i) (m * p) below in
            let same = ap (λ x. m * x) (gives_sums cs k p c) in
            omega (arith, is, all, few, same, fits, gave_is from k (suc i)))
      ]

  -- ---- the cells: all that is given finds cells, or where there is one phase all beyond what is taken
  pub cells_all : (k m i used cells : ℕ) → suc i ≤ m * p → used + m * gifts_of cs a k p ≤ cells
      → used + gifts_of cs a k (suc i) ≤ cells + needs_of cs a k (suc i)
  cells_all k m i used cells below le =
      let few = sums_fewer (λ j. gift a j cs) k (suc i) (m * p) below in
      omega (arith, le, few, gifts_cycles k m, gifts_sums cs a k (suc i), gifts_sums cs a k (m * p))

cells_one : (cs : List Channel) (a p : ℕ) → HasPhases cs a p → p ≡ 1 → (k m i used cells more : ℕ) → suc i ≤ m * p
    → more ≡ gifts_of cs a k p - need a k cs → used + m * more ≤ cells → used + gifts_of cs a k (suc i) ≤ cells + needs_of cs a k (suc i)
cells_one cs a p has one k m i used cells more below is le =
    let g : ℕ = gift a k cs in
    let d : ℕ = need a k cs in
    let alone : (f : ℕ → ℕ) → sums f k p ≡ f k = λ (f : ℕ → ℕ). ap (sums f k) one ∙ (let z : f k + 0 ≡ f k = omega arith in z) in
    let by_one : (n : ℕ) → n ≡ n * p = λ (n : ℕ). (let e = ap (λ x. n * x) one in omega (arith, e)) in
    let gifts : gifts_of cs a k (suc i) ≡ suc i * g =
    gifts_sums cs a k (suc i) ∙ ap (sums (λ j. gift a j cs) k) (by_one (suc i))
    ∙ cycles (λ j. gift a j cs) p (gift_round cs a p has) k (suc i) ∙ ap (λ x. suc i * x) (alone (λ j. gift a j cs)) in
    let needs : needs_of cs a k (suc i) ≡ suc i * d =
    needs_sums cs a k (suc i) ∙ ap (sums (λ j. need a j cs) k) (by_one (suc i))
    ∙ cycles (λ j. need a j cs) p (need_round cs a p has) k (suc i) ∙ ap (λ x. suc i * x) (alone (λ j. need a j cs)) in
    let more_is : more ≡ g - d = is ∙ ap (λ x. x - d) (gifts_sums cs a k p ∙ alone (λ j. gift a j cs)) in
    let most : suc i * g ≤ suc i * (d + (g - d)) = mul-le-mul_left (suc i) (let z : g ≤ d + (g - d) = omega arith in z) in
    let spread = mul-add (suc i) d (g - d) in
    let few : suc i * (g - d) ≤ m * (g - d) = mul-le-mul_right (g - d) (let e = by_one m in let z : suc i ≤ m = omega (arith, below, e) in z) in
    let same = ap (λ x. m * x) more_is in
    omega (arith, gifts, needs, most, spread, few, same, le)

-- what the code counts with
pub cells_found : (cs : List Channel) (a p : ℕ) → HasPhases cs a p → (k m i used cells more : ℕ) → suc i ≤ m * p
    → ((p ≡ 1) × (more ≡ gifts_of cs a k p - need a k cs)) ⊎ (more ≡ gifts_of cs a k p)
    → used + m * more ≤ cells → used + gifts_of cs a k (suc i) ≤ cells + needs_of cs a k (suc i)
cells_found cs a p has k m i used cells more below (inl e) le = cells_one cs a p has e.0 k m i used cells more below e.1 le
cells_found cs a p has k m i used cells more below (inr e) le =
    cells_all cs a p has k m i used cells below (let t = ap (λ x. m * x) e in omega (arith, t, le))

-- ---- each channel is within its capacity
pub fits_at : (counts : List ℕ) (stages : List Stage) (cs : List Channel) (ts : List (List ℤ)) (c : ℕ) → length ts ≡ length cs → c < length cs
    → AllByRecursion (λ (row : Row). IsReady counts stages row.0 row.1) (zip cs ts) → length (tokens_at ts c) ≤ capacity_at cs c
fits_at counts stages [] ts c e lt all = absurd (omega arith)
fits_at counts stages (x ∷ cs) [] c e lt all = absurd (omega arith)
fits_at counts stages (x ∷ cs) (t ∷ ts) zero e lt all = all.0.fits
fits_at counts stages (x ∷ cs) (t ∷ ts) (suc c) e lt all = fits_at counts stages cs ts c (omega arith) (omega arith) all.1

-- ---- so each firing of the cycles finds what it needs
pub cycles_find : (plan : Plan) (p : Present) (a k phases m : ℕ) → IsFit plan p → HasPhases plan.channels a phases → 1 ≤ phases
    → AllByRecursion (IsHeld plan.channels p.tokens a k phases m) (inputs_at plan.channels a)
    → AllByRecursion (HasRoom plan.channels p.tokens a k phases m) (outputs_at plan.channels a)
    → ((i : ℕ) → suc i ≤ m * phases
    → held p + reserved plan p + gifts_of plan.channels a k (suc i) ≤ plan.cells + needs_of plan.channels a k (suc i))
    → (i : ℕ) → i < m * phases → FindsFor plan p a k i
cycles_find plan p a k phases zero fit has some holds room cells i lt = absurd (let z : 0 * phases ≡ 0 = omega arith in omega (arith, z, lt))
cycles_find plan p a k phases (suc m) fit has some holds room cells i lt = record {
  tokens = λ c there.
      held_for plan.channels a phases has c there p.tokens k (suc m) i some lt (omega arith)
      (λ to. of_own (IsHeld plan.channels p.tokens a k phases (suc m)) (λ (x : Channel). x.to) a plan.channels holds c there to);
  room = λ c there from.
      room_for plan.channels a phases has c there p.tokens k (suc m) i some lt (omega arith) from
      (λ to. of_own (IsHeld plan.channels p.tokens a k phases (suc m)) (λ (x : Channel). x.to) a plan.channels holds c there to)
      (of_own (HasRoom plan.channels p.tokens a k phases (suc m)) (λ (x : Channel). x.from) a plan.channels room c there from)
      (fits_at p.counts p.stages plan.channels p.tokens c fit.queued there fit.ready);
  cells = cells i lt;
}

-- ---- fewer find it too
pub held_fewer : (cs : List Channel) (ts : List (List ℤ)) (a k phases m n c : ℕ) → m ≤ n → IsHeld cs ts a k phases n c → IsHeld cs ts a k phases m c
held_fewer cs ts a k phases m n c le h = record {
  others = λ e. (let all = h.others e in let t : m * takes_at cs k phases c ≤ n * takes_at cs k phases c = mul-le-mul_right (takes_at cs k phases c) le in
      omega (arith, all, t));
  own = λ e some. h.own e (omega (arith, some, le));
}

pub room_fewer : (cs : List Channel) (ts : List (List ℤ)) (a k phases m n c : ℕ) → m ≤ n → HasRoom cs ts a k phases n c → HasRoom cs ts a k phases m c
room_fewer cs ts a k phases m n c le h = record {
  others = λ e. (let all = h.others e in let t : m * gives_at cs k phases c ≤ n * gives_at cs k phases c = mul-le-mul_right (gives_at cs k phases c) le in
      omega (arith, all, t));
}

pub begun_fewer : (o : Option ℕ) (b m n : ℕ) → m ≤ n → IfSome o (λ most. b + n ≤ most) → IfSome o (λ most. b + m ≤ most)
begun_fewer None b m n le h = tt
begun_fewer (Some most) b m n le h = omega (arith, le, h)

-- ---- what the code finds firing by firing
pub next_finds : (plan : Plan) (p : Present) (a phases i : ℕ) → IsFit plan p → HasPhases plan.channels a phases → FindsNext plan p a i
    → FindsFor plan p a (count p a) i
next_finds plan p a phases i fit has f =
    let cs : List Channel = plan.channels in
    let k : ℕ = count p a in
    let found_in : AllByRecursion (FindsIn cs p.tokens a k i) (inputs_at cs a) = by_places (FindsIn cs p.tokens a k i) (inputs_at cs a) f.inputs in
    let found_out : AllByRecursion (FindsOut cs p.tokens a k i) (outputs_at cs a) = by_places (FindsOut cs p.tokens a k i) (outputs_at cs a) f.outputs in
    record {
      tokens = λ c lt. elim (eqb_tells (to_at cs c) a) [
        | inl to ↦
            (let is = of_own (FindsIn cs p.tokens a k i) (λ (x : Channel). x.to) a cs found_in c lt to.1 in
            elim (eqb_tells (from_at cs c) a) [
              | inl from ↦
                  (let o = is.own from.1 in
                  omega (arith, o, took_is cs a phases has c lt to.1 k (suc i), takes_sums cs k (suc i) c, gave_is cs a phases has c lt from.1 k i, gives_sums cs k i c))
              | inr from ↦
                  (let o = is.others from.1 in omega (arith, o, took_is cs a phases has c lt to.1 k (suc i), takes_sums cs k (suc i) c))
            ])
        | inr to ↦ omega (arith, took_none cs a phases has c lt to.1 k (suc i))
      ];
      room = λ c lt from.
          let is = of_own (FindsOut cs p.tokens a k i) (λ (x : Channel). x.from) a cs found_out c lt from in
          elim (eqb_tells (to_at cs c) a) [
            | inl to ↦
                (let o = is.own to.1 in
                omega (arith, o, took_is cs a phases has c lt to.1 k (suc i), takes_sums cs k (suc i) c, gave_is cs a phases has c lt from k (suc i), gives_sums cs k (suc i) c))
            | inr to ↦
                (let o = is.others to.1 in omega (arith, o, gave_is cs a phases has c lt from k (suc i), gives_sums cs k (suc i) c))
          ];
      cells = f.cells;
    }
