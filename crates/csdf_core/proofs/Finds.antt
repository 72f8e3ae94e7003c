-- An actor that finds by numbers what its next firings need can make them.
use Rattle.std.proofs.Common.{◌≡◌, ℕ, zero, suc, ◌+◌, ◌-◌, ◌*◌, ◌<◌, ◌≤◌, Bool, true, false, List, [], ◌∷◌, length, take, drop, ap, ◌∙◌, sym, subst, arith, None, le-ltb}
use Rattle.std.specs.Prelude.{ℤ, IfSome, slice_index}
use Rattle.std.specs.List.{AllByRecursion}
use Rattle.std.proofs.lemmas.List.{length-append, length-drop, length-take-le}
use Rattle.csdf_core.specs.declared.stage.Stage.TheVariants.{Idle}
use Rattle.csdf_core.specs.declared.refusal.Refusal.TheVariants.{Stopped, NoCells}
use Rattle.csdf_core.specs.Blocks.{gifts_of, needs_of, firings_of, AreAccepted, capacity_at}
use Rattle.csdf_core.specs.Engine.{CanFire}
use Rattle.csdf_core.specs.Going.{CanGo}
use Rattle.csdf_core.specs.Moves.{Begin}
use Rattle.csdf_core.specs.Plan.{Plan, Channel, from_at, to_at, gives_of}
use Rattle.csdf_core.specs.Ports.{inputs_at, outputs_at, take_at, give_at, own_take_at, tokens_at, short_at, full_at}
use Rattle.csdf_core.specs.Ready.{IsFit}
use Rattle.csdf_core.specs.Rows.{need, gift, left, joined, shares, is_closed, is_short, is_full, first}
use Rattle.csdf_core.specs.State.{Present}
use Rattle.csdf_core.specs.Step.{count, stage, given, is_source, is_dry, lacks_cells, refusal, first_of, when, begun_count, held, reserved}
use Rattle.csdf_core.proofs.Accepting.{begin_is}
use Rattle.csdf_core.proofs.BlockBegins.{none_found, above, not_reached, dry_free, and_none, given_more}
use Rattle.csdf_core.proofs.BlockMachines.{Machine, IsGood}
use Rattle.csdf_core.proofs.BlockMoves.{fewer}
use Rattle.csdf_core.proofs.BlockPorts.{both}
use Rattle.csdf_core.proofs.Lanes.{own_give_at, own_give, given_before, part_within}
use Rattle.csdf_core.proofs.FiringMoves.{IsFired, fired4, is_fired, held_fired}
use Rattle.csdf_core.proofs.Lanes.{fired_at}
use Rattle.csdf_core.proofs.Kept.{begins}
use Rattle.csdf_core.proofs.OwnChannels.{ins_there, ins_own, outs_there, outs_own}
use Rattle.csdf_core.proofs.PortLemmas.{first_short, first_full, own_take}

-- a sum over n numbers, from k on
abbrev pub sums : (ℕ → ℕ) → ℕ → ℕ → ℕ
sums f k zero = 0
sums f k (suc n) = f k + sums f (suc k) n

-- what n firings take of a channel and give to it, from number k on: nothing, where it is not the actor's
abbrev pub took : List Channel → ℕ → ℕ → ℕ → ℕ → ℕ
took cs a k n c = sums (λ j. own_take_at cs a j c) k n

abbrev pub gave : List Channel → ℕ → ℕ → ℕ → ℕ → ℕ
gave cs a k n c = sums (λ j. own_give_at cs a j c) k n

-- firing number k + i finds its tokens, its room and its cells, where those from k on were made before it
pub record FindsFor (plan : Plan) (p : Present) (a k i : ℕ) : Type 0 where
  pub tokens : (c : ℕ) → c < length plan.channels → took plan.channels a k (suc i) c ≤ length (tokens_at p.tokens c) + gave plan.channels a k i c
  pub room : (c : ℕ) → c < length plan.channels → from_at plan.channels c ≡ a
      → length (tokens_at p.tokens c) + gave plan.channels a k (suc i) c ≤ capacity_at plan.channels c + took plan.channels a k (suc i) c
  pub cells : held p + reserved plan p + gifts_of plan.channels a k (suc i) ≤ plan.cells + needs_of plan.channels a k (suc i)

-- an actor whose next firing is number k finds what n firings need
pub record Finds (plan : Plan) (p : Present) (a k n : ℕ) : Type 0 where
  pub there : a < length plan.sources
  pub number : count p a ≡ k
  pub idle : stage p a ≡ Idle
  pub limit : k + n ≤ slice_index plan.limits a
  pub opens : first (is_closed a) plan.channels p.opens ≡ None
  pub supply : is_source plan a ≡ true → given plan a (k + n) ≤ slice_index plan.supplies a
  pub firings : IfSome plan.firings (λ most. begun_count p + n ≤ most)
  pub each : (i : ℕ) → i < n → FindsFor plan p a k i

-- ---- the first of them may begin
module _ (plan : Plan) (p : Present) (a n : ℕ) (fit : IsFit plan p) (h : Finds plan p a (count p a) (suc n)) where
  abbrev k : ℕ
  k = count p a

  abbrev cs : List Channel
  cs = plan.channels

  now : FindsFor plan p a k 0
  now = h.each 0 (omega arith)

  not_short : first (is_short a k) cs p.tokens ≡ None
  not_short =
      let none : AllByRecursion (λ c. short_at cs k p.tokens c ≡ false) (inputs_at cs a) =
      both (inputs_at cs a)
      (λ c (lt : c < length cs) (to : to_at cs c ≡ a).
      (let t = now.tokens c lt in let mine = own_take a k cs c to lt in
      le-ltb (length (tokens_at p.tokens c)) (take_at cs k c) (omega (arith, t, mine))))
      (ins_there cs a) (ins_own cs a) in
      sym (first_short a k cs p.tokens fit.queued) ∙ none_found (short_at cs k p.tokens) (inputs_at cs a) none

  not_full : first (is_full a k) cs p.tokens ≡ None
  not_full =
      let none : AllByRecursion (λ c. full_at cs a k p.tokens c ≡ false) (outputs_at cs a) =
      both (outputs_at cs a)
      (λ c (lt : c < length cs) (from : from_at cs c ≡ a).
      (let t = now.tokens c lt in let r = now.room c lt from in let mine = own_give a k cs c from lt in
      le-ltb (capacity_at cs c) (length (tokens_at p.tokens c) - own_take_at cs a k c + give_at cs k c) (omega (arith, t, r, mine))))
      (outs_there cs a) (outs_own cs a) in
      sym (first_full a k cs p.tokens fit.queued) ∙ none_found (full_at cs a k p.tokens) (outputs_at cs a) none

  not_dry : is_dry plan p a ≡ false
  not_dry =
      dry_free _ _ _ (λ source.
      let supply = h.supply source in
      let e : k + suc n ≡ suc k + n = omega arith in
      let t = ap (given plan a) e in
      let more = given_more plan a (suc k) n in
      omega (arith, supply, t, more))

  can_go : CanGo plan p a
  can_go = record {
    exists = h.there;
    idle = h.idle;
    not_spent = above _ _ (let l = h.limit in omega (arith, l));
    not_dry = not_dry;
    not_short = not_short;
    not_full = not_full;
  }

  enough_cells : lacks_cells plan p a ≡ false
  enough_cells =
      and_none _ _
      (le-ltb plan.cells (held p + reserved plan p + (gift a k cs - need a k cs)) (let c = now.cells in let r = fit.room in omega (arith, c, r)))

  pub begins_next : refusal plan p (Begin a) ≡ None
  begins_next =
      begin_is plan p a h.opens can_go
      ∙ ap (λ (b : Bool). first_of (when b Stopped ∷ when (lacks_cells plan p a) NoCells ∷ [])) (not_reached plan.firings (begun_count p) n h.firings)
      ∙ ap (λ (b : Bool). first_of (when false Stopped ∷ when b NoCells ∷ [])) enough_cells

-- ---- how long a channel is after a firing
pub fired_length : (a k : ℕ) (cs : List Channel) (ts : List (List ℤ)) (v : List ℤ) (c : ℕ) → length ts ≡ length cs → c < length cs → length v ≡ gift a k cs
    → own_take_at cs a k c ≤ length (tokens_at ts c)
    → length (tokens_at (joined (left a k cs ts) (shares a k cs v)) c) + own_take_at cs a k c ≡ length (tokens_at ts c) + own_give_at cs a k c
fired_length a k cs ts v c queued lt len enough =
    let b : ℕ = given_before cs a k c in
    let g : ℕ = own_give_at cs a k c in
    let part = part_within (gives_of a k) cs c lt in
    let behind = length-drop b v in
    let front : length (take g (drop b v)) ≡ g = length-take-le g (drop b v) (omega (arith, part, behind, len)) in
    let kept = length-drop (own_take_at cs a k c) (tokens_at ts c) in
    let all = ap length (fired_at a k cs ts v c queued lt) in
    let both_of = length-append (drop (own_take_at cs a k c) (tokens_at ts c)) (take g (drop b v)) in
    omega (arith, front, kept, all, both_of, enough)

-- ---- the firings after it find theirs
module _ (plan : Plan) (a : ℕ) (few : (k : ℕ) → gift a k plan.channels ≤ 8192) where
  module _ (n : ℕ) (m : Machine) (v : List ℤ) (good : IsGood plan m) (h : Finds plan m.now a (count m.now a) (suc n))
      (len : length v ≡ gift a (count m.now a) plan.channels) where
    abbrev k1 : ℕ
    k1 = count m.now a

    abbrev ds : List Channel
    ds = plan.channels

    pub four : IsFired plan a m v
    four = is_fired plan a m v good h.there h.idle (begins_next plan m.now a n good.sound.fit h) len (few k1)

    long : (c : ℕ) → c < length ds
        → length (tokens_at (fired4 plan a m v).now.tokens c) + own_take_at ds a k1 c ≡ length (tokens_at m.now.tokens c) + own_give_at ds a k1 c
    long c lt =
        fired_length a k1 ds m.now.tokens v c good.sound.fit.queued lt len (let t = (h.each 0 (omega arith)).tokens c lt in omega (arith, t))

    pub finds4 : Finds plan (fired4 plan a m v).now a (suc k1) n
    finds4 = record {
      there = h.there;
      number = four.number;
      idle = four.idle;
      limit = (let l = h.limit in omega (arith, l));
      opens = h.opens;
      supply = λ source. (let s = h.supply source in let e : k1 + suc n ≡ suc k1 + n = omega arith in let t = ap (given plan a) e in omega (arith, s, t));
      firings = fewer plan.firings (begun_count m.now) (begun_count (fired4 plan a m v).now) n
          (let x = good.sound.starts in let y = four.good4.sound.starts in omega (arith, x, y)) h.firings;
      each = λ i lt.
          let f = h.each (suc i) (omega (arith, lt)) in
          record {
            tokens = λ c there. (let l = long c there in let t = f.tokens c there in omega (arith, l, t));
            room = λ c there from. (let l = long c there in let r = f.room c there from in omega (arith, l, r));
            cells =
                let now4 = held_fired plan a m v four len in
                let u = good.sound.keeps in
                let w = four.good4.sound.keeps in
                let kept = four.kept in
                let c = f.cells in
                omega (arith, now4, u, w, kept, c);
          };
    }

  -- all of them are accepted
  pub accepted : (n : ℕ) (m : Machine) (v : List ℤ) → IsGood plan m → Finds plan m.now a (count m.now a) n
      → length v ≡ gifts_of plan.channels a (count m.now a) n → AreAccepted plan m.now (firings_of plan.channels a (count m.now a) n v)
  accepted zero m v good h len = tt
  accepted (suc n) m v good h len =
      let k : ℕ = count m.now a in
      let g : ℕ = gift a k plan.channels in
      let len1 : length (take g v) ≡ g = length-take-le g v (omega (arith, len)) in
      let s : IsFired plan a m (take g v) = four n m (take g v) good h len1 in
      let later : Present = (fired4 plan a m (take g v)).now in
      let number : count later a ≡ suc k = s.number in
      let rest = accepted n (fired4 plan a m (take g v)) (drop g v) s.good4
      (subst (λ (x : ℕ). Finds plan later a x n) (sym number) (finds4 n m (take g v) good h len1))
      (let d = length-drop g v in let e = ap (λ (x : ℕ). gifts_of plan.channels a x n) number in omega (arith, d, e, len)) in
      (s.none1, (s.none2, (s.none3, (s.none4, subst (λ (x : ℕ). AreAccepted plan later (firings_of plan.channels a x n (drop g v))) number rest))))

  -- one that may begin can be made
  pub one_fires : (m : Machine) → IsGood plan m → refusal plan m.now (Begin a) ≡ None → CanFire plan m.now a 1
  one_fires m good none v len =
      let g : ℕ = gift a (count m.now a) plan.channels in
      let b = begins plan m.now a none in
      let s : IsFired plan a m (take g v) = is_fired plan a m (take g v) good b.there b.idle none (length-take-le g v (omega (arith, len))) (few (count m.now a)) in
      (s.none1, (s.none2, (s.none3, (s.none4, tt))))

  -- so many cycles, where they find what they need if they are some
  pub cycles_fire : (m : Machine) → IsGood plan m → (phases cycles : ℕ) → (0 < cycles → Finds plan m.now a (count m.now a) (cycles * phases))
      → CanFire plan m.now a (cycles * phases)
  cycles_fire m good phases zero f =
      subst (λ (n : ℕ). CanFire plan m.now a n) (let z : 0 ≡ 0 * phases = omega arith in z) (λ v len. tt)
  cycles_fire m good phases (suc q) f = λ v len. accepted (suc q * phases) m v good (f (omega arith)) len

  -- any number
  pub some_fire : (m : Machine) → IsGood plan m → (n : ℕ) → (0 < n → Finds plan m.now a (count m.now a) n) → CanFire plan m.now a n
  some_fire m good zero f = λ v len. tt
  some_fire m good (suc q) f = λ v len. accepted (suc q) m v good (f (omega arith)) len
