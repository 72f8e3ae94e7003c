-- A core after one firing of an actor, and after several.
use Rattle.std.proofs.Common.{◌≡◌, ℕ, zero, suc, ◌<◌, List, [], ◌∷◌, ◌++◌, length, take, drop, refl, ap, subst, ◌∙◌, sym, arith, None}
use Rattle.std.specs.Prelude.{ℤ}
use Rattle.std.proofs.Math.Seq.{take-append_seam, drop-append_seam}
use Rattle.std.proofs.lemmas.List.{take_all, length-append, length-drop}
use Rattle.csdf_core.specs.Blocks.{gifts_of, firings_of, AreAccepted, answers_to}
use Rattle.csdf_core.specs.Engine.{CanFire, HasFired, fired_once}
use Rattle.csdf_core.specs.Moves.{Move}
use Rattle.csdf_core.specs.Moves.{Begin, Read, Write, Finish}
use Rattle.csdf_core.specs.Plan.{Plan, Channel}
use Rattle.csdf_core.specs.Ports.{outputs_at, raise_over}
use Rattle.csdf_core.specs.Rows.{gift}
use Rattle.csdf_core.specs.Shows.{View, Plays}
use Rattle.csdf_core.specs.State.{Present}
use Rattle.csdf_core.specs.Step.{count, refusal}
use Rattle.csdf_core.proofs.BlockMachines.{Machine, view}
use Rattle.csdf_core.proofs.FiringMoves.{IsFired, fired2, fired4, plays_fired}
use Rattle.csdf_core.proofs.Moving.{peaks_here}
use Rattle.csdf_core.proofs.Runs.{plays_none}

-- the peaks that the firing leaves
pub peaks_fired : (plan : Plan) (a : ℕ) (m : Machine) (v : List ℤ) → IsFired plan a m v
    → (fired4 plan a m v).peaks ≡ raise_over (outputs_at plan.channels a) (fired4 plan a m v).now.tokens m.peaks
peaks_fired plan a m v s =
    sym (peaks_here plan (fired2 plan a m v).now a v (fired4 plan a m v).now.tokens m.peaks
    (raise_over (outputs_at plan.channels a) (fired4 plan a m v).now.tokens m.peaks) s.good2.sound.fit s.good2.sound.peaked
    s.good2.sound.high refl refl)

-- a core that is as the firing leaves it
pub has_fired : (plan : Plan) (a : ℕ) (m new : Machine) (v : List ℤ) → IsFired plan a m v → fired4 plan a m v ≡ new
    → HasFired (view plan m) (view plan new) a v
has_fired plan a m new v s is = record {
  plan = refl;
  now = sym (ap (λ (x : Machine). x.now) is);
  number = ap (λ (x : Machine). count x.now a) (sym is) ∙ s.number;
  before = λ last moves plays. follow last moves (subst (λ (x : Machine). Plays (view plan x) last moves (answers_to plan x.now moves)) (sym is) plays);
}
  where
    follow : (last : View) (moves : List Move) → Plays (view plan (fired4 plan a m v)) last moves (answers_to plan (fired4 plan a m v).now moves)
        → Plays (view plan m) last (Begin a ∷ Read a ∷ Write a v ∷ Finish a ∷ moves)
        (answers_to plan m.now (Begin a ∷ Read a ∷ Write a v ∷ Finish a ∷ moves))
    follow last moves plays =
        let n : Machine = record { now = last.now; peaks = last.peaks; sums = []; started = 0; kept = 0; pool = last.pool } in
        let same : last ≡ view plan n = λ i. record { plan = plays.plan i; now = last.now; peaks = last.peaks; pool = last.pool } in
        subst (λ (x : View). Plays (view plan m) x (Begin a ∷ Read a ∷ Write a v ∷ Finish a ∷ moves)
        (answers_to plan m.now (Begin a ∷ Read a ∷ Write a v ∷ Finish a ∷ moves))) (sym same)
        (plays_fired plan a m n v moves (answers_to plan (fired4 plan a m v).now moves) s
        (subst (λ (x : View). Plays (view plan (fired4 plan a m v)) x moves (answers_to plan (fired4 plan a m v).now moves)) same plays))

-- one firing is a run of one
pub plays_one : (a : ℕ) (old new : View) (v : List ℤ) → length v ≡ gift a (count old.now a) old.plan.channels → HasFired old new a v
    → Plays old new (firings_of old.plan.channels a (count old.now a) 1 v)
    (answers_to old.plan old.now (firings_of old.plan.channels a (count old.now a) 1 v))
plays_one a old new v len f =
    subst (λ (u : List ℤ). Plays old new (Begin a ∷ Read a ∷ Write a u ∷ Finish a ∷ [])
    (answers_to old.plan old.now (Begin a ∷ Read a ∷ Write a u ∷ Finish a ∷ [])))
    (sym (take_all (gift a (count old.now a) old.plan.channels) v (omega (arith, len))))
    (f.before new [] (plays_none new))

-- what can be made beside it can be made after it
pub fires_after : (a m : ℕ) (old new : View) (v : List ℤ) → length v ≡ gift a (count old.now a) old.plan.channels → HasFired old new a v
    → CanFire old.plan old.now a (suc m) → CanFire new.plan new.now a m
fires_after a m old new v len f can = λ w lenw.
    let cs : List Channel = old.plan.channels in
    let k : ℕ = count old.now a in
    let g : ℕ = gift a k cs in
    let size : length w ≡ gifts_of cs a (suc k) m =
    lenw ∙ ap (λ (j : ℕ). gifts_of new.plan.channels a j m) f.number ∙ ap (λ (x : Plan). gifts_of x.channels a (suc k) m) f.plan in
    let all : length (v ++ w) ≡ gifts_of cs a k (suc m) = (let l = length-append v w in omega (arith, l, len, size)) in
    let front : take g (v ++ w) ≡ v = ap (λ (i : ℕ). take i (v ++ w)) (sym len) ∙ take-append_seam v w in
    let back : drop g (v ++ w) ≡ w = ap (λ (i : ℕ). drop i (v ++ w)) (sym len) ∙ drop-append_seam v w in
    let moved : AreAccepted old.plan new.now (firings_of cs a (suc k) m w) =
    subst (λ (p : Present). AreAccepted old.plan p (firings_of cs a (suc k) m w)) (sym f.now)
    (subst (λ (u : List ℤ). AreAccepted old.plan (fired_once old.plan old.now a v) (firings_of cs a (suc k) m u)) back
    (subst (λ (u : List ℤ). AreAccepted old.plan (fired_once old.plan old.now a u) (firings_of cs a (suc k) m (drop g (v ++ w)))) front
    (can (v ++ w) all).1.1.1.1)) in
    subst (λ (x : Plan). AreAccepted x new.now (firings_of x.channels a (count new.now a) m w)) (sym f.plan)
    (subst (λ (j : ℕ). AreAccepted old.plan new.now (firings_of cs a j m w)) (sym f.number) moved)

-- so many firings that write w are left of the n that write v
pub record IsLeft (a : ℕ) (old cur : View) (n : ℕ) (v : List ℤ) (left : ℕ) (w : List ℤ) : Type 0 where
  pub plan : cur.plan ≡ old.plan
  pub whole : length w ≡ gifts_of cur.plan.channels a (count cur.now a) left
  pub accepted : AreAccepted cur.plan cur.now (firings_of cur.plan.channels a (count cur.now a) left w)
  pub before : (last : View)
      → Plays cur last (firings_of cur.plan.channels a (count cur.now a) left w)
      (answers_to cur.plan cur.now (firings_of cur.plan.channels a (count cur.now a) left w))
      → Plays old last (firings_of old.plan.channels a (count old.now a) n v)
      (answers_to old.plan old.now (firings_of old.plan.channels a (count old.now a) n v))

pub first_begins : (plan : Plan) (p : Present) (a k left : ℕ) (w : List ℤ) → 0 < left → AreAccepted plan p (firings_of plan.channels a k left w)
    → refusal plan p (Begin a) ≡ None
first_begins plan p a k zero w some h = absurd (omega arith)
first_begins plan p a k (suc left) w some h = h.0

-- after one of them the others are left
pub left_step : (a : ℕ) (old cur new : View) (n : ℕ) (v : List ℤ) (left q : ℕ) (w : List ℤ) (g : ℕ) → left ≡ suc q → IsLeft a old cur n v left w
    → g ≡ gift a (count cur.now a) cur.plan.channels → HasFired cur new a (take g w) → IsLeft a old new n v q (drop g w)
left_step a old cur new n v left q w g one h is f =
    stepped (subst (λ (x : ℕ). IsLeft a old cur n v x w) one h) (subst (λ (x : ℕ). HasFired cur new a (take x w)) is f)
  where
    stepped : IsLeft a old cur n v (suc q) w → HasFired cur new a (take (gift a (count cur.now a) cur.plan.channels) w) → IsLeft a old new n v q (drop g w)
    stepped h f =
        let r : ℕ = gift a (count cur.now a) cur.plan.channels in
        let moves : List Move = firings_of cur.plan.channels a (suc (count cur.now a)) q (drop r w) in
        let whole : length (drop r w) ≡ gifts_of cur.plan.channels a (suc (count cur.now a)) q =
        (let d = length-drop r w in let e = h.whole in omega (arith, d, e)) in
        subst (λ (x : ℕ). IsLeft a old new n v q (drop x w)) (sym is) (record {
          plan = f.plan ∙ h.plan;
          whole = subst (λ (x : Plan). length (drop r w) ≡ gifts_of x.channels a (count new.now a) q) (sym f.plan)
              (subst (λ (j : ℕ). length (drop r w) ≡ gifts_of cur.plan.channels a j q) (sym f.number) whole);
          accepted = subst (λ (x : Plan). AreAccepted x new.now (firings_of x.channels a (count new.now a) q (drop r w))) (sym f.plan)
              (subst (λ (j : ℕ). AreAccepted cur.plan new.now (firings_of cur.plan.channels a j q (drop r w))) (sym f.number)
              (subst (λ (p : Present). AreAccepted cur.plan p moves) (sym f.now) h.accepted.1.1.1.1));
          before = λ last plays.
              h.before last (f.before last moves
              (subst (λ (j : ℕ). Plays new last (firings_of cur.plan.channels a j q (drop r w)) (answers_to cur.plan new.now (firings_of cur.plan.channels a j q (drop r w)))) f.number
              (subst (λ (x : Plan). Plays new last (firings_of x.channels a (count new.now a) q (drop r w))
              (answers_to x new.now (firings_of x.channels a (count new.now a) q (drop r w)))) f.plan plays)));
        })

pub left_none : (a : ℕ) (old cur : View) (n : ℕ) (v : List ℤ) (left : ℕ) (w : List ℤ) → left ≡ 0 → IsLeft a old cur n v left w
    → Plays old cur (firings_of old.plan.channels a (count old.now a) n v)
    (answers_to old.plan old.now (firings_of old.plan.channels a (count old.now a) n v))
left_none a old cur n v left w none h = done (subst (λ (x : ℕ). IsLeft a old cur n v x w) none h)
  where
    done : IsLeft a old cur n v 0 w
        → Plays old cur (firings_of old.plan.channels a (count old.now a) n v)
        (answers_to old.plan old.now (firings_of old.plan.channels a (count old.now a) n v))
    done h = h.before cur (plays_none cur)
