-- Firings of one actor that go on after others.
use Rattle.std.proofs.Common.{◌≡◌, ℕ, zero, suc, ◌+◌, ◌<◌, List, [], ◌∷◌, ◌++◌, length, get_or, set, replicate, refl, ap, ap₂, sym, subst, ◌∙◌, arith}
use Rattle.std.proofs.Common.{append_assoc, append-nil}
use Rattle.std.specs.Prelude.{ℤ}
use Rattle.std.proofs.lemmas.List.{set-set, set-get_or, get_or-set_same}
use Rattle.csdf_core.specs.Moves.{Move}
use Rattle.csdf_core.specs.Plan.{Plan}
use Rattle.csdf_core.specs.State.{State, Present, opening}
use Rattle.csdf_core.specs.Step.{after, state_after}
use Rattle.csdf_floor.specs.Floor.{FloorView, IsKept}
use Rattle.csdf_floor.specs.Journal.{Program, IsHonest, IsHonestFrom, reads_after, reads_of, no_reads, state_of}
use Rattle.csdf_floor.specs.Making.{HasMade, made_moves}
use Rattle.csdf_floor.specs.Sequential.{fired, firing, made, moves_from, state_from}
use Rattle.csdf_floor.specs.Work.{Work, program}
use Rattle.csdf_floor.proofs.Bounds.{after_is, faithful_end}
use Rattle.csdf_floor.proofs.Journals.{honest_split}

-- honest moves are all accepted
made_after : (w : Program) (s : State) (reads : List (List ℤ)) (ms : List Move) → IsHonestFrom w s reads ms → state_after w.plan s ms ≡ made w.plan s ms
made_after w s reads [] h = refl
made_after w s reads (m ∷ ms) h = made_after w (after w.plan s m) (reads_after w.plan s reads m) ms h.1
    ∙ ap (λ (t : State). made w.plan t ms) (after_is w.plan s m h.0.accepted)

state_moves : (w : Program) (s : State) (actors : List ℕ) → made w.plan s (moves_from w s actors) ≡ state_from w s actors
state_moves w s [] = refl
state_moves w s (a ∷ actors) = state_moves w (fired w s a) actors

state_more : (plan : Plan) (s : State) (front rest : List Move) → state_after plan s (front ++ rest) ≡ state_after plan (state_after plan s front) rest
state_more plan s [] rest = refl
state_more plan s (m ∷ front) rest = state_more plan (after plan s m) front rest

-- the moves of n firings, and of m more
moves_more : (w : Program) (s : State) (a n m : ℕ)
    → moves_from w s (replicate n a) ++ moves_from w (state_from w s (replicate n a)) (replicate m a) ≡ moves_from w s (replicate (n + m) a)
moves_more w s a zero m = let e : m ≡ 0 + m = omega arith in ap (λ (k : ℕ). moves_from w s (replicate k a)) e
moves_more w s a (suc n) m =
    let e : suc (n + m) ≡ suc n + m = omega arith in
    append_assoc (firing w s a) (moves_from w (fired w s a) (replicate n a)) (moves_from w (state_from w (fired w s a) (replicate n a)) (replicate m a))
    ∙ ap (λ (ms : List Move). firing w s a ++ ms) (moves_more w (fired w s a) a n m)
    ∙ ap (λ (k : ℕ). moves_from w s (replicate k a)) e

-- a count that is raised twice
raised_twice : (ns : List ℕ) (a n m : ℕ) → a < length ns
    → set (set ns a (get_or ns a 0 + n)) a (get_or (set ns a (get_or ns a 0 + n)) a 0 + m) ≡ set ns a (get_or ns a 0 + (n + m))
raised_twice ns a n m lt =
    let k : ℕ = get_or ns a 0 in
    let at : get_or (set ns a (k + n)) a 0 ≡ k + n = get_or-set_same ns a (k + n) 0 lt in
    let e : get_or (set ns a (k + n)) a 0 + m ≡ k + (n + m) = omega (arith, at) in
    set-set ns a (k + n) (get_or (set ns a (k + n)) a 0 + m) ∙ ap (set ns a) e

-- the state after n firings that a floor has made
state_made : (w : Program) (journal : List Move) (actors : List ℕ) → IsHonest w (journal ++ moves_from w (state_of w journal) actors)
    → state_of w (journal ++ moves_from w (state_of w journal) actors) ≡ state_from w (state_of w journal) actors
state_made w journal actors h =
    let s : State = state_of w journal in
    let ms : List Move = moves_from w s actors in
    state_more w.plan (opening w.plan) journal ms
    ∙ made_after w s (reads_of w journal) ms (honest_split w (opening w.plan) (no_reads w.plan) journal ms h).1
    ∙ state_moves w s actors

counted : (f : FloorView) (a : ℕ) → IsKept (program f.work) f.core f.journal → a < length f.core.plan.sources → a < length f.core.now.counts
counted f a k lt =
    let w : Program = program f.work in
    let all : length (state_of w f.journal).counts ≡ length w.plan.sources = (faithful_end w f.journal k.honest).booked.counted in
    let same : length f.core.now.counts ≡ length (state_of w f.journal).counts = ap (λ (p : Present). length p.counts) k.shows.same in
    let plan : length f.core.plan.sources ≡ length w.plan.sources = ap (λ (u : Plan). length u.sources) k.plan in
    omega (arith, all, same, plan, lt)

module _ (old mid new : FloorView) (a n m : ℕ) (b : IsKept (program old.work) old.core old.journal) (h : IsHonest (program mid.work) mid.journal)
    (there : a < length old.core.plan.sources) (one : HasMade old mid a n (made_moves old a n)) (two : HasMade mid new a m (made_moves mid a m)) where
  abbrev p : Program
  p = program old.work

  abbrev s : State
  s = state_of p old.journal

  honest : IsHonest p (old.journal ++ made_moves old a n)
  honest = subst (λ (js : List Move). IsHonest p js) one.gone.journal (subst (λ (w : Work). IsHonest (program w) mid.journal) one.gone.work h)

  state : state_of (program mid.work) mid.journal ≡ state_from p s (replicate n a)
  state = ap (λ (w : Work). state_of (program w) mid.journal) one.gone.work ∙ ap (λ (js : List Move). state_of p js) one.gone.journal
      ∙ state_made p old.journal (replicate n a) honest

  moves : made_moves mid a m ≡ moves_from p (state_from p s (replicate n a)) (replicate m a)
  moves = ap (λ (w : Work). moves_from (program w) (state_of (program mid.work) mid.journal) (replicate m a)) one.gone.work
      ∙ ap (λ (t : State). moves_from p t (replicate m a)) state

  pub made_more : HasMade old new a (n + m) (made_moves old a (n + m))
  made_more = record {
    gone = record {
      work = two.gone.work ∙ one.gone.work;
      journal = two.gone.journal
          ∙ ap₂ (λ (xs ys : List Move). xs ++ ys) one.gone.journal moves
          ∙ append_assoc old.journal (made_moves old a n) (moves_from p (state_from p s (replicate n a)) (replicate m a))
          ∙ ap (λ (ms : List Move). old.journal ++ ms) (moves_more p s a n m);
      keeps = two.gone.keeps ∙ one.gone.keeps;
    };
    plan = two.plan ∙ one.plan;
    counts = two.counts ∙ ap (λ (ns : List ℕ). set ns a (get_or ns a 0 + m)) one.counts
        ∙ raised_twice old.core.now.counts a n m (counted old a b there);
    stages = two.stages ∙ one.stages;
    opens = two.opens ∙ one.opens;
  }

-- no firing
pub made_none : (old new : FloorView) (a : ℕ) → new ≡ old → HasMade old new a 0 (made_moves old a 0)
made_none old new a same =
    let none : get_or old.core.now.counts a 0 ≡ get_or old.core.now.counts a 0 + 0 = omega arith in
    record {
      gone = record {
        work = ap (λ (f : FloorView). f.work) same;
        journal = ap (λ (f : FloorView). f.journal) same ∙ sym (append-nil old.journal);
        keeps = ap (λ (f : FloorView). f.keeps) same;
      };
      plan = ap (λ (f : FloorView). f.core.plan) same;
      counts = ap (λ (f : FloorView). f.core.now.counts) same ∙ sym (set-get_or old.core.now.counts a 0)
          ∙ ap (set old.core.now.counts a) none;
      stages = ap (λ (f : FloorView). f.core.now.stages) same;
      opens = ap (λ (f : FloorView). f.core.now.opens) same;
    }
