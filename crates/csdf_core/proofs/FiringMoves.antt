-- The four moves of one firing, of an idle actor whose begin is accepted.
use Rattle.std.proofs.Common.{◌≡◌, ℕ, suc, ◌+◌, ◌<◌, ◌≤◌, List, [], ◌∷◌, length, set, ap, ◌∙◌, sym, arith, None, set-set, length-set, get_or-set_same}
use Rattle.std.specs.Prelude.{ℤ, Ok}
use Rattle.std.proofs.lemmas.List.{set-get_or}
use Rattle.csdf_core.specs.declared.stage.Stage.TheVariants.{Idle, Begun, Fetched, Written}
use Rattle.csdf_core.specs.Moves.{Move}
use Rattle.csdf_core.specs.Moves.{Begin, Read, Write, Finish}
use Rattle.csdf_core.specs.Plan.{Plan}
use Rattle.csdf_core.specs.Rows.{need, gift, left, AreThere}
use Rattle.csdf_core.specs.Shows.{Plays}
use Rattle.csdf_core.specs.Step.{Reply, answer, count, held, stage, refusal, first_of, write_table}
use Rattle.csdf_core.proofs.Accepting.{reads_free, writes_free, finishes_free}
use Rattle.csdf_core.proofs.BlockMachines.{Machine, IsGood, view, plays_first, m_begun, m_fetched, m_written, m_finished}
use Rattle.csdf_core.proofs.BlockMachines.{good_begun, good_fetched, good_written, good_finished, follows_begun, follows_fetched}
use Rattle.csdf_core.proofs.BlockMachines.{follows_written, follows_finished}
use Rattle.csdf_core.proofs.Kept.{reads}
use Rattle.csdf_core.proofs.Ready.{are_there}
use Rattle.csdf_core.proofs.RoomLemmas.{held-left, held-joined}

-- what a core comes to by one, two, three and four of them
module _ (plan : Plan) (a : ℕ) (m : Machine) (v : List ℤ) where
  abbrev pub fired1 : Machine
  fired1 = m_begun plan a m

  abbrev pub fired2 : Machine
  fired2 = m_fetched plan a fired1

  abbrev pub fired3 : Machine
  fired3 = m_written plan a fired2 v

  abbrev pub fired4 : Machine
  fired4 = m_finished plan a fired3

-- each of them is accepted and leaves what a core keeps, and the actor is idle again
pub record IsFired (plan : Plan) (a : ℕ) (m : Machine) (v : List ℤ) : Type 0 where
  pub none1 : refusal plan m.now (Begin a) ≡ None
  pub none2 : refusal plan (fired1 plan a m v).now (Read a) ≡ None
  pub none3 : first_of (write_table plan (fired2 plan a m v).now a v) ≡ None
  pub none4 : refusal plan (fired3 plan a m v).now (Finish a) ≡ None
  pub good : IsGood plan m
  pub good1 : IsGood plan (fired1 plan a m v)
  pub good2 : IsGood plan (fired2 plan a m v)
  pub good3 : IsGood plan (fired3 plan a m v)
  pub good4 : IsGood plan (fired4 plan a m v)
  pub stages : (fired4 plan a m v).now.stages ≡ m.now.stages
  pub idle : stage (fired4 plan a m v).now a ≡ Idle
  pub number : count (fired4 plan a m v).now a ≡ suc (count m.now a)
  pub kept : (fired4 plan a m v).kept ≡ m.kept

pub is_fired : (plan : Plan) (a : ℕ) (m : Machine) (v : List ℤ) → IsGood plan m → a < length plan.sources → stage m.now a ≡ Idle
    → refusal plan m.now (Begin a) ≡ None → length v ≡ gift a (count m.now a) plan.channels → gift a (count m.now a) plan.channels ≤ 8192
    → IsFired plan a m v
is_fired plan a m v good there idle none1 len few =
    let n1 : Machine = fired1 plan a m v in
    let n2 : Machine = fired2 plan a m v in
    let n3 : Machine = fired3 plan a m v in
    let lt : a < length m.now.stages = (let staged = good.sound.fit.staged in omega (arith, staged, there)) in
    let good1 : IsGood plan n1 = good_begun plan a m good none1 in
    let at1 : stage n1.now a ≡ Begun = get_or-set_same m.now.stages a Begun Idle lt in
    let none2 : refusal plan n1.now (Read a) ≡ None = reads_free plan n1.now a there at1 in
    let good2 : IsGood plan n2 = good_fetched plan a n1 good1 none2 in
    let lt1 : a < length n1.now.stages = (let e = length-set m.now.stages a Begun in omega (arith, e, lt)) in
    let at2 : stage n2.now a ≡ Fetched = get_or-set_same n1.now.stages a Fetched Idle lt1 in
    let none3 : first_of (write_table plan n2.now a v) ≡ None = writes_free plan n2.now a v there at2 len in
    let good3 : IsGood plan n3 = good_written plan a n2 good2 v none3 in
    let lt2 : a < length n2.now.stages = (let staged = good2.sound.fit.staged in omega (arith, staged, there)) in
    let at3 : stage n3.now a ≡ Written = get_or-set_same n2.now.stages a Written Idle lt2 in
    let none4 : refusal plan n3.now (Finish a) ≡ None = finishes_free plan n3.now a there at3 in
    let lt3 : a < length n3.now.stages = (let staged = good3.sound.fit.staged in omega (arith, staged, there)) in
    record {
      none1 = none1;
      none2 = none2;
      none3 = none3;
      none4 = none4;
      good = good;
      good1 = good1;
      good2 = good2;
      good3 = good3;
      good4 = good_finished plan a n3 good3 none4 few;
      stages = set-set (set (set m.now.stages a Begun) a Fetched) a Written Idle
          ∙ set-set (set m.now.stages a Begun) a Fetched Idle
          ∙ set-set m.now.stages a Begun Idle
          ∙ ap (set m.now.stages a) (sym idle)
          ∙ set-get_or m.now.stages a Idle;
      idle = get_or-set_same n3.now.stages a Idle Idle lt3;
      number = get_or-set_same m.now.counts a (suc (count m.now a)) 0 (let counted = good.sound.fit.counted in omega (arith, counted, there));
      kept = omega (arith, len);
    }

-- what is held after its read, and after all four
pub held_read : (plan : Plan) (a : ℕ) (m : Machine) (v : List ℤ) → IsFired plan a m v
    → held (fired2 plan a m v).now + need a (count m.now a) plan.channels ≡ held m.now
held_read plan a m v f =
    let there : AreThere a (count m.now a) plan.channels m.now.tokens = are_there (fired1 plan a m v).now a plan.channels m.now.tokens
    (reads plan (fired1 plan a m v).now a f.none2).at f.good1.sound.fit.ready in
    held-left a (count m.now a) plan.channels m.now.tokens f.good.sound.fit.queued there

pub held_fired : (plan : Plan) (a : ℕ) (m : Machine) (v : List ℤ) → IsFired plan a m v → length v ≡ gift a (count m.now a) plan.channels
    → held (fired4 plan a m v).now + need a (count m.now a) plan.channels ≡ held m.now + gift a (count m.now a) plan.channels
held_fired plan a m v f len =
    let k : ℕ = count m.now a in
    let put = held-joined a k plan.channels (left a k plan.channels m.now.tokens) v f.good2.sound.fit.queued len in
    omega (arith, held_read plan a m v f, put)

-- the moves at the front of others
pub plays_fired : (plan : Plan) (a : ℕ) (m new : Machine) (v : List ℤ) (ms : List Move) (rs : List Reply) → IsFired plan a m v
    → Plays (view plan (fired4 plan a m v)) (view plan new) ms rs
    → Plays (view plan m) (view plan new) (Begin a ∷ Read a ∷ Write a v ∷ Finish a ∷ ms)
    (Ok [] ∷ Ok (answer plan (fired1 plan a m v).now (Read a)) ∷ Ok [] ∷ Ok [] ∷ rs)
plays_fired plan a m new v ms rs f plays =
    let n1 : Machine = fired1 plan a m v in
    let n2 : Machine = fired2 plan a m v in
    let n3 : Machine = fired3 plan a m v in
    plays_first plan m n1 new (Begin a) _ _ _ (follows_begun plan a m f.good f.none1)
    (plays_first plan n1 n2 new (Read a) _ _ _ (follows_fetched plan a n1 f.good1 f.none2)
    (plays_first plan n2 n3 new (Write a v) _ _ _ (follows_written plan a n2 f.good2 v f.none3)
    (plays_first plan n3 (fired4 plan a m v) new (Finish a) _ _ _ (follows_finished plan a n3 f.good3 f.none4) plays)))
