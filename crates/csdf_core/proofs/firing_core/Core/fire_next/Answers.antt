use Rattle.std.proofs.Common.{◌≡◌, ◌<◌, ◌≤◌, ◌+◌, ℕ, suc, length, get_or, set, ap, subst, sym, ◌∙◌, refl, arith, None}
use Rattle.std.specs.Vec.{with_items}
use Rattle.std.proofs.lemmas.List.{with_items_is, get_or_default}
use Rattle.csdf_core.specs.Inside.{now_in}
use Rattle.csdf_core.specs.Moves.{Begin}
use Rattle.csdf_core.specs.Plan.{Plan}
use Rattle.csdf_core.specs.Ports.{outputs_at, tokens_in, raise_over}
use Rattle.csdf_core.specs.Rows.{gift}
use Rattle.csdf_core.specs.State.{Present}
use Rattle.csdf_core.specs.Step.{count, refusal}
use Rattle.csdf_core.specs.Transfers.{after_read, after_write}
use Rattle.csdf_core.proofs.BlockMachines.{Machine, IsGood, machine, all_told}
use Rattle.csdf_core.proofs.BlockMoves.{machine_same}
use Rattle.csdf_core.proofs.Fired.{peaks_fired, has_fired}
use Rattle.csdf_core.proofs.FiringMoves.{IsFired, fired1, fired2, fired4, is_fired}
use Rattle.csdf_core.proofs.Kept.{Begins, begins}
use Rattle.csdf_core.proofs.Moving.{enough_here, cells_to_write}
use Rattle.csdf_core.proofs.Presents.{present_same}
use Rattle.csdf_core.proofs.SoundLemmas.{few_started}
use Rattle.csdf_core.proofs.firing_core.Core.fire_next.Goals as goal
use Rattle.csdf_core.proofs.firing_core.Core.fire_next.Goals.{After-gives_few, After-advance}

-- the firing
module _ (c : After-gives_few) where
  abbrev pub plan : Plan
  plan = c.self.inside.plan

  abbrev pub p : Present
  p = now_in c.self.inside

  abbrev pub a : ℕ
  a = c.args.actor

  abbrev pub m : Machine
  m = machine c.self.inside

  pub good : IsGood plan m
  good = record { sound = c.self.invariant.sound; chains = refl }

  none : refusal plan p (Begin a) ≡ None
  none = rw (← c.self.view_is) at c.requires.begins

  pub whole : length c.args.tokens.now ≡ gift a (count p a) plan.channels
  whole = rw (← c.self.view_is) at c.requires.all

  pub begun : Begins plan p a
  begun = begins plan p a none

  pub four : IsFired plan a m c.args.tokens.now
  four = is_fired plan a m c.args.tokens.now good begun.there begun.idle none whole (c.gives_few.ensures a (count p a))

  pub firing : c.turn-turn.result.firing ≡ count p a
  firing = rw (← c.self.view_is) at c.turn-turn.ensures.firing

  pub summed : a < length c.self.inside.sums.items
  summed = let t = c.self.invariant.sound.tallied in let there = begun.there in omega (arith, t, there)

pub fire_once-requires-clause-enough : goal.fire_once-requires-clause-enough
fire_once-requires-clause-enough c =
    let at : After-gives_few = (goal.at.fire_once-requires-clause-enough c).After-gives_few in
    enough_here (plan at) (fired1 (plan at) (a at) (m at) c.args.tokens.now).now (a at) c.turn-turn.result.firing
    (four at).good1.sound.fit (four at).none2 (firing at)

pub fire_once-requires-clause-room : goal.fire_once-requires-clause-room
fire_once-requires-clause-room c =
    let at : After-gives_few = (goal.at.fire_once-requires-clause-room c).After-gives_few in
    let n2 : Machine = fired2 (plan at) (a at) (m at) c.args.tokens.now in
    let free = cells_to_write (plan at) n2.now (a at) (length n2.pool.free) c.args.tokens.now (four at).good2.sound.fit (four at).none3
    (all_told (plan at) (a at) n2 (four at).good2) in
    subst (λ (x : ℕ). gift (a at) x (plan at).channels ≤ length (after_read (plan at) (a at) x c.self.inside.pool).free) (sym (firing at))
    (let w = whole at in omega (arith, free, w))

pub overflow_add-self : goal.overflow_add-self
overflow_add-self c = omega (arith, few_started _ _ _ _ _ _ _ c.self.invariant.sound)

pub overflow_add-index_mut : goal.overflow_add-index_mut
overflow_add-index_mut c =
    let at : After-gives_few = (goal.at.overflow_add-index_mut c).After-gives_few in
    let old : c.index_mut.result.now ≡ get_or c.self.inside.sums.items c.args.actor 0 = c.index_mut.ensures.value
    ∙ get_or_default c.self.inside.sums.items c.args.actor c.index_mut.result.now 0 (summed at) in
    let low = c.self.invariant.sound.small c.args.actor (begun at).there in
    let few_before = c.turn-turn.ensures.few in
    omega (arith, old, low, firing at, few_before, whole at, c.gives_few.ensures c.args.actor (count (p at) (a at)))

-- where all has come to
module _ (c : After-advance) where
  abbrev q : Plan
  q = c.self.inside.plan

  abbrev b : ℕ
  b = c.args.actor

  abbrev k : ℕ
  k = count (now_in c.self.inside) b

  abbrev was : Machine
  was = machine c.self.inside

  abbrev there : Machine
  there = record {
    now = record {
      counts = c.advance.new.self.counts.items;
      stages = c.self.inside.stages.items;
      opens = c.self.inside.opens.items;
      tokens = tokens_in c.fire_once.new.pool;
    };
    peaks = (with_items c.self.inside.peaks c.fire_once.new.peaks).items;
    sums = set c.self.inside.sums.items c.args.actor (c.index_mut.result.now + length c.args.tokens.now);
    started = c.self.inside.started + 1;
    kept = c.self.inside.reserved;
    pool = c.fire_once.new.pool;
  }

  lands : (s : IsFired q b was c.args.tokens.now) → c.turn-turn.result.firing ≡ k → length c.args.tokens.now ≡ gift b k q.channels
      → b < length c.self.inside.sums.items → fired4 q b was c.args.tokens.now ≡ there
  lands s firing whole summed =
      let pool_is : (fired4 q b was c.args.tokens.now).pool ≡ c.fire_once.new.pool =
      sym (c.fire_once.ensures.cells ∙ ap (λ (x : ℕ). after_write q b x (after_read q b x c.self.inside.pool) c.args.tokens.now) firing) in
      let tokens_are : (fired4 q b was c.args.tokens.now).now.tokens ≡ tokens_in c.fire_once.new.pool = sym s.good4.chains ∙ ap tokens_in pool_is in
      let items : (with_items c.self.inside.peaks c.fire_once.new.peaks).items ≡ c.fire_once.new.peaks =
      with_items_is c.self.inside.peaks c.fire_once.new.peaks (c.fire_once.auto.peaks ∙ c.deref_mut.ensures.len) in
      let old : c.index_mut.result.now ≡ get_or c.self.inside.sums.items b 0 = c.index_mut.ensures.value
      ∙ get_or_default c.self.inside.sums.items b c.index_mut.result.now 0 summed in
      machine_same (fired4 q b was c.args.tokens.now) there
      (present_same (fired4 q b was c.args.tokens.now).now there.now
      (sym (c.advance.ensures.counts ∙ ap (set c.self.inside.nexts.counts.items b) (let e : k + 1 ≡ suc k = omega arith in e))) s.stages refl tokens_are)
      (peaks_fired q b was c.args.tokens.now s
      ∙ ap (λ ts. raise_over (outputs_at q.channels b) ts c.self.inside.peaks.items) tokens_are
      ∙ ap (raise_over (outputs_at q.channels b) (tokens_in c.fire_once.new.pool)) (sym c.deref_mut.ensures.value)
      ∙ sym c.fire_once.ensures.peaks ∙ sym items)
      (ap (set c.self.inside.sums.items b)
      (let e : get_or c.self.inside.sums.items b 0 + gift b k q.channels ≡ c.index_mut.result.now + length c.args.tokens.now = omega (arith, old, whole) in e))
      refl s.kept pool_is

pub invariant_of-self : goal.invariant_of-self
invariant_of-self c =
    let at : After-gives_few = (goal.at.invariant_of-self c).After-gives_few in
    let now : After-advance = (goal.at.invariant_of-self c).After-advance in
    record {
      phases = c.advance.ensures.phases;
      sound = (subst (IsGood c.self.inside.plan) (lands now (four at) (firing at) (whole at) (summed at)) (four at).good4).sound;
    }

pub returns : goal.returns
returns c =
    let at : After-gives_few = (goal.at.returns c).After-gives_few in
    let now : After-advance = (goal.at.returns c).After-advance in
    rw (← c.self.view_is)
    (has_fired c.self.inside.plan c.args.actor (m at) (there now) c.args.tokens.now (four at) (lands now (four at) (firing at) (whole at) (summed at)))
