use Rattle.std.proofs.Common.{◌≡◌, ◌<◌, ◌≤◌, ◌+◌, ℕ, List, length, get_or, set, ap, subst, sym, ◌∙◌, refl, arith}
use Rattle.std.specs.Prelude.{ℤ, sum_by}
use Rattle.std.specs.Vec.{with_items}
use Rattle.std.proofs.lemmas.List.{with_items_is, get_or_default}
use Rattle.csdf_core.specs.Blocks.{gifts_of, firings_of, AreAccepted, GivesBack}
use Rattle.csdf_core.specs.Inside.{now_in}
use Rattle.csdf_core.specs.Passing.{takes_apart, after_block}
use Rattle.csdf_core.specs.Plan.{Plan}
use Rattle.csdf_core.specs.Ports.{inputs_at, outputs_at, tokens_in, raise_over, EnoughOver}
use Rattle.csdf_core.specs.Rows.{gift}
use Rattle.csdf_core.specs.State.{Present}
use Rattle.csdf_core.specs.Step.{count}
use Rattle.csdf_core.proofs.BlockMachines.{Machine, IsGood, machine}
use Rattle.csdf_core.proofs.MadeBlocks.{IsMade, made, enough_there, room_there, good_there, plays_there}
use Rattle.csdf_core.proofs.RateTotals.{few_gifts_of}
use Rattle.csdf_core.proofs.SoundLemmas.{few_started}
use Rattle.csdf_core.proofs.firing_core.Core.fire_at_once.Goals as goal
use Rattle.csdf_core.proofs.firing_core.Core.fire_at_once.Goals.{After-gives_few, After-advance}

-- the firings
module _ (c : After-gives_few) where
  abbrev pub plan : Plan
  plan = c.self.inside.plan

  abbrev pub p : Present
  p = now_in c.self.inside

  abbrev pub a : ℕ
  a = c.args.actor

  abbrev pub n : ℕ
  n = c.args.n

  abbrev pub v : List ℤ
  v = c.args.tokens.now

  abbrev pub m : Machine
  m = machine c.self.inside

  pub good : IsGood plan m
  good = record { sound = c.self.invariant.sound; chains = refl }

  pub few : (k : ℕ) → gift a k plan.channels ≤ 8192
  few = c.gives_few.ensures a

  pub back : GivesBack plan.channels a
  back = rw (← c.self.view_is) at c.requires.back

  pub accepted : AreAccepted plan p (firings_of plan.channels a (count p a) n v)
  accepted = rw (← c.self.view_is) at c.requires.accepted

  pub all : length v ≡ gifts_of plan.channels a (count p a) n
  all = rw (← c.self.view_is) at c.requires.all

  pub done : (new : Machine) × IsMade plan a (count p a) n v m new
  done = made plan a few back n v m good accepted all

  pub firing : c.turn-turn.result.firing ≡ count p a
  firing = rw (← c.self.view_is) at c.turn-turn.ensures.firing

  pub there : a < length plan.sources
  there = rw (← c.self.view_is) at c.requires.actor

  pub within : count p a + n ≤ 16384000
  within = rw (← c.self.view_is) at c.requires.few

  pub summed : a < length c.self.inside.sums.items
  summed = let t = c.self.invariant.sound.tallied in let h = there in omega (arith, t, h)

pub move_block-requires-clause-count : goal.move_block-requires-clause-count
move_block-requires-clause-count c =
    let at : After-gives_few = (goal.at.move_block-requires-clause-count c).After-gives_few in
    omega (arith, firing at, within at)

pub move_block-requires-clause-all : goal.move_block-requires-clause-all
move_block-requires-clause-all c =
    let at : After-gives_few = (goal.at.move_block-requires-clause-all c).After-gives_few in
    all at ∙ ap (λ (x : ℕ). gifts_of (plan at).channels (a at) x (n at)) (sym (firing at))

pub move_block-requires-clause-enough : goal.move_block-requires-clause-enough
move_block-requires-clause-enough c =
    let at : After-gives_few = (goal.at.move_block-requires-clause-enough c).After-gives_few in
    subst (λ (x : ℕ). EnoughOver (takes_apart (plan at).channels (a at) x (n at)) (inputs_at (plan at).channels (a at)) (tokens_in c.self.inside.pool))
    (sym (firing at))
    (enough_there (plan at) (a at) (few at) (back at) (n at) (v at) (m at) (done at).0 (good at) (accepted at) (all at) (done at).1)

pub move_block-requires-clause-back : goal.move_block-requires-clause-back
move_block-requires-clause-back c =
    let at : After-gives_few = (goal.at.move_block-requires-clause-back c).After-gives_few in
    back at

pub move_block-requires-clause-room : goal.move_block-requires-clause-room
move_block-requires-clause-room c =
    let at : After-gives_few = (goal.at.move_block-requires-clause-room c).After-gives_few in
    subst (λ (x : ℕ). sum_by length (after_block (plan at).channels (a at) x (n at) (v at) (tokens_in c.self.inside.pool)) ≤ c.self.inside.pool.size)
    (sym (firing at))
    (room_there (plan at) (a at) (few at) (back at) (n at) (v at) (m at) (done at).0 (good at) (accepted at) (all at) (done at).1)

pub overflow_add-self : goal.overflow_add-self
overflow_add-self c = omega (arith, few_started _ _ _ _ _ _ _ c.self.invariant.sound, c.from.ensures, c.ranges.n.fits)

pub overflow_add-index_mut : goal.overflow_add-index_mut
overflow_add-index_mut c =
    let at : After-gives_few = (goal.at.overflow_add-index_mut c).After-gives_few in
    let old : c.index_mut.result.now ≡ get_or c.self.inside.sums.items c.args.actor 0 = c.index_mut.ensures.value
    ∙ get_or_default c.self.inside.sums.items c.args.actor c.index_mut.result.now 0 (summed at) in
    let low = c.self.invariant.sound.small c.args.actor (there at) in
    let most = few_gifts_of (plan at).channels c.args.actor (few at) (count (p at) (a at)) c.args.n in
    omega (arith, old, low, within at, all at, most, c.ranges.n.fits)

-- where all has come to
module _ (c : After-advance) (at : After-gives_few) where
  items : (with_items c.self.inside.peaks c.raise_peaks.new.peaks).items ≡ c.raise_peaks.new.peaks
  items = with_items_is c.self.inside.peaks c.raise_peaks.new.peaks (c.raise_peaks.auto.peaks ∙ c.deref_mut.ensures.len)

  abbrev pub counts : List ℕ
  counts = c.advance.new.self.counts.items

  abbrev pub tallies : List ℕ
  tallies = set c.self.inside.sums.items c.args.actor (c.index_mut.result.now + length c.args.tokens.now)

  abbrev pub peaks : List ℕ
  peaks = (with_items c.self.inside.peaks c.raise_peaks.new.peaks).items

  pub tallies_are : c.args.actor < length c.self.inside.sums.items → (g : ℕ) → length c.args.tokens.now ≡ g
      → tallies ≡ set c.self.inside.sums.items c.args.actor (get_or c.self.inside.sums.items c.args.actor 0 + g)
  tallies_are lt g e =
      let old : c.index_mut.result.now ≡ get_or c.self.inside.sums.items c.args.actor 0 = c.index_mut.ensures.value
      ∙ get_or_default c.self.inside.sums.items c.args.actor c.index_mut.result.now 0 lt in
      ap (set c.self.inside.sums.items c.args.actor)
      (let z : c.index_mut.result.now + length c.args.tokens.now ≡ get_or c.self.inside.sums.items c.args.actor 0 + g = omega (arith, old, e) in z)

  pub peaks_are : peaks ≡ raise_over (outputs_at c.self.inside.plan.channels c.args.actor) (tokens_in c.move_block.new.pool) c.self.inside.peaks.items
  peaks_are =
      items ∙ c.raise_peaks.ensures
      ∙ ap (raise_over (outputs_at c.self.inside.plan.channels c.args.actor) (tokens_in c.move_block.new.pool)) c.deref_mut.ensures.value

  pub moved : (k : ℕ) → c.turn-turn.result.firing ≡ k
      → tokens_in c.move_block.new.pool
      ≡ after_block c.self.inside.plan.channels c.args.actor k c.args.n c.args.tokens.now (tokens_in c.self.inside.pool)
  moved k e =
      c.move_block.ensures.moved
      ∙ ap (λ (x : ℕ). after_block c.self.inside.plan.channels c.args.actor x c.args.n c.args.tokens.now (tokens_in c.self.inside.pool)) e

pub invariant_of-self : goal.invariant_of-self
invariant_of-self c =
    let at : After-gives_few = (goal.at.invariant_of-self c).After-gives_few in
    let now : After-advance = (goal.at.invariant_of-self c).After-advance in
    record {
      phases = c.advance.ensures.phases;
      sound = (good_there (plan at) (a at) (few at) (back at) (n at) (v at) (m at) (done at).0 (good at) (accepted at) (all at) (done at).1
          c.requires.some c.move_block.new.pool (moved now at _ (firing at)) c.move_block.ensures.same
          c.move_block.ensures.size c.move_block.ensures.partition (counts now at) (tallies now at) (peaks now at)
          (c.self.inside.started + c.from.result) c.advance.ensures.counts (tallies_are now at (summed at) _ (all at))
          (ap (λ (x : ℕ). c.self.inside.started + x) c.from.ensures) (peaks_are now at)).sound;
    }

pub returns : goal.returns
returns c =
    let at : After-gives_few = (goal.at.returns c).After-gives_few in
    let now : After-advance = (goal.at.returns c).After-advance in
    rw (← c.self.view_is) (record {
      plays = plays_there (plan at) (a at) (few at) (back at) (n at) (v at) (m at) (done at).0 (good at) (accepted at) (all at) (done at).1
          c.requires.some c.move_block.new.pool (moved now at _ (firing at)) c.move_block.ensures.same
          c.move_block.ensures.size c.move_block.ensures.partition (counts now at) (tallies now at) (peaks now at)
          (c.self.inside.started + c.from.result) c.advance.ensures.counts (tallies_are now at (summed at) _ (all at))
          (ap (λ (x : ℕ). c.self.inside.started + x) c.from.ensures) (peaks_are now at);
    })
