use Rattle.std.proofs.Common.{◌≡◌, ℕ, List, length, replicate, ap, subst, sym, ◌∙◌, refl, arith}
use Rattle.std.specs.Prelude.{ℤ, pos}
use Rattle.std.proofs.lemmas.List.{length-replicate}
use Rattle.csdf_core.specs.Blocks.{needs_of, gifts_of, takes_at, parts_of, HoldAll}
use Rattle.csdf_core.specs.Engine.{CanFire, there_of}
use Rattle.csdf_core.specs.Inside.{now_in}
use Rattle.csdf_core.specs.Plan.{Plan}
use Rattle.csdf_core.specs.Ports.{inputs_at, tokens_in}
use Rattle.csdf_core.specs.State.{Present}
use Rattle.csdf_core.specs.Step.{count}
use Rattle.csdf_core.proofs.BlockMachines.{machine}
use Rattle.csdf_core.proofs.Known.{IsKnown, known, reads_held, hold_apart, hold_first, there_held}
use Rattle.csdf_core.proofs.firing_core.Core.peek.Goals as goal
use Rattle.csdf_core.proofs.firing_core.Core.peek.Goals.{After-limit-limit, After-copy_reads}

module _ (c : After-limit-limit) where
  abbrev pub plan : Plan
  plan = c.self.inside.plan

  abbrev pub p : Present
  p = now_in c.self.inside

  abbrev pub k : ℕ
  k = count p c.args.actor

  can : CanFire plan p c.args.actor c.args.n
  can = rw (← c.self.view_is) at c.requires.can

  pub told : (v : List ℤ) → length v ≡ gifts_of plan.channels c.args.actor k c.args.n → IsKnown plan c.args.actor k c.args.n v (machine c.self.inside)
  told v len =
      known plan c.args.actor (c.gives_few.ensures c.args.actor) c.args.n v (machine c.self.inside) (record { sound = c.self.invariant.sound; chains = refl })
      (can v len) len

  pub firing : c.turn-turn.result.firing ≡ k
  firing = rw (← c.self.view_is) at c.turn-turn.ensures.firing

pub copy_reads-requires-clause-enough : goal.copy_reads-requires-clause-enough
copy_reads-requires-clause-enough c =
    let at : After-limit-limit = (goal.at.copy_reads-requires-clause-enough c).After-limit-limit in
    let some : List ℤ = replicate (gifts_of (plan at).channels c.args.actor (k at) c.args.n) (pos 0) in
    λ apart. subst (λ (x : ℕ). HoldAll (tokens_in c.self.inside.pool) (takes_at (plan at).channels x c.args.n) (inputs_at (plan at).channels c.args.actor))
    (sym (firing at))
    (hold_apart (plan at) c.args.actor (c.gives_few.ensures c.args.actor) c.args.n some (machine c.self.inside) (told at some (length-replicate _ _)) apart)

pub copy_reads-requires-clause-first : goal.copy_reads-requires-clause-first
copy_reads-requires-clause-first c =
    let at : After-limit-limit = (goal.at.copy_reads-requires-clause-first c).After-limit-limit in
    let some : List ℤ = replicate (gifts_of (plan at).channels c.args.actor (k at) c.args.n) (pos 0) in
    λ one. subst (λ (x : ℕ). HoldAll (tokens_in c.self.inside.pool) (takes_at (plan at).channels x 1) (inputs_at (plan at).channels c.args.actor))
    (sym (firing at))
    (hold_first (plan at) c.args.actor (k at) c.args.n some (machine c.self.inside) (told at some (length-replicate _ _)) (omega (arith, one)))

pub copy_reads-requires-clause-all : goal.copy_reads-requires-clause-all
copy_reads-requires-clause-all c =
    let at : After-limit-limit = (goal.at.copy_reads-requires-clause-all c).After-limit-limit in
    let all : length c.args.into.now ≡ needs_of (plan at).channels c.args.actor (k at) c.args.n = rw (← c.self.view_is) at c.requires.all in
    all ∙ ap (λ (x : ℕ). needs_of (plan at).channels c.args.actor x c.args.n) (sym (firing at))

pub copy_reads-requires-clause-few : goal.copy_reads-requires-clause-few
copy_reads-requires-clause-few c =
    let at : After-limit-limit = (goal.at.copy_reads-requires-clause-few c).After-limit-limit in
    let some : List ℤ = replicate (gifts_of (plan at).channels c.args.actor (k at) c.args.n) (pos 0) in
    let t = (told at some (length-replicate _ _)).limit in
    omega (arith, t, firing at, c.limit-limit.ensures.value, c.limit-limit.ensures.small)

module _ (c : After-copy_reads) where
  copied : (k : ℕ) → c.turn-turn.result.firing ≡ k
      → c.copy_reads.new.into ≡ there_of c.self.inside.plan.channels c.args.actor k c.args.n (tokens_in c.self.inside.pool)
  copied k firing =
      c.copy_reads.ensures
      ∙ ap (λ (x : ℕ). there_of c.self.inside.plan.channels c.args.actor x c.args.n (tokens_in c.self.inside.pool)) firing

pub returns-clause-there : goal.returns-clause-there
returns-clause-there c =
    let at : After-limit-limit = (goal.at.returns-clause-there c).After-limit-limit in
    let now : After-copy_reads = (goal.at.returns-clause-there c).After-copy_reads in
    rw (← c.self.view_is) (copied now (k at) (firing at))

pub returns-clause-all : goal.returns-clause-all
returns-clause-all c =
    let at : After-limit-limit = (goal.at.returns-clause-all c).After-limit-limit in
    let now : After-copy_reads = (goal.at.returns-clause-all c).After-copy_reads in
    rw (← c.self.view_is)
    (λ holds v len. copied now (k at) (firing at)
    ∙ sym (there_held (plan at).channels c.args.actor (k at) c.args.n (p at).tokens holds)
    ∙ reads_held (plan at) c.args.actor (c.gives_few.ensures c.args.actor) (k at) c.args.n (p at).tokens v holds ∙ sym (told at v len).handed)

pub returns-clause-each : goal.returns-clause-each
returns-clause-each c =
    let at : After-limit-limit = (goal.at.returns-clause-each c).After-limit-limit in
    let now : After-copy_reads = (goal.at.returns-clause-each c).After-copy_reads in
    rw (← c.self.view_is)
    (λ holds v len. (told at v len).reads
    ∙ ap (parts_of (plan at).channels c.args.actor (k at) c.args.n)
    (sym (copied now (k at) (firing at)
    ∙ sym (there_held (plan at).channels c.args.actor (k at) c.args.n (p at).tokens holds)
    ∙ reads_held (plan at) c.args.actor (c.gives_few.ensures c.args.actor) (k at) c.args.n (p at).tokens v holds)))
