use Rattle.std.proofs.Common.{◌≡◌, ◌+◌, ◌-◌, ◌<◌, ◌≤◌, ℕ, false, true, List, [], length, get_or, take, drop, ap, ap₂, subst, sym, ◌∙◌, arith}
use Rattle.std.specs.Prelude.{ℤ, slice_range}
use Rattle.std.proofs.lemmas.List.{length-map}
use Rattle.csdf_core.specs.Blocks.{gifts_of, needs_of}
use Rattle.csdf_core.specs.Plan.{Plan}
use Rattle.csdf_core.specs.Step.{count, given, is_source}
use Rattle.csdf_floor.specs.Journal.{Program}
use Rattle.csdf_floor.specs.Making.{phase_values}
use Rattle.csdf_floor.specs.Work.{feeds_in, program}
use Rattle.csdf_floor.proofs.PhaseValues.{fed_long, fed_short, needs_alone, part_of_file, phases_fed, phases_read}
use Rattle.csdf_floor.proofs.Works.{item_at}
use Rattle.csdf_floor.proofs.book.Book.block_inputs.Goals as goal
use Rattle.csdf_floor.proofs.book.Book.block_inputs.Goals.{After-written-used, After-part, After-deref}

-- of a source
module _ (c : After-written-used) where
  abbrev p : Program
  p = program c.self.inside.work

  abbrev k : ℕ
  k = count c.self.inside.core.now c.args.actor

  abbrev n : ℕ
  n = c.args.block.firings

  src : is_source p.plan c.args.actor ≡ true
  src = sym c.if-is_source.ensures

  supply : given p.plan c.args.actor (k + n) ≤ get_or p.plan.supplies c.args.actor 0
  supply =
      subst (λ (u : Plan). is_source u c.args.actor ≡ true → given u c.args.actor (k + n) ≤ get_or u.supplies c.args.actor 0) c.self.invariant.kept.plan
      (c.keeps_within.ensures.supply c.requires.some) src

  written : c.args.block.given ≡ gifts_of p.plan.channels c.args.actor k n
  written =
      let here : c.args.block.given ≡ gifts_of c.self.inside.core.plan.channels c.args.actor k n = rw (← c.self.view_is) at c.requires.given in
      here ∙ ap (λ (u : Plan). gifts_of u.channels c.args.actor k n) c.self.invariant.kept.plan

  used : c.written-used.result ≡ given p.plan c.args.actor k
  used = c.written-used.ensures.value ∙ ap (λ (u : Plan). given u c.args.actor k) c.self.invariant.kept.plan

pub part-requires : goal.part-requires
part-requires c =
    let at : After-written-used = (goal.at.part-requires c).After-written-used in
    omega (arith, used at, written at, fed_short c.self.inside.work c.args.actor (k at) (n at) c.self.invariant.work (supply at))

fed : (c : After-written-used) (xs : List ℤ) → xs ≡ slice_range (get_or (p c).feeds c.args.actor []) c.written-used.result (c.written-used.result + c.args.block.given)
    → xs ≡ part_of_file (p c) c.args.actor (k c) (n c)
fed c xs is =
    let feed : List ℤ = get_or (p c).feeds c.args.actor [] in
    let size : c.written-used.result + c.args.block.given - c.written-used.result ≡ c.args.block.given = omega arith in
    is ∙ ap (λ (j : ℕ). take j (drop c.written-used.result feed)) size
    ∙ ap₂ (λ (j u : ℕ). take j (drop u feed)) (written c) (used c)

pub returns-then-is_source-clause-values : goal.returns-then-is_source-clause-values
returns-then-is_source-clause-values c =
    let at : After-written-used = (goal.at.returns-then-is_source-clause-values c).After-written-used in
    rw (← c.self.view_is) (ap (phase_values (p at) c.args.actor (k at) (n at)) (fed at c.part.result.now c.part.ensures)
    ∙ phases_fed (p at) c.args.actor (k at) (n at) (get_or (feeds_in c.self.inside.reads.items) c.args.actor []) (src at))

pub returns-then-is_source-clause-long : goal.returns-then-is_source-clause-long
returns-then-is_source-clause-long c =
    let at : After-written-used = (goal.at.returns-then-is_source-clause-long c).After-written-used in
    let size = ap length (fed at c.part.result.now c.part.ensures) in
    rw (← c.self.view_is) (omega (arith, size, fed_long c.self.inside.work c.args.actor (k at) (n at) (src at) (supply at)))

-- of another actor
module _ (c : After-deref) where
  abbrev tokens : List ℤ
  tokens = get_or (feeds_in c.self.inside.reads.items) c.args.actor []

  other : is_source (program c.self.inside.work).plan c.args.actor ≡ false
  other = sym c.if-is_source.ensures

  held : c.deref.result.now ≡ tokens
  held =
      let there : c.args.actor < length c.self.inside.core.plan.sources = rw (← c.self.view_is) at c.requires.exists in
      c.deref.ensures.value ∙ item_at c.self.inside.reads.items c.args.actor c.index.result.now
      (omega (arith, there, c.self.invariant.each_actor, length-map c.self.inside.reads.items (λ v. v.items))) c.index.ensures

pub returns-clause-values : goal.returns-clause-values
returns-clause-values c =
    let w : Program = program c.self.inside.work in
    let at : ℕ = count c.self.inside.core.now c.args.actor in
    rw (← c.self.view_is) (ap (phase_values w c.args.actor at c.args.block.firings) (held c)
    ∙ phases_read w c.args.actor at c.args.block.firings (tokens c) (other c))

pub returns-clause-long : goal.returns-clause-long
returns-clause-long c =
    let w : Program = program c.self.inside.work in
    let at : ℕ = count c.self.inside.core.now c.args.actor in
    let buffer : length (tokens c) ≡ needs_of c.self.inside.core.plan.channels c.args.actor at c.args.block.firings = rw (← c.self.view_is) at c.requires.buffer in
    let same = ap (λ (u : Plan). needs_of u.channels c.args.actor at c.args.block.firings) c.self.invariant.kept.plan in
    let size = ap length (held c) in
    rw (← c.self.view_is) (omega (arith, buffer, same, size, needs_alone w c.args.actor at c.args.block.firings (other c)))
