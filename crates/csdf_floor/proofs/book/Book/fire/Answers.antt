use Rattle.std.proofs.lemmas.Grind.{common_steps}
use Rattle.std.proofs.Common.{◌≡◌, ◌<◌, ◌++◌, List, [], length, get_or, set, cond, ap, sym, subst, ◌∙◌, arith, Bool}
use Rattle.std.specs.Prelude.{ℤ}
use Rattle.std.proofs.lemmas.List.{length-map}
use Rattle.csdf_core.specs.Engine.{CanFire}
use Rattle.csdf_core.specs.declared.stage.Stage.TheVariants.{Idle}
use Rattle.csdf_core.specs.Step.{count, stage}
use Rattle.csdf_floor.specs.Inside.{BookView, IsBook}
use Rattle.csdf_floor.specs.Making.{AreKeptValues}
use Rattle.csdf_floor.specs.Work.{feeds_in}
use Rattle.csdf_core.proofs.Runs.{on_err}
use Rattle.csdf_floor.proofs.Books.{floor_of, sinks_each, sinks_after}
use Rattle.csdf_floor.proofs.Makings.{IsMade, all_given, can_idle, book_fired, fired_book, has_made, sinks_alike}
use Rattle.csdf_floor.proofs.Works.{item_at}
use Rattle.csdf_floor.proofs.book.Book.fire.Goals as goal
use Rattle.csdf_floor.proofs.book.Book.fire.Goals.{After-append_where}

pub fire-requires-clause-all : goal.fire-requires-clause-all
fire-requires-clause-all c =
    let values : AreKeptValues (floor_of c.self.inside.journal.keeps c.self.inside.work c.self.inside.core c.self.inside.journal.moves c.self.inside.sinks.lists)
    c.args.actor c.args.n (get_or (feeds_in c.self.inside.reads.items) c.args.actor []) c.args.tokens.now = rw (← c.self.view_is) at c.requires.values in
    all_given (floor_of c.self.inside.journal.keeps c.self.inside.work c.self.inside.core c.self.inside.journal.moves c.self.inside.sinks.lists)
    c.args.actor c.args.n c.args.tokens.now c.self.invariant.kept.plan values.own

pub append_where-requires-clause-exists : goal.append_where-requires-clause-exists
append_where-requires-clause-exists c =
    let there : c.args.actor < length c.self.inside.core.plan.sources = rw (← c.self.view_is) at c.requires.exists in
    omega (arith, there, sinks_each _ _ _ _ _ c.self.invariant)

-- where all has come to
module _ (c : After-append_where) where
  abbrev buffer : List ℤ
  buffer = get_or (feeds_in c.self.inside.reads.items) c.args.actor []

  values : AreKeptValues (floor_of c.self.inside.journal.keeps c.self.inside.work c.self.inside.core c.self.inside.journal.moves c.self.inside.sinks.lists)
      c.args.actor c.args.n buffer c.args.tokens.now
  values = rw (← c.self.view_is) at c.requires.values

  there : c.args.actor < length c.self.inside.core.plan.sources
  there = rw (← c.self.view_is) at c.requires.exists

  idle : stage c.self.inside.core.now c.args.actor ≡ Idle
  idle =
      let can : CanFire c.self.inside.core.plan c.self.inside.core.now c.args.actor c.args.n = rw (← c.self.view_is) at c.requires.can in
      can_idle c.self.inside.core.plan c.self.inside.core.now c.args.actor c.args.n c.requires.some can

  within : c.args.actor < length c.self.inside.reads.items
  within =
      omega (arith, there, c.self.invariant.each_actor, length-map c.self.inside.reads.items (λ v. v.items))

  held : c.deref.result.now ≡ buffer
  held = c.deref.ensures.value ∙ item_at c.self.inside.reads.items c.args.actor c.index-taken.result.now within c.index-taken.ensures

  took : c.append_where.new.self.lists ≡ sinks_after c.self.inside.work c.self.inside.sinks.lists c.args.actor values.own.tokens
  took =
      c.append_where.ensures
      ∙ ap (λ (b : Bool). cond b (set c.self.inside.sinks.lists c.args.actor (get_or c.self.inside.sinks.lists c.args.actor [] ++ c.deref.result.now))
      c.self.inside.sinks.lists) c.is_sink-is_sink.ensures
      ∙ ap (sinks_after c.self.inside.work c.self.inside.sinks.lists c.args.actor) held
      ∙ sinks_alike c.self.inside.work c.self.inside.sinks.lists c.args.actor buffer values.own.tokens values.kept

  made : IsMade c.self.inside.journal.keeps c.self.inside.work c.self.inside.core c.fire.new.self c.self.inside.journal.moves c.self.inside.sinks.lists
      (feeds_in c.self.inside.reads.items) c.args.actor (count c.self.inside.core.now c.args.actor) c.args.n values.own.tokens c.args.tokens.now
  made = fired_book c.self.inside.journal.keeps c.self.inside.work c.self.inside.core c.fire.new.self c.self.inside.journal.moves
      c.self.inside.sinks.lists (feeds_in c.self.inside.reads.items) c.args.actor c.args.n c.args.tokens.now c.self.invariant there idle values.own
      c.fire.ensures.plays

pub invariant_of-self-2 : goal.invariant_of-self-2
invariant_of-self-2 c =
    let at : After-append_where = (goal.at.invariant_of-self-2 c).After-append_where in
    subst (λ (b : Bool). IsBook (floor_of b c.self.inside.work c.fire.new.self c.note_firings.new.journal.moves c.append_where.new.self.lists)
    (feeds_in c.self.inside.reads.items)) (sym c.note_firings.ensures.keeps)
    (book_fired c.self.inside.journal.keeps c.self.inside.journal.keeps c.self.inside.work c.self.inside.core c.fire.new.self c.self.inside.journal.moves
    c.note_firings.new.journal.moves c.self.inside.sinks.lists c.append_where.new.self.lists (feeds_in c.self.inside.reads.items) c.args.actor c.args.n
    (values at).own.tokens c.args.tokens.now c.self.invariant (made at) c.in_ok-note_firings.ensures.moves (took at))

pub returns-clause-made : goal.returns-clause-made
returns-clause-made c =
    let at : After-append_where = (goal.at.returns-clause-made c).After-append_where in
    rw (← c.self.view_is) (has_made c.self.inside.journal.keeps c.self.inside.work c.self.inside.core c.fire.new.self c.self.inside.journal
    c.note_firings.new.journal c.self.inside.sinks c.append_where.new.self (feeds_in c.self.inside.reads.items)
    c.args.actor c.args.n (values at).own.tokens c.args.tokens.now c.self.invariant.kept.plan (made at) c.in_ok-note_firings.ensures.moves
    c.note_firings.ensures.keeps)

pub is_sink-is_sink-requires : goal.is_sink-is_sink-requires
is_sink-is_sink-requires c = grind (arith, common_steps)

pub index-taken-requires : goal.index-taken-requires
index-taken-requires c = grind (arith, common_steps)

pub fire-requires-clause-can : goal.fire-requires-clause-can
fire-requires-clause-can c = rw (← c.self.view_is) at c.requires.can

pub returns-clause-room : goal.returns-clause-room
returns-clause-room c = grind (arith, common_steps)

pub invariant_of-self : goal.invariant_of-self
invariant_of-self c = rw (c.note_firings.ensures.keeps, c.in_err-note_firings.ensures.unchanged) c.self.invariant

pub returns-in_err-note_firings-clause-unchanged : goal.returns-in_err-note_firings-clause-unchanged
returns-in_err-note_firings-clause-unchanged c =
    let same : floor_of c.note_firings.new.journal.keeps c.self.inside.work c.self.inside.core c.note_firings.new.journal.moves c.self.inside.sinks.lists
    ≡ c.args.self.now.shown =
    rw (c.note_firings.ensures.keeps, c.in_err-note_firings.ensures.unchanged) (ap (λ (b : BookView). b.shown) c.self.view_is) in
    on_err _ _ same

pub keeps_within-requires-clause-actor : goal.keeps_within-requires-clause-actor
keeps_within-requires-clause-actor c = rw (← c.self.view_is) at c.requires.exists

pub keeps_within-requires-clause-can : goal.keeps_within-requires-clause-can
keeps_within-requires-clause-can c = rw (← c.self.view_is) at c.requires.can
