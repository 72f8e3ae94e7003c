use Rattle.std.proofs.lemmas.Grind.{common_steps}
use Rattle.std.proofs.Common.{◌≡◌, ◌<◌, ℕ, List, [], length, set, get_or, ap, subst, sym, refl, ◌∙◌, arith}
use Rattle.std.specs.Prelude.{ℤ, Result, Ok, Err, OnOk}
use Rattle.std.specs.Vec.{with_items}
use Rattle.std.proofs.lemmas.List.{with_items_is, length-map, length-set, get_or-set_same}
use Rattle.csdf_core.specs.Blocks.{gifts_of, needs_of}
use Rattle.csdf_core.specs.Engine.{AreReadWith, CanFire, reads_of}
use Rattle.csdf_core.specs.Plan.{Plan}
use Rattle.csdf_core.specs.Step.{count}
use Rattle.csdf_floor.specs.Floor.{FloorView}
use Rattle.csdf_floor.specs.Making.{AreKeptValues, made_value}
use Rattle.csdf_floor.specs.Work.{feeds_in, program}
use Rattle.csdf_floor.proofs.Books.{book_resized, floor_of}
use Rattle.csdf_floor.proofs.Makings.{can_idle, length_made}
use Rattle.csdf_floor.proofs.Works.{item_at}
use Rattle.csdf_floor.proofs.book.Book.successive_values_into.Goals as goal
use Rattle.csdf_floor.proofs.book.Book.successive_values_into.Goals.{After-push_successive}

pub invariant_of-self : goal.invariant_of-self
invariant_of-self c = book_resized _ c.self.inside.reads.items c.args.actor _ c.self.invariant
    (can_idle c.self.inside.core.plan c.self.inside.core.now c.args.actor c.args.block.firings c.requires.some (rw (← c.self.view_is) at c.requires.block.can))

-- two answers that say more together
on_both : {T E : Type 0} → (r : Result T E) (P Q R : Type 0) → (P → Q → R) → OnOk r P → OnOk r Q → OnOk r R
on_both (Ok x) P Q R f p q = f p q
on_both (Err e) P Q R f p q = tt

module _ (c : After-push_successive) where
  abbrev pub plan : Plan
  plan = c.self.inside.core.plan

  abbrev pub k : ℕ
  k = count c.self.inside.core.now c.args.actor

  abbrev pub n : ℕ
  n = c.args.block.firings

  abbrev pub f : FloorView
  f = floor_of c.self.inside.journal.keeps c.self.inside.work c.self.inside.core c.self.inside.journal.moves c.self.inside.sinks.lists

  within : c.args.actor < length c.self.inside.reads.items
  within =
      let there : c.args.actor < length plan.sources = rw (← c.self.view_is) at c.requires.exists in
      omega (arith, there, c.self.invariant.each_actor, length-map c.self.inside.reads.items (λ v. v.items))

  long : length c.push_successive.new.buffer ≡ needs_of plan.channels c.args.actor k n
  long =
      let all : c.args.block.needed ≡ needs_of plan.channels c.args.actor k n = rw (← c.self.view_is) at c.requires.block.needed in
      grind (arith, common_steps, all)

  pub held : c.push_successive.new.buffer
      ≡ get_or (feeds_in (set c.self.inside.reads.items c.args.actor (with_items c.index_mut-buffer.result.now c.push_successive.new.buffer))) c.args.actor []
  held =
      let made = with_items c.index_mut-buffer.result.now c.push_successive.new.buffer in
      let lists = set c.self.inside.reads.items c.args.actor made in
      let size = length-set c.self.inside.reads.items c.args.actor made in
      let low = within in
      sym (with_items_is c.index_mut-buffer.result.now c.push_successive.new.buffer
      (c.push_successive.auto.buffer ∙ c.peek.auto.into ∙ c.as_mut_slice-into.ensures.len))
      ∙ item_at lists c.args.actor made (omega (arith, size, low)) (sym (get_or-set_same c.self.inside.reads.items c.args.actor made made low))

  pub kept : c.push_successive.new.buffer ≡ reads_of plan.channels c.args.actor k n c.self.inside.core.now.tokens c.push_successive.new.outputs.items
      → c.push_successive.new.outputs.items ≡ made_value (program c.self.inside.work) c.args.actor k n c.push_successive.new.buffer
      → AreKeptValues f c.args.actor n c.push_successive.new.buffer c.push_successive.new.outputs.items
  kept read just =
      let can : CanFire plan c.self.inside.core.now c.args.actor n = rw (← c.self.view_is) at c.requires.block.can in
      let v : List ℤ = c.push_successive.new.outputs.items in
      let size : length v ≡ gifts_of plan.channels c.args.actor k n =
      ap length just ∙ length_made (program c.self.inside.work) c.args.actor k n c.push_successive.new.buffer
      ∙ ap (λ (u : Plan). gifts_of u.channels c.args.actor k n) (sym c.self.invariant.kept.plan) in
      record {
        own = record {
          tokens = c.push_successive.new.buffer;
          long = long;
          read = subst (AreReadWith plan c.self.inside.core.now c.args.actor k n v) (sym read) (c.reads.ensures.read can v size);
          just = just;
        };
        kept = λ _. refl;
      }

pub returns-clause-values : goal.returns-clause-values
returns-clause-values c =
    let at : After-push_successive = (goal.at.returns-clause-values c).After-push_successive in
    rw (← c.self.view_is)
    (on_both c.push_successive.result _ _ _ (λ read just. subst (λ (u : List ℤ). AreKeptValues (f at) c.args.actor (n at) u c.push_successive.new.outputs.items)
    (held at) (kept at read just)) c.push_successive.ensures.read c.push_successive.ensures.values)
