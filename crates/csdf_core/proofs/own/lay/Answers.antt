use Rattle.std.proofs.Common.{◌≡◌, ◌<◌, ◌≤◌, ◌+◌, ◌-◌, ◌++◌, ℕ, cond, Bool, false, List, length, get_or, take, drop, ap, subst, sym, ◌∙◌, refl, rules, arith}
use Rattle.std.specs.Prelude.{ℤ, sum_by}
use Rattle.std.proofs.lemmas.Slice.{overwrites}
use borrow.Rule.Slice.PartMut.{put_mid}
use Rattle.csdf_core.specs.declared.own_places.OwnPlace.{OwnPlace}
use Rattle.csdf_core.specs.Own.{IsPlaced, own_laid}
use Rattle.csdf_core.specs.Ports.{inputs_at, take_at}
use Rattle.csdf_core.proofs.BlockReads.{within_all}
use Rattle.csdf_core.proofs.OwnPlaces.{taken_more}
use Rattle.csdf_core.proofs.OwnReads.{laid_more, own_at}
use Rattle.csdf_core.proofs.PortLemmas.{need_is}
use Rattle.csdf_core.proofs.own.lay.Goals as goal

pub loop-place-init : goal.loop-place-init
loop-place-init c = record {
  whole = need_is c.args.actor c.args.turn.firing c.args.plan.now.channels ∙ sym c.requires.all;
  laid = λ tokens own. refl;
}

pub loop-place-preserved : goal.loop-place-preserved
loop-place-preserved c =
    let cs = c.args.plan.now.channels in
    let a : ℕ = c.args.actor in
    let i : ℕ = c.loop-place.place in
    let ns : List ℕ = inputs_at cs a in
    let amount : ℕ → ℕ = take_at cs c.args.turn.firing in
    let none : OwnPlace =
    record { is_own = false; slot = record { need = 0; from = 0; taken = 0 }; share = record { all = 0; from = 0; own = 0 } } in
    let p : OwnPlace = get_or c.args.places.now i none in
    let test = c.loop-place-test.true in
    let less : i < length ns = omega (arith, test, c.requires.placed.each_input) in
    let placed : IsPlaced cs a c.args.turn.firing i p = c.requires.placed.placed i none less in
    let at : ℕ = p.slot.from in
    let m : ℕ = p.slot.taken in
    let into : List ℤ = c.loop-place.part in
    let new : List ℤ = put_mid at (at + m - at) into c.lay_one.new.part in
    let fits : at + m ≤ length into =
    omega (arith, placed.slot.from_is, placed.slot.taken_is, within_all amount ns i less, c.loop-place.invariant.whole) in
    let front : take (at + m) new ≡ take at into ++ c.lay_one.new.part = search (rules, overwrites, fits) in
    let back : drop (at + m) new ≡ drop (at + m) into = search (rules, overwrites, fits) in
    let size : length new ≡ length into = search (rules, overwrites, fits) in
    let chunk = c.lay_one.ensures
    ∙ ap (λ (b : Bool). take (length (take (at + m - at) (drop at into))) (cond b c.index-queues-place.result (take (at + m - at) (drop at into)))) placed.own in
    let next : at + m ≡ sum_by amount (take (i + 1) ns) =
    omega (arith, placed.slot.from_is, placed.slot.taken_is, taken_more amount ns i less) in
    record {
      whole = c.loop-place.invariant.whole ∙ sym size;
      laid = λ tokens own.
          subst (λ (j : ℕ). take j new ++ own_laid cs a amount (drop (i + 1) ns) tokens (drop j new) ≡ own_laid cs a amount ns tokens c.args.part.now)
          next
          (laid_more cs a amount ns tokens i at m c.index-queues-place.result c.lay_one.new.part into new _ less
          placed.slot.taken_is fits
          (own_at cs a ns tokens c.args.queues.now i c.index-queues-place.result refl own less c.index-queues-place.is) chunk front back
          (subst (λ (j : ℕ). take j into ++ own_laid cs a amount (drop i ns) tokens (drop j into) ≡ own_laid cs a amount ns tokens c.args.part.now)
          (sym placed.slot.from_is) (c.loop-place.invariant.laid tokens own)));
    }
