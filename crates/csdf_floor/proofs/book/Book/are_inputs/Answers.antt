use Rattle.std.proofs.Common.{◌≡◌, ◌<◌, ℕ, List, [], true, false, length, get_or, sym, ◌∙◌, arith}
use Rattle.std.proofs.lemmas.Grind.{common_steps}
use Rattle.std.specs.Prelude.{ℤ}
use Rattle.std.proofs.lemmas.List.{length-map}
use Rattle.csdf_core.specs.Step.{count, is_source}
use Rattle.csdf_floor.specs.Journal.{Program, inputs}
use Rattle.csdf_floor.specs.Work.{program}
use Rattle.csdf_floor.proofs.Inputs.{fed_inputs, read_inputs}
use Rattle.csdf_floor.proofs.Works.{item_at}
use Rattle.csdf_floor.proofs.book.Book.are_inputs.Goals as goal

pub is_source-requires : goal.is_source-requires
is_source-requires c = grind (arith, common_steps)

pub index-requires : goal.index-requires
index-requires c = grind (arith, common_steps)

pub returns-then-is_source : goal.returns-then-is_source
returns-then-is_source c =
    let w : Program = program c.args.self.now.shown.work in
    let k : ℕ = count c.args.self.now.shown.core.now c.args.actor in
    let tokens : List ℤ = get_or c.args.self.now.reads c.args.actor [] in
    let source : is_source w.plan c.args.actor ≡ true = rw (← c.self.view_is) (sym c.if-is_source.ensures) in
    let same : c.feed_part.result.now ≡ inputs w c.args.actor k tokens = c.feed_part.ensures.value ∙ sym (fed_inputs w c.args.actor k tokens source) in
    rw same at c.are_same_tokens.ensures

pub returns-else-is_source : goal.returns-else-is_source
returns-else-is_source c =
    let w : Program = program c.args.self.now.shown.work in
    let k : ℕ = count c.args.self.now.shown.core.now c.args.actor in
    let tokens : List ℤ = get_or c.args.self.now.reads c.args.actor [] in
    let there = rw (← c.self.view_is) at c.requires.exists in
    let within : c.args.actor < length c.self.inside.reads.items =
    omega (arith, there, c.self.invariant.each_actor, length-map c.self.inside.reads.items (λ v. v.items)) in
    let items : c.deref.result.now ≡ get_or c.args.self.now.reads c.args.actor [] =
    rw (← c.self.view_is) (c.deref.ensures.value ∙ item_at c.self.inside.reads.items c.args.actor c.index.result.now within c.index.ensures) in
    let other : is_source w.plan c.args.actor ≡ false = rw (← c.self.view_is) (sym c.if-is_source.ensures) in
    let same : c.deref.result.now ≡ inputs w c.args.actor k tokens = items ∙ sym (read_inputs w c.args.actor k tokens other) in
    rw same at c.are_same_tokens-else-is_source.ensures
