use Rattle.std.proofs.Common.{◌≡◌, ◌<◌, ◌≤◌, ℕ, List, [], true, false, length, get_or, ap, sym, subst, ◌∙◌, arith}
use Rattle.std.proofs.lemmas.Grind.{common_steps}
use Rattle.std.specs.Prelude.{ℤ}
use Rattle.std.proofs.lemmas.List.{length-map}
use Rattle.csdf_core.specs.Plan.{Plan}
use Rattle.csdf_core.specs.Rows.{gift, need}
use Rattle.csdf_core.specs.Step.{count, is_source}
use Rattle.csdf_floor.specs.Journal.{Program}
use Rattle.csdf_floor.specs.Making.{amount_of}
use Rattle.csdf_floor.specs.Work.{program}
use Rattle.csdf_floor.proofs.Inputs.{fed_inputs}
use Rattle.csdf_floor.proofs.Works.{item_at}
use Rattle.csdf_floor.proofs.book.Book.firing_inputs.Goals as goal

pub returns-clause-value : goal.returns-clause-value
returns-clause-value c = grind (arith, common_steps)

pub is_source-requires : goal.is_source-requires
is_source-requires c = grind (arith, common_steps)

pub index-requires : goal.index-requires
index-requires c = grind (arith, common_steps)

pub returns-clause-few : goal.returns-clause-few
returns-clause-few c = grind (arith, common_steps)

fed_amount : (w : Program) (a k : ℕ) → is_source w.plan a ≡ true → amount_of w a k ≡ gift a k w.plan.channels
fed_amount w a k e = rw e

read_amount : (w : Program) (a k : ℕ) → is_source w.plan a ≡ false → amount_of w a k ≡ need a k w.plan.channels
read_amount w a k e = rw e

pub returns-then-is_source-clause-value : goal.returns-then-is_source-clause-value
returns-then-is_source-clause-value c =
    let w : Program = program c.args.self.now.shown.work in
    let k : ℕ = count c.args.self.now.shown.core.now c.args.actor in
    let tokens : List ℤ = get_or c.args.self.now.reads c.args.actor [] in
    let source : is_source w.plan c.args.actor ≡ true = rw (← c.self.view_is) (sym c.if-is_source.ensures) in
    c.feed_part.ensures.value ∙ sym (fed_inputs w c.args.actor k tokens source)

pub returns-then-is_source-clause-amount : goal.returns-then-is_source-clause-amount
returns-then-is_source-clause-amount c =
    let w : Program = program c.args.self.now.shown.work in
    let k : ℕ = count c.args.self.now.shown.core.now c.args.actor in
    let source : is_source w.plan c.args.actor ≡ true = rw (← c.self.view_is) (sym c.if-is_source.ensures) in
    let plan : c.args.self.now.shown.core.plan ≡ w.plan = rw (← c.self.view_is) c.self.invariant.kept.plan in
    let all = ap (λ (u : Plan). gift c.args.actor k u.channels) plan ∙ sym (fed_amount w c.args.actor k source) in
    λ _. subst (λ (n : ℕ). length c.feed_part.result.now ≤ n) all c.feed_part.ensures.part

pub returns-clause-amount : goal.returns-clause-amount
returns-clause-amount c =
    let w : Program = program c.args.self.now.shown.work in
    let k : ℕ = count c.args.self.now.shown.core.now c.args.actor in
    let there = rw (← c.self.view_is) at c.requires.exists in
    let within : c.args.actor < length c.self.inside.reads.items =
    omega (arith, there, c.self.invariant.each_actor, length-map c.self.inside.reads.items (λ v. v.items)) in
    let items : c.deref.result.now ≡ get_or c.args.self.now.reads c.args.actor [] =
    rw (← c.self.view_is) (c.deref.ensures.value ∙ item_at c.self.inside.reads.items c.args.actor c.index.result.now within c.index.ensures) in
    let other : is_source w.plan c.args.actor ≡ false = rw (← c.self.view_is) (sym c.if-is_source.ensures) in
    let plan : c.args.self.now.shown.core.plan ≡ w.plan = rw (← c.self.view_is) c.self.invariant.kept.plan in
    let all = ap (λ (u : Plan). need c.args.actor k u.channels) plan ∙ sym (read_amount w c.args.actor k other) in
    λ whole. (let e = ap length items ∙ whole ∙ all in omega (arith, e))
