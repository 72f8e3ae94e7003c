use Rattle.std.proofs.lemmas.Grind.{common_steps}
use Rattle.std.proofs.Common.{◌≡◌, ◌<◌, ◌∙◌, length, refl, sym, arith}
use Rattle.std.specs.Prelude.{ℤ}
use Rattle.std.specs.Global.{Vec}
use Rattle.csdf_floor.proofs.Sames.{same_more, same_item}
use Rattle.csdf_floor.proofs.same.are_same_feeds.Goals as goal

pub returns-then-not-are_same_tokens : goal.returns-then-not-are_same_tokens
returns-then-not-are_same_tokens c =
    let there : c.loop-i.i < length c.args.right.now = omega (arith, c.if-left-right.false, c.loop-i-test.true) in (
      λ e. absurd (cc),
      λ same. c.if-not-are_same_tokens.ensures.1 (c.deref.ensures.value
          ∙ same_item (λ (v : Vec ℤ). v.items) c.args.left.now c.args.right.now c.loop-i.i c.index-left-i.result c.index-right-i.result c.loop-i-test.true there
          c.index-left-i.is c.index-right-i.is same ∙ sym c.deref-in-loop-i.ensures.value),
    )

pub loop-i-preserved : goal.loop-i-preserved
loop-i-preserved c =
    let each : length c.args.left.now ≡ length c.args.right.now = omega (arith, c.if-left-right.false) in
    same_more (λ (v : Vec ℤ). v.items) c.args.left.now c.args.right.now c.loop-i.i c.index-left-i.result c.index-right-i.result c.loop-i-test.true each
    c.index-left-i.is c.index-right-i.is c.loop-i.invariant (sym c.deref.ensures.value ∙ c.if-not-are_same_tokens.ensures.0 refl
    ∙ c.deref-in-loop-i.ensures.value)

pub returns : goal.returns
returns c = grind (arith, common_steps)

pub returns-then-left-right : goal.returns-then-left-right
returns-then-left-right c = grind (arith, common_steps)
