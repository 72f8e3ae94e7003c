use Rattle.std.proofs.Common.{◌<◌, length, get_or, refl, ◌∙◌, below_more, arith}
use Rattle.std.proofs.lemmas.List.{get_or_default}
use Rattle.std.proofs.lemmas.Bool.{false≢true}
use Rattle.csdf_analysis.proofs.RunLemmas.{room_all, room_some}
use Rattle.csdf_analysis.proofs.run.Run.has_room.Goals as goal

pub index-requires : goal.index-requires
index-requires c = omega (
  arith,
  c.outputs-number-items.ensures.within c.loop-number.number-index 0 c.loop-number-test.true,
  c.requires.run.at.each_bound,
  c.args.self.now.bounds.ok.0,
)

pub returns-then-filled-index : goal.returns-then-filled-index
returns-then-filled-index c =
    let within : get_or c.outputs-number-items.result.now c.loop-number.number-index 0 < length c.args.self.now.bounds.items =
    omega (arith, c.outputs-number-items.ensures.within c.loop-number.number-index 0 c.loop-number-test.true, c.requires.run.at.each_bound) in
    let bound = c.index.ensures ∙ get_or_default _ _ c.index.result.now 0 within in (
      λ e. absurd (false≢true e),
      λ has.
          let some = room_some _ _ _ c.outputs-number-items.result.now _ c.loop-number.number-index c.outputs-number-items.ensures.value c.loop-number-test.true
          has in
          let filled = c.filled.ensures (some.0) some.1 in
          let le = some.2 in
          absurd (omega (arith, filled, le, bound, c.if-filled-index.true)),
    )

pub loop-number-preserved : goal.loop-number-preserved
loop-number-preserved c =
    let within : get_or c.outputs-number-items.result.now c.loop-number.number-index 0 < length c.args.self.now.bounds.items =
    omega (arith, c.outputs-number-items.ensures.within c.loop-number.number-index 0 c.loop-number-test.true, c.requires.run.at.each_bound) in
    let bound = c.index.ensures ∙ get_or_default _ _ c.index.result.now 0 within in
    below_more _ _ c.loop-number.invariant (λ d at. (let filled = c.filled.ensures d at in omega (arith, filled, bound, c.if-filled-index.false)))

pub returns : goal.returns
returns c = (
  λ _. room_all _ _ _ c.outputs-number-items.result.now _ c.loop-number.number-index c.outputs-number-items.ensures.value c.loop-number-test.false
      c.loop-number.invariant,
  λ _. refl,
)
