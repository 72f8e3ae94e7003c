use Rattle.csdf_answers.proofs.DotLemmas.{one_more}
use Rattle.csdf_answers.proofs.drawing.push_dots.Goals as goal

pub loop-preserved : goal.loop-preserved
loop-preserved c = one_more c.args.tokens.now c.loop.index _ _ _ c.loop-test.true c.in_ok-push_str.ensures.bytes c.loop.invariant
