use Rattle.std.proofs.Common.{◌≤◌, length, below_more, sym, ◌∙◌, arith}
use Rattle.std.proofs.lemmas.Bool.{false≢true}
use Rattle.csdf_analysis.proofs.StallLemmas.{none_full}
use Rattle.csdf_analysis.proofs.waits.first_full.Goals as goal

pub loop-number-preserved : goal.loop-number-preserved
loop-number-preserved c = below_more _ _ c.loop-number.invariant (λ full. false≢true (sym c.if-is_full.false ∙ c.is_full.ensures.1 full))

pub returns : goal.returns
returns c =
    let all : length c.args.net.now.channels ≤ c.loop-number.number = omega (arith, c.loop-number-test.false, c.channels-number-end.ensures.count) in
    none_full _ _ _ c.args.actor c.loop-number.number all c.loop-number.invariant
