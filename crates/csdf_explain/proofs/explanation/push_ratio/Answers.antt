use Rattle.csdf_explain.proofs.explanation.push_ratio.Goals as goal

pub returns : goal.returns
returns c = c.write.ensures.bytes
