use Rattle.csdf_explain.proofs.stalled.push_tokens_line.Goals as goal

pub returns : goal.returns
returns c = c.write.ensures.bytes
