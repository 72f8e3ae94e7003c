use Rattle.csdf_explain.proofs.stalled.push_room_line.Goals as goal

pub returns : goal.returns
returns c = c.write.ensures.bytes
