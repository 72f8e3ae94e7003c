use Rattle.std.specs.Mem.Slots.{slots_items}
use Rattle.csdf_claims.proofs.Lists.{get_at}
use Rattle.csdf_claims.proofs.board.word_at.Goals as goal

pub returns : goal.returns
returns c = get_at (slots_items c.args.closed.now.words) c.args.i _ c.word.ensures
