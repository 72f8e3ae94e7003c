use Rattle.csdf_claims.proofs.Openings.{opens}
use Rattle.csdf_claims.proofs.board.open_table.Goals as goal

pub of_words-requires : goal.of_words-requires
of_words-requires c = opens _ _ c.requires.count c.requires.zeros
