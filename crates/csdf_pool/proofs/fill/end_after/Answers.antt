use Rattle.std.proofs.Common.{◌∙◌}
use Rattle.csdf_pool.proofs.Segments.{segment_within, segment_end}
use Rattle.csdf_pool.proofs.fill.end_after.Goals as goal

pub last_of-requires-clause-in_links : goal.last_of-requires-clause-in_links
last_of-requires-clause-in_links c = segment_within c.args.links.now c.args.chain c.args.n c.requires.enough c.requires.chain

pub returns : goal.returns
returns c = c.last_of.ensures ∙ segment_end c.args.links.now c.args.chain c.args.n c.requires.enough c.requires.some
