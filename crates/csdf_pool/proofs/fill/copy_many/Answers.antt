use Rattle.std.proofs.Common.{length}
use Rattle.csdf_pool.proofs.Fills.{first_in}
use Rattle.csdf_pool.proofs.fill.copy_many.Goals as goal

pub leads_on-requires : goal.leads_on-requires
leads_on-requires c = first_in c.args.links.now c.args.first (length c.args.tokens.now) c.requires.some (length c.args.links.now) c.requires.in_links
