use Rattle.std.proofs.Common.{length}
use Rattle.csdf_pool.proofs.Fills.{first_in}
use Rattle.csdf_pool.proofs.fill.last_of_many.Goals as goal

pub leads_on-requires : goal.leads_on-requires
leads_on-requires c = first_in c.args.links.now c.args.first c.args.n c.requires.some (length c.args.links.now) c.requires.in_links
