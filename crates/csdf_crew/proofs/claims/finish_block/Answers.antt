use Rattle.std.proofs.Common.{rules}
use Rattle.csdf_crew.proofs.Held.{block_fits, block_held, block_just, block_made}
use Rattle.csdf_crew.proofs.claims.finish_block.Goals as goal

pub done_many-requires-clause-held : goal.done_many-requires-clause-held
done_many-requires-clause-held g c =
    block_held c.args.place.now.view c.args.made.claim c.claim.result c.args.beside c.args.made.count c.count.result c.requires.holds c.claim.ensures
    c.count.ensures

pub done_many-requires-clause-fits : goal.done_many-requires-clause-fits
done_many-requires-clause-fits g c =
    block_fits c.args.place.now.view c.args.made.claim c.claim.result c.args.beside c.args.made.count c.count.result c.requires.holds c.claim.ensures
    c.count.ensures c.requires.fits

pub returns-clause-holds : goal.returns-clause-holds
returns-clause-holds g c =
    block_just c.args.place.now.view c.args.made.claim c.claim.result c.args.beside c.args.made.count c.count.result c.requires.holds c.claim.ensures
    c.count.ensures c.done_many.new.place.view c.done_many.ensures.view

pub returns-clause-made : goal.returns-clause-made
returns-clause-made g c =
    block_made c.args.place.now.view c.args.made.claim c.claim.result c.args.beside c.args.made.count c.count.result c.requires.holds c.claim.ensures
    c.count.ensures c.done_many.new.place.view c.done_many.ensures.each

pub returns-clause-told : goal.returns-clause-told
returns-clause-told g c = search rules
