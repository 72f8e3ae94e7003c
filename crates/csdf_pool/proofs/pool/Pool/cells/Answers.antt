use Rattle.std.proofs.Common.{arith, ap, ap₂, sym, length, get_or, ◌∙◌, ◌≡◌, ◌<◌}
use Rattle.csdf_pool.specs.Chains.{cells_of}
use Rattle.csdf_pool.specs.Inside.{no_cells}
use Rattle.csdf_pool.specs.Pool.{held_cells}
use Rattle.csdf_pool.proofs.Shares.{held_cells-held_in}
use Rattle.csdf_pool.proofs.Tables.{get_or-default}
use Rattle.csdf_pool.proofs.Views.{length-chains, chain_shown}
use Rattle.csdf_pool.proofs.pool.Pool.cells.Goals as goal

pub returns : goal.returns
returns c =
    let inside = c.self.inside in
    let known : c.args.chain < length inside.chains.items =
    omega (arith, c.requires, length-chains inside.links.items inside.tokens.items inside.chains.items inside.free c.args.self.now c.self.view_is) in
    let ends : c.index-ends.result.now ≡ get_or inside.chains.items c.args.chain no_cells =
    c.index-ends.ensures ∙ get_or-default inside.chains.items c.args.chain c.index-ends.result.now no_cells known in
    c.new.ensures
    ∙ ap₂ cells_of c.deref.ensures.value ends
    ∙ sym (held_cells-held_in inside.links.items inside.tokens.items (get_or inside.chains.items c.args.chain no_cells))
    ∙ ap held_cells (sym (chain_shown inside.links.items inside.tokens.items inside.chains.items inside.free c.args.self.now c.self.view_is c.args.chain))
