use Rattle.std.proofs.Common.{arith, ap, ap₂, sym, subst₂, length, get_or, map, All, ◌∙◌, ◌≡◌, ◌<◌}
use Rattle.csdf_pool.specs.Chains.{cells_of}
use Rattle.csdf_pool.specs.Inside.{no_cells, token_at}
use Rattle.csdf_pool.specs.Pool.{held_cells, held_tokens}
use Rattle.csdf_pool.proofs.Lists.{seconds}
use Rattle.csdf_pool.proofs.Shares.{held_cells-held_in}
use Rattle.csdf_pool.proofs.Views.{length-chains, chain_shown}
use Rattle.csdf_pool.proofs.pool.Pool.tokens.Goals as goal

pub new-requires : goal.new-requires
new-requires c =
    let inside = c.self.inside in
    let known : c.args.chain < length inside.chains.items =
    omega (arith, c.requires, length-chains inside.links.items inside.tokens.items inside.chains.items inside.free c.args.self.now c.self.view_is) in
    let ends = get_or inside.chains.items c.args.chain no_cells in
    let cells : c.cells.result ≡ cells_of inside.links.items ends =
    c.cells.ensures
    ∙ ap held_cells (chain_shown inside.links.items inside.tokens.items inside.chains.items inside.free c.args.self.now c.self.view_is c.args.chain)
    ∙ held_cells-held_in inside.links.items inside.tokens.items ends in
    let size : length c.deref.result.now ≡ length inside.links.items = ap length c.deref.ensures.value ∙ c.self.invariant.same_size in
    subst₂ (λ k xs. All (λ cell. cell < k) xs) (sym size) (sym cells) (c.self.invariant.each_chain c.args.chain known).within

pub returns : goal.returns
returns c =
    let inside = c.self.inside in
    let ends = get_or inside.chains.items c.args.chain no_cells in
    let cells : c.cells.result ≡ cells_of inside.links.items ends =
    c.cells.ensures
    ∙ ap held_cells (chain_shown inside.links.items inside.tokens.items inside.chains.items inside.free c.args.self.now c.self.view_is c.args.chain)
    ∙ held_cells-held_in inside.links.items inside.tokens.items ends in
    c.new.ensures
    ∙ ap₂ (λ t xs. map (token_at t) xs) c.deref.ensures.value cells
    ∙ sym (seconds (token_at inside.tokens.items) (cells_of inside.links.items ends))
    ∙ ap held_tokens (sym (chain_shown inside.links.items inside.tokens.items inside.chains.items inside.free c.args.self.now c.self.view_is c.args.chain))
