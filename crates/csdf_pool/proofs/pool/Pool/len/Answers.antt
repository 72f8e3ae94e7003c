use Rattle.std.proofs.Common.{arith, ap, sym, length, get_or, ◌∙◌, ◌≡◌, ◌<◌}
use Rattle.csdf_pool.specs.declared.ends.Ends.{Ends}
use Rattle.csdf_pool.specs.Inside.{no_cells}
use Rattle.csdf_pool.proofs.Moves.{chain_fits}
use Rattle.csdf_pool.proofs.Tables.{get_or-default}
use Rattle.csdf_pool.proofs.Views.{length-chains, length-chain}
use Rattle.csdf_pool.proofs.pool.Pool.len.Goals as goal

pub overflow_cast-result : goal.overflow_cast-result
overflow_cast-result c =
    let inside = c.self.inside in
    let known : c.args.chain < length inside.chains.items =
    omega (arith, c.requires, length-chains inside.links.items inside.tokens.items inside.chains.items inside.free c.args.self.now c.self.view_is) in
    let ends : c.index.result.now ≡ get_or inside.chains.items c.args.chain no_cells =
    c.index.ensures ∙ get_or-default inside.chains.items c.args.chain c.index.result.now no_cells known in
    let fits = chain_fits inside.links.items inside.tokens.items inside.chains.items inside.free c.self.invariant c.args.chain known in
    omega (arith, c.self.invariant.size_fits, fits, ap (λ (e : Ends). e.length) ends)

pub returns : goal.returns
returns c =
    let inside = c.self.inside in
    let known : c.args.chain < length inside.chains.items =
    omega (arith, c.requires, length-chains inside.links.items inside.tokens.items inside.chains.items inside.free c.args.self.now c.self.view_is) in
    let ends : c.index.result.now ≡ get_or inside.chains.items c.args.chain no_cells =
    c.index.ensures ∙ get_or-default inside.chains.items c.args.chain c.index.result.now no_cells known in
    ap (λ (e : Ends). e.length) ends
    ∙ sym (length-chain inside.links.items inside.tokens.items inside.chains.items inside.free c.args.self.now c.self.view_is c.args.chain)
